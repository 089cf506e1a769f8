-- Storing a record in a blank slot: the set of (record, contents) pairs has that pair more.
use Rattle.std.specs.Prelude.{ℕ, ◌<◌, ◌≡◌, List, length}
use Rattle.std.proofs.Common.{sym, ap, ◌∙◌, inl, inr}
use Rattle.bounded.specs.Parts.{update}
use Rattle.bounded.specs.PartsLaws.{update_same, update_other}
use Rattle.bounded.specs.Choice.{on_eq}
use Rattle.record.specs.declared.Record.{Record}
use Rattle.std.specs.Prelude.{None, Some}
use Rattle.record.specs.Slot.{slot_in, bytes_at}
use Rattle.record.specs.SlotLaws.{Storable, holds_one}
use Rattle.record.specs.Flash.{Flash, Step, apply_in}
use Rattle.record.specs.FlashLaws.{SizedIn, store_slots, store_bytes, at_slot}
use Rattle.table.proofs.TableLaws.{blank_holds}
use Rattle.protocol.proofs.Stored.{Adds}
use Rattle.atomicity.specs.Family.{Family}
use Rattle.atomicity.proofs.steps.Invariant.{Held}

module _ (F : Family) (w S : ℕ) (f : Flash) (size : SizedIn F.layout w S f) (k : ℕ) (inside : k < S) (r : Record) (bytes : List ℕ) (whole : length bytes ≡ w)
    (storable : Storable F.layout r) (free : slot_in F.layout f.words k ≡ None) where
  abbrev stored : Flash
  stored = apply_in F.layout w f (Step.Store k r bytes)

  slot_there : slot_in F.layout stored.words k ≡ Some r
  slot_there = at_slot (store_slots F.layout w S f size k inside r bytes whole storable) k ∙ update_same (slot_in F.layout f.words) k (Some r)

  slot_elsewhere : (i : ℕ) → ¬ (i ≡ k) → slot_in F.layout stored.words i ≡ slot_in F.layout f.words i
  slot_elsewhere i d = at_slot (store_slots F.layout w S f size k inside r bytes whole storable) i ∙ update_other (slot_in F.layout f.words) k (Some r) i d

  bytes_there : bytes_at w stored.contents k ≡ bytes
  bytes_there = at_slot (store_bytes F.layout w S f size k inside r bytes whole) k ∙ update_same (bytes_at w f.contents) k bytes

  bytes_elsewhere : (i : ℕ) → ¬ (i ≡ k) → bytes_at w stored.contents i ≡ bytes_at w f.contents i
  bytes_elsewhere i d = at_slot (store_bytes F.layout w S f size k inside r bytes whole) i ∙ update_other (bytes_at w f.contents) k bytes i d

  -- a slot that held a record is another
  another : (i : ℕ) (x : Record) → slot_in F.layout f.words i ≡ Some x → ¬ (i ≡ k)
  another i x e q = blank_holds (ap (slot_in F.layout f.words) q ∙ free) e

  pub store_adds : Adds (Held F w S f) (Held F w S stored) r bytes
  store_adds =
      record {
        grows = λ x b h. let d = another h.0 x h.2 in (h.0, h.1, slot_elsewhere h.0 d ∙ h.2, bytes_elsewhere h.0 d ∙ h.3);
        added = (k, inside, slot_there, bytes_there);
        old_or_new = λ x b h. on_eq h.0 k
            (λ q. inr (holds_one (ap (slot_in F.layout stored.words) (sym q) ∙ h.2) slot_there, sym h.3 ∙ ap (bytes_at w stored.contents) q ∙ bytes_there))
            (λ d. inl (h.0, h.1, sym (slot_elsewhere h.0 d) ∙ h.2, sym (bytes_elsewhere h.0 d) ∙ h.3));
      }

  -- the table of slots
  pub store_table : slot_in F.layout stored.words ≡ update (slot_in F.layout f.words) k (Some r)
  store_table = store_slots F.layout w S f size k inside r bytes whole storable
