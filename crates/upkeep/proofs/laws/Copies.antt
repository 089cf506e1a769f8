-- Copies of records into blank slots, document 02, wish 1: what a list of copy steps leaves, slot by slot.
use Rattle.std.specs.Prelude.{ℕ, suc, ◌≤◌, ◌<◌, ◌≡◌, ◌⊎◌, length}
use native.Mathlib.Omega.{arith}
use Rattle.std.proofs.Math.Path.{refl, sym, ap, subst}
use Rattle.std.proofs.Common.{◌∙◌}
use Rattle.std.proofs.Math.Logic.{inl, inr, ⊎_elim}
use mathlib.Core.List.Memᴰ
use mathlib.Core.List.{List, [], ◌∷◌, Memᴰ}
use Rattle.bounded.specs.Choice.{on_eq}
use Rattle.bounded.specs.Parts.{update}
use Rattle.bounded.specs.PartsLaws.{update_same, update_other}
use Rattle.bounded.specs.Members.{Rises, rises_member}
use Rattle.sizes.specs.declared.Layout.TheVariants.{FiveWords}
use Rattle.record.specs.declared.Record.{Record}
use Rattle.record.specs.Slot.{Slot}
use Rattle.std.specs.Prelude.{None, Some}
use Rattle.record.specs.Slot.{slot_at, bytes_at}
use Rattle.record.specs.SlotLaws.{Storable}
use Rattle.record.specs.Flash.{Flash, apply, apply_all_in, apply_all}
use Rattle.record.specs.FlashLaws.{SizedIn, SameSlot, store_sized, store_slots, store_bytes, at_slot}
use Rattle.table.proofs.TableLaws.{blank_holds}
use Rattle.rules.proofs.laws.Volume.{bytes_whole}
use Rattle.upkeep.specs.Clean.{record_in, copy_step, copy_steps}
use Rattle.upkeep.specs.laws.Copies.{Source, Ready}

-- the record in a slot that holds one
pub record_in_lem : {s : Slot} {r : Record} → s ≡ Some r → record_in s ≡ r
unfolding record_in
record_in_lem e = rw e

module _ (w S : ℕ) (f : Flash) (sized : SizedIn FiveWords w S f) where
  -- ---- one copy

  module _ (g : Flash) (size : SizedIn FiveWords w S g) (k j : ℕ) (s : Source S f k) (below : j < S) where
    abbrev one : Flash
    one = apply w g (copy_step w f k j)

    whole : length (bytes_at w f.contents k) ≡ w
    whole = bytes_whole w S f sized k s.source_below

    is_record : record_in (slot_at f.words k) ≡ s.held
    is_record = record_in_lem s.holds_it

    pub copy_sized : SizedIn FiveWords w S one
    unfolding copy_step
    copy_sized = store_sized FiveWords w S g size j below (record_in (slot_at f.words k)) (bytes_at w f.contents k) whole

    slots_are : slot_at one.words ≡ update (slot_at g.words) j (Some s.held)
    unfolding copy_step
    slots_are =
        store_slots FiveWords w S g size j below (record_in (slot_at f.words k)) (bytes_at w f.contents k) whole (subst (Storable FiveWords) (sym is_record) s.storable)
        ∙ ap (λ (r : Record). update (slot_at g.words) j (Some r)) is_record

    bytes_are : bytes_at w one.contents ≡ update (bytes_at w g.contents) j (bytes_at w f.contents k)
    unfolding copy_step
    bytes_are = store_bytes FiveWords w S g size j below (record_in (slot_at f.words k)) (bytes_at w f.contents k) whole

    pub copy_there : (slot_at one.words j ≡ Some s.held) × (bytes_at w one.contents j ≡ bytes_at w f.contents k)
    copy_there = (at_slot slots_are j ∙ update_same (slot_at g.words) j (Some s.held), at_slot bytes_are j ∙ update_same (bytes_at w g.contents) j (bytes_at w f.contents k))

    pub copy_elsewhere : (i : ℕ) → ¬ (i ≡ j) → SameSlot FiveWords w g one i
    copy_elsewhere i d = record {
      same_slot = at_slot slots_are i ∙ update_other (slot_at g.words) j (Some s.held) i d;
      same_bytes = at_slot bytes_are i ∙ update_other (bytes_at w g.contents) j (bytes_at w f.contents k) i d;
    }

  -- ---- the first copy of a list, and those behind it

  module _ (g : Flash) (b k : ℕ) (from : List ℕ) (j : ℕ) (to : List ℕ) (ready : Ready w S f sized g b (k ∷ from) (j ∷ to)) where
    pub first_source : Source S f k
    first_source = ready.sources k (Memᴰ.head refl)

    pub first_below_lem : j < S
    unfolding Rises
    first_below_lem = ready.rises.1

    abbrev pub first : Flash
    first = apply w g (copy_step w f k j)

    -- no source is a target
    apart : (i : ℕ) → Memᴰ i (k ∷ from) → ¬ (i ≡ j)
    apart i m e =
        blank_holds (ap (slot_at g.words) e ∙ ready.blank j (Memᴰ.head refl)) ((ready.unaltered i m).same_slot ∙ (ready.sources i m).holds_it)

    -- nor is any target behind it
    later : (i : ℕ) → Memᴰ i to → ¬ (i ≡ j)
    unfolding Rises
    later i m e = let l = (rises_member (suc j) S to ready.rises.2 i m).0 in omega arith

    pub not_again : ¬ (Memᴰ j to)
    not_again m = later j m refl

    pub ready_on : Ready w S f sized first (suc j) from to
    unfolding Rises
    ready_on = record {
      size = copy_sized g ready.size k j first_source first_below_lem;
      sources = λ i m. ready.sources i (Memᴰ.tail m);
      unaltered = λ i m.
          let s = copy_elsewhere g ready.size k j first_source first_below_lem i (apart i (Memᴰ.tail m)) in
          let u = ready.unaltered i (Memᴰ.tail m) in
          record { same_slot = s.same_slot ∙ u.same_slot; same_bytes = s.same_bytes ∙ u.same_bytes };
      blank = λ i m. (copy_elsewhere g ready.size k j first_source first_below_lem i (later i m)).same_slot ∙ ready.blank i (Memᴰ.tail m);
      rises = ready.rises.2;
    }

  -- ---- the whole list

  abbrev pub copied : Flash → (from to : List ℕ) → Flash
  copied g from to = apply_all w g (copy_steps w f from to)

  pub copied_sized : (g : Flash) (b : ℕ) (from to : List ℕ) → Ready w S f sized g b from to → SizedIn FiveWords w S (copied g from to)
  unfolding copy_steps apply_all_in
  copied_sized g b [] to ready = ready.size
  copied_sized g b (k ∷ from) [] ready = ready.size
  copied_sized g b (k ∷ from) (j ∷ to) ready = copied_sized (first g b k from j to ready) (suc j) from to (ready_on g b k from j to ready)

  -- a slot that is no target is as it was
  pub copied_elsewhere : (g : Flash) (b : ℕ) (from to : List ℕ) → Ready w S f sized g b from to → (i : ℕ) → ¬ (Memᴰ i to) → SameSlot FiveWords w g (copied g from to) i
  unfolding copy_steps apply_all_in
  copied_elsewhere g b [] to ready i n = record { same_slot = refl; same_bytes = refl }
  copied_elsewhere g b (k ∷ from) [] ready i n = record { same_slot = refl; same_bytes = refl }
  copied_elsewhere g b (k ∷ from) (j ∷ to) ready i n =
      let s = copy_elsewhere g ready.size k j (first_source g b k from j to ready) (first_below_lem g b k from j to ready) i (λ e. n (Memᴰ.head e)) in
      let r = copied_elsewhere (first g b k from j to ready) (suc j) from to (ready_on g b k from j to ready) i (λ m. n (Memᴰ.tail m)) in
      record { same_slot = r.same_slot ∙ s.same_slot; same_bytes = r.same_bytes ∙ s.same_bytes }

  -- a copy of slot k in slot j of g
  pub record CopyOf (g : Flash) (k j : ℕ) : Type 0 where
    pub same_record_lem : slot_at g.words j ≡ slot_at f.words k
    pub same_contents : bytes_at w g.contents j ≡ bytes_at w f.contents k

  -- where there are targets enough, each source has a copy in a target
  pub copied_there :
      (g : Flash) (b : ℕ) (from to : List ℕ) → Ready w S f sized g b from to → length from ≤ length to → (k : ℕ) → Memᴰ k from → (j : ℕ) × Memᴰ j to × CopyOf (copied g from to) k j
  unfolding copy_steps apply_all_in
  copied_there g b [] to ready room i m = absurd (Memᴰ.not-nil m)
  copied_there g b (k ∷ from) [] ready room i m = absurd (omega arith)
  copied_there g b (k ∷ from) (j ∷ to) ready room i m =
      ⊎_elim
      (λ e. let s = first_source g b k from j to ready in
      let t = copy_there g ready.size k j s (first_below_lem g b k from j to ready) in
      let r = copied_elsewhere (first g b k from j to ready) (suc j) from to (ready_on g b k from j to ready) j (not_again g b k from j to ready) in
      (j, Memᴰ.head refl, subst (λ (x : ℕ). CopyOf (copied (first g b k from j to ready) from to) x j) (sym e) (record { same_record_lem = r.same_slot ∙ t.0 ∙ sym s.holds_it; same_contents = r.same_bytes ∙ t.1 })))
      (λ n. let c = copied_there (first g b k from j to ready) (suc j) from to (ready_on g b k from j to ready) (omega arith) i n in (c.0, Memᴰ.tail c.1, c.2))
      (Memᴰ.cases_cons m)

  -- a slot that is blank afterwards is as it was
  pub copied_blank : (g : Flash) (b : ℕ) (from to : List ℕ) → Ready w S f sized g b from to → (i : ℕ) → slot_at (copied g from to).words i ≡ None → SameSlot FiveWords w g (copied g from to) i
  unfolding copy_steps apply_all_in
  copied_blank g b [] to ready i e = record { same_slot = refl; same_bytes = refl }
  copied_blank g b (k ∷ from) [] ready i e = record { same_slot = refl; same_bytes = refl }
  copied_blank g b (k ∷ from) (j ∷ to) ready i e =
      let r = copied_blank (first g b k from j to ready) (suc j) from to (ready_on g b k from j to ready) i e in
      on_eq i j
      (λ q. absurd (blank_holds (sym r.same_slot ∙ e) (ap (slot_at (first g b k from j to ready).words) q ∙ (copy_there g ready.size k j (first_source g b k from j to ready) (first_below_lem g b k from j to ready)).0)))
      (λ d. let s = copy_elsewhere g ready.size k j (first_source g b k from j to ready) (first_below_lem g b k from j to ready) i d in
      record { same_slot = r.same_slot ∙ s.same_slot; same_bytes = r.same_bytes ∙ s.same_bytes })

  -- a slot that holds a record afterwards held it, with its contents, before, or is a copy of a source
  pub copied_back :
      (g : Flash) (b : ℕ) (from to : List ℕ) → Ready w S f sized g b from to → (i : ℕ) (r : Record) → slot_at (copied g from to).words i ≡ Some r
      → ((slot_at g.words i ≡ Some r) × SameSlot FiveWords w g (copied g from to) i) ⊎ ((k : ℕ) × Memᴰ k from × CopyOf (copied g from to) k i)
  unfolding copy_steps apply_all_in
  copied_back g b [] to ready i r e = inl (e, record { same_slot = refl; same_bytes = refl })
  copied_back g b (k ∷ from) [] ready i r e = inl (e, record { same_slot = refl; same_bytes = refl })
  copied_back g b (k ∷ from) (j ∷ to) ready i r e =
      ⊎_elim
      (λ h. on_eq i j
      (λ q. let s = first_source g b k from j to ready in
      let t = copy_there g ready.size k j s (first_below_lem g b k from j to ready) in
      inr (
        k,
        Memᴰ.head refl,
        record {
          same_record_lem = h.1.same_slot ∙ ap (slot_at (first g b k from j to ready).words) q ∙ t.0 ∙ sym s.holds_it;
          same_contents = h.1.same_bytes ∙ ap (bytes_at w (first g b k from j to ready).contents) q ∙ t.1;
        },
      ))
      (λ d. let s = copy_elsewhere g ready.size k j (first_source g b k from j to ready) (first_below_lem g b k from j to ready) i d in
      inl (sym s.same_slot ∙ h.0, record { same_slot = h.1.same_slot ∙ s.same_slot; same_bytes = h.1.same_bytes ∙ s.same_bytes })))
      (λ c. inr (c.0, Memᴰ.tail c.1, c.2))
      (copied_back (first g b k from j to ready) (suc j) from to (ready_on g b k from j to ready) i r e)
