-- Losing none but records that may be erased: one change of the flash that does, and stages of a call of which every part does.
use Rattle.std.specs.Prelude.{ℕ, suc, ◌<◌, ◌≡◌, refl, ◌⊎◌, Bool, cond}
use Rattle.std.proofs.Common.{sym, ap, ◌∙◌, inl, inr, ⊎_elim}
use Rattle.std.proofs.Math.Path.{subst}
use mathlib.Core.List.Memᴰ
use mathlib.Core.List.{List, [], ◌∷◌, map, Memᴰ}
use Rattle.bounded.specs.Choice.{on_test}
use Rattle.bounded.specs.Members.{listed?}
use Rattle.sizes.specs.declared.Layout.{Layout}
use Rattle.record.specs.declared.Record.{Record}
use Rattle.record.specs.Slot.{Slot}
use Rattle.std.specs.Prelude.{Some}
use Rattle.record.specs.Slot.{slot_in, bytes_at}
use Rattle.record.specs.Flash.{Flash, Step, apply_all_in}
use Rattle.record.specs.FlashLaws.{SizedIn, SameSlot, blanks_sized, blanks_listed, blanks_unlisted}
use Rattle.state.specs.declared.PageState.{PageState}
use Rattle.table.proofs.TableLaws.{blank_holds}
use Rattle.protocol.specs.View.{InSlots, Finds, finds_in_slots}
use Rattle.atomicity.specs.Run.{done_of}

-- a set of (record, contents) pairs
abbrev pub Pairs : Type 1
Pairs = Record → List ℕ → Type 0

-- every record stays or may be erased
pub record ErasedBy (Permitted : Pairs → (ℕ → PageState) → Record → Type 0) (R R' : Pairs) (st : ℕ → PageState) : Type 1 where
  pub fewer : (r : Record) (b : List ℕ) → R' r b → R r b
  pub finds_before : Finds R
  pub finds : Finds R'
  pub stays_or_permitted : (r : Record) (b : List ℕ) → R r b → R' r b ⊎ Permitted R st r

-- the (record, contents) pairs that the slots of a flash hold
abbrev pub HeldIn : Layout → (w S : ℕ) → Flash → Pairs
HeldIn layout w S f = InSlots S (slot_in layout f.words) (bytes_at w f.contents)

-- how a family's records lie, which of them may be erased, and what its slots keep to besides
pub record Keeping : Type 1 where
  pub layout : Layout
  pub Permitted : Pairs → (ℕ → PageState) → Record → Type 0
  pub Apart : (S : ℕ) → (ℕ → Slot) → Type 0

module _ (K : Keeping) (w S : ℕ) (st : ℕ → PageState) where
  -- from f to g no record is lost but such as may be erased
  pub record Spared (f g : Flash) : Type 1 where
    pub sized : SizedIn K.layout w S g
    pub erased : ErasedBy K.Permitted (HeldIn K.layout w S f) (HeldIn K.layout w S g) st
    pub apart : K.Apart S (slot_in K.layout f.words) → K.Apart S (slot_in K.layout g.words)

  -- stages, each begun on the flash that those before it leave: of each any part may be done
  unfoldable pub Spares : Flash → List (List Step) → Type 1
  Spares f [] = Unit {1}
  Spares f (steps ∷ rest) = ((done : ℕ → Bool) → Spared f (apply_all_in K.layout w f (done_of done 0 steps))) × Spares (apply_all_in K.layout w f steps) rest

  -- nothing done
  pub spared_same : (f : Flash) → SizedIn K.layout w S f → Spared f f
  spared_same f size =
      record {
        sized = size;
        erased = record { fewer = λ r b h. h; finds_before = finds f; finds = finds f; stays_or_permitted = λ r b h. inl h };
        apart = λ a. a;
      }
    where
      finds : (f : Flash) → Finds (HeldIn K.layout w S f)
      finds f = finds_in_slots S (slot_in K.layout f.words) (bytes_at w f.contents)

-- ---- blanking

-- the entries of a list whose steps were done, the first with number i
unfoldable pub chosen : (ℕ → Bool) → ℕ → List ℕ → List ℕ
chosen done i [] = []
chosen done i (k ∷ slots) = cond (done i) (k ∷ chosen done (suc i) slots) (chosen done (suc i) slots)

-- the steps done of an erasure blank the chosen slots
pub done_blanks : (done : ℕ → Bool) (i : ℕ) (slots : List ℕ) → done_of done i (map Step.Blank slots) ≡ map Step.Blank (chosen done i slots)
unfolding done_of chosen
done_blanks done i [] = refl
done_blanks done i (k ∷ slots) =
    on_test (done i)
    (λ e. rw e (ap (λ (l : List Step). Step.Blank k ∷ l) (done_blanks done (suc i) slots)))
    (λ e. rw e (done_blanks done (suc i) slots))

-- and these are listed
pub chosen_listed : (done : ℕ → Bool) (i : ℕ) (slots : List ℕ) (k : ℕ) → Memᴰ k (chosen done i slots) → Memᴰ k slots
unfolding chosen
chosen_listed done i [] k m = m
chosen_listed done i (x ∷ slots) k m =
    on_test (done i)
    (λ e. ⊎_elim (λ q. Memᴰ.head q) (λ n. Memᴰ.tail (chosen_listed done (suc i) slots k n)) (Memᴰ.cases_cons (subst (λ (b : Bool). Memᴰ k (cond b (x ∷ chosen done (suc i) slots) (chosen done (suc i) slots))) e m)))
    (λ e. Memᴰ.tail (chosen_listed done (suc i) slots k (subst (λ (b : Bool). Memᴰ k (cond b (x ∷ chosen done (suc i) slots) (chosen done (suc i) slots))) e m)))

-- what lets the slots of a list be blanked, any part of them
pub record Blankable (K : Keeping) (w S : ℕ) (st : ℕ → PageState) (f : Flash) (slots : List ℕ) : Type 1 where
  pub inside : (k : ℕ) → Memᴰ k slots → k < S
  -- what a listed slot holds, a slot that is not listed holds too, with the same contents, or it may be erased
  pub allowed :
      (k : ℕ) (r : Record)
      → Memᴰ k slots
      → slot_in K.layout f.words k ≡ Some r
      → ((j : ℕ) × (j < S) × ¬ (Memᴰ j slots) × (slot_in K.layout f.words j ≡ Some r) × (bytes_at w f.contents j ≡ bytes_at w f.contents k)) ⊎ K.Permitted (HeldIn K.layout w S f) st r
  -- what the slots keep to they do with fewer records
  pub apart_fewer : (t t' : ℕ → Slot) → ((k : ℕ) (r : Record) → t' k ≡ Some r → t k ≡ Some r) → K.Apart S t → K.Apart S t'

module _ (K : Keeping) (w S : ℕ) (st : ℕ → PageState) (f : Flash) (size : SizedIn K.layout w S f) (slots : List ℕ) (free : Blankable K w S st f slots) where
  module _ (part : List ℕ) (listed : (k : ℕ) → Memᴰ k part → Memᴰ k slots) where
    abbrev blanked : Flash
    blanked = apply_all_in K.layout w f (map Step.Blank part)

    within : (k : ℕ) → Memᴰ k part → k < S
    within k m = free.inside k (listed k m)

    stays : (k : ℕ) → ¬ (Memᴰ k part) → SameSlot K.layout w f blanked k
    stays k n = blanks_unlisted K.layout w S part f k size within n

    -- a slot that holds a record then held it before
    held_before : (k : ℕ) (r : Record) → slot_in K.layout blanked.words k ≡ Some r → (slot_in K.layout f.words k ≡ Some r) × (bytes_at w blanked.contents k ≡ bytes_at w f.contents k)
    held_before k r e =
        ⊎_elim
        (λ m. absurd (blank_holds (blanks_listed K.layout w S part f k size within m).slot_blank e))
        (λ n. let s = stays k n in (sym s.same_slot ∙ e, s.same_bytes))
        (listed? k part)

    part_spared : Spared K w S st f blanked
    part_spared =
        record {
          sized = blanks_sized K.layout w S part f size within;
          erased = record {
            fewer = λ r b h. let u = held_before h.0 r h.2 in (h.0, h.1, u.0, sym u.1 ∙ h.3);
            finds_before = finds_in_slots S (slot_in K.layout f.words) (bytes_at w f.contents);
            finds = finds_in_slots S (slot_in K.layout blanked.words) (bytes_at w blanked.contents);
            stays_or_permitted = λ r b h.
                ⊎_elim
                (λ m. ⊎_elim
                (λ o. let s = stays o.0 (λ q. o.2 (listed o.0 q)) in inl (o.0, o.1, s.same_slot ∙ o.3, s.same_bytes ∙ o.4 ∙ h.3))
                (λ p. inr p)
                (free.allowed h.0 r (listed h.0 m) h.2))
                (λ n. let s = stays h.0 n in inl (h.0, h.1, s.same_slot ∙ h.2, s.same_bytes ∙ h.3))
                (listed? h.0 part);
          };
          apart = free.apart_fewer (slot_in K.layout f.words) (slot_in K.layout blanked.words) (λ k r e. (held_before k r e).0);
        }

  -- any part of the slots blanked
  pub blanking_spares : Spares K w S st f (map Step.Blank slots ∷ [])
  unfolding Spares
  blanking_spares = (
    λ done. subst (λ (l : List Step). Spared K w S st f (apply_all_in K.layout w f l)) (sym (done_blanks done 0 slots)) (part_spared (chosen done 0 slots) (chosen_listed done 0 slots)),
    tt,
  )
