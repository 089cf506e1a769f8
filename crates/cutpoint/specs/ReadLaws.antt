-- Laws of pages read: what a volume that is judged once gives for all of them, and a page by its committed slot and the bytes there.
use Rattle.std.specs.Prelude.{ℕ, zero, suc, ◌+◌, ◌*◌, ◌≤◌, ◌<◌, ◌≡◌, Bool, true, false, not, ◌&&◌, ltb, eqb, length, get_or, take, replicate, Result, Ok, Err, is_err}
use Rattle.std.specs.List.{list_all}
use Rattle.std.proofs.Common.{arith, sym, ◌∙◌, add-one}
use Rattle.std.proofs.Math.Path.{refl}
use mathlib.Core.List.{List}
use Rattle.std.proofs.Math.Seq.{take-length}
use Rattle.std.proofs.lemmas.List.{length-replicate, get_or-replicate}
use Rattle.std.proofs.lemmas.List.Folds.{list_all_more}
use borrow.Author.Tests.{lt-ltb, le-ltb, eq-eqb, ne_eqb}
use Rattle.bounded.specs.Limits.{Widths}
use Rattle.bounded.specs.Below.{all_below}
use Rattle.bounded.specs.Choice.{never, and_true}
use Rattle.bounded.specs.PartsLaws.{part_inside}
use Rattle.outcome.specs.declared.Refusal.{Refusal}
use Rattle.outcome.specs.Result.{number_positive, answer_of}
use Rattle.outcome.specs.Outcome.{◌⇒◌otherwise◌, settled}
use Rattle.sizes.specs.declared.Layout.TheVariants.{FiveWords}
use Rattle.sizes.specs.declared.Sizes.{Sizes}
use Rattle.record.specs.Slot.{bytes_at}
use Rattle.record.specs.FlashLaws.{SizedIn}
use Rattle.table.specs.Table.{has_version}
use Rattle.twins.specs.Twins.{has_same_bytes}
use Rattle.rules.specs.Volume.{Volume, volume_fits}
use Rattle.rules.specs.Read.{read_slot_in, read_slot, read_answer, read_outcome_in}
use Rattle.rules.proofs.laws.Volume.{fits_facts, bytes_whole}
use Rattle.rules.specs.laws.Chains.{judged, read_own, SpansIn}
use Rattle.rules.proofs.laws.Chains.{judged_passed, judged_refuses, judged_passes, read_chain, volume_spans}
use Rattle.atomicity.specs.Family.{back_pointer}
use Rattle.everywhere.specs.Cuts.{are_reads_kept}
use Rattle.ledger.specs.Ledger.{filled}

-- ---- bytes that are all one fill

-- the first i of them are so exactly where they are those of as many fills
all_front : (fill : ℕ) (bytes : List ℕ) (i : ℕ) → i ≤ length bytes → list_all (λ b. eqb b fill) (take i bytes) ≡ has_same_bytes i bytes (replicate (length bytes) fill)
unfolding has_same_bytes all_below
all_front fill bytes zero h = refl
all_front fill bytes (suc i) h =
    let inside : i < length bytes = omega arith in
    rw (← add-one i, list_all_more (λ (b : ℕ). eqb b fill) bytes i 0 inside, all_front fill bytes i (omega arith), get_or-replicate (length bytes) i fill 0 inside)

all_same : (fill : ℕ) (bytes : List ℕ) → list_all (λ b. eqb b fill) bytes ≡ has_same_bytes (length bytes) bytes (replicate (length bytes) fill)
all_same fill bytes = rw take-length at (all_front fill bytes (length bytes) (omega arith))

-- ---- volumes and pages

-- a result that refuses says another answer than 0, and one that does not says 0
pub refuses : {A : Type 0} (r : Result A Refusal) → is_err r ≡ true → ¬ (answer_of r ≡ 0)
refuses (Ok x) e = absurd (never e refl)
refuses (Err refusal) e = number_positive refusal

pub passes : {A : Type 0} (r : Result A Refusal) → is_err r ≡ false → answer_of r ≡ 0
passes (Ok x) e = refl
passes (Err refusal) e = absurd (never refl e)

-- an outcome passes a test behind answer 0 where its answer is 0 and what it then leaves passes
settled_tests : {B : Type 0} (a second : ℕ) (before after : B) (test : B → Bool) → let o = settled a 0 second before after in (eqb o.answer 0 && test o.left) ≡ (eqb a 0 && test after)
unfolding settled
settled_tests zero second before after test = refl
settled_tests (suc a) second before after test = rw (ne_eqb (suc a) 0 (λ e. omega arith))

-- a last condition is not met where its test passes
last_test : (b : Bool) (n : ℕ) → eqb (not b ⇒ suc n otherwise 0) 0 ≡ b
last_test true n = refl
last_test false n = ne_eqb (suc n) 0 (λ e. omega arith)

module _ (widths : Widths) (sizes : Sizes) (v : Volume) where
  -- what the calls on the volume share
  abbrev shared : ℕ
  shared = judged (volume_fits widths sizes v) sizes.pages sizes.slots v.flash.words v.state

  -- a volume that passes spans all slots and pages, and each slot's bytes are inside the contents
  module _ (passed : shared ≡ 0) where
    fitting : volume_fits widths sizes v ≡ true
    fitting = (judged_passed FiveWords _ _ _ _ _ passed).fitting

    sized : SizedIn FiveWords sizes.width sizes.slots v.flash
    sized = (fits_facts widths sizes v fitting).flash_sized

    pub passed_spans : SpansIn FiveWords sizes.pages sizes.slots v.flash.words v.state
    passed_spans = volume_spans FiveWords widths sizes v fitting

    pub slot_inside : (k : ℕ) → k < sizes.slots → sizes.width * k + sizes.width ≤ length v.flash.contents
    slot_inside k h =
        let i = part_inside sizes.width sizes.slots k h in
        let e = sized.contents_sized in
        omega arith

  module _ (fills : List ℕ) (page : ℕ) where
    -- read of the page answers 0 and copies what is kept of it
    abbrev is_kept : Bool
    is_kept = are_reads_kept back_pointer widths sizes v (filled sizes.width fills) page

    abbrev answer : ℕ
    answer = read_answer widths sizes v page (replicate sizes.width 0)

    abbrev slot : ℕ
    slot = read_slot sizes.slots v page

    -- the bytes of slot k are the kept ones
    abbrev same : ℕ → Bool
    same k = has_same_bytes sizes.width (bytes_at sizes.width v.flash.contents k) (filled sizes.width fills page)

    kept_by_answer : is_kept ≡ (eqb answer 0 && same slot)
    unfolding are_reads_kept read_outcome_in
    kept_by_answer = settled_tests answer 0 _ _ (λ (bytes : List ℕ). has_same_bytes sizes.width bytes (filled sizes.width fills page))

    -- the zeros are as many as the width says
    fits_same : volume_fits widths sizes v ≡ (volume_fits widths sizes v && eqb (length {A = ℕ} (replicate sizes.width 0)) sizes.width)
    fits_same = rw (eq-eqb _ _ (length-replicate {A = ℕ} sizes.width 0)) (sym (and_true (volume_fits widths sizes v)))

    -- of a volume that is refused no page is read
    pub refused_unread : ¬ (shared ≡ 0) → is_kept ≡ false
    refused_unread d =
        let e = judged_refuses FiveWords answer _ _ _ _ _ _ _ (read_chain _ _ _ _ _ _) fits_same shared refl d in
        rw (kept_by_answer, ne_eqb answer 0 (λ z. d (e ∙ z)))

    -- of a volume that passes a page is kept where its slot k is there and has the kept bytes
    module _ (passed : shared ≡ 0) (below : page < sizes.pages) {k : ℕ} (found : k ≡ slot) where
      kept_by_slot : is_kept ≡ (ltb k sizes.slots && same k)
      unfolding read_own has_version read_slot_in
      kept_by_slot =
          let own : (not (ltb slot sizes.slots) ⇒ 14 otherwise 0) ≡ read_own FiveWords sizes.pages sizes.slots v.flash.words v.state page = rw (lt-ltb page sizes.pages below) in
          let e = judged_passes FiveWords answer _ _ _ _ _ _ _ (read_chain _ _ _ _ _ _) fits_same shared refl passed own in
          rw (found, kept_by_answer, ← e, last_test (ltb slot sizes.slots) 13)

      pub none_read : sizes.slots ≤ k → false ≡ is_kept
      none_read h = rw (kept_by_slot, le-ltb k sizes.slots h)

      -- the slot's bytes
      abbrev bytes : List ℕ
      bytes = bytes_at sizes.width v.flash.contents k

      pub slot_read : k < sizes.slots → {b : Bool} → b ≡ list_all (λ x. eqb x (get_or fills page 0)) bytes → b ≡ is_kept
      unfolding filled
      slot_read h e =
          let l = bytes_whole sizes.width sizes.slots v.flash (sized passed) k h in
          rw (kept_by_slot, lt-ltb k sizes.slots h) (rw l at (e ∙ all_same (get_or fills page 0) bytes))
