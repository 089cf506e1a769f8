-- Laws of judged cuts: what recovery gives on a lost state, the slots blanked that are still to come, and the cuts that are still to be counted.
use Rattle.std.specs.Prelude.{ℕ, suc, ◌+◌, ◌-◌, ◌≤◌, ◌<◌, ◌≡◌, List, [], ◌∷◌, map, Bool, true, false, length, get_or, take, drop, replicate, Result, Ok, Err, is_ok}
use Rattle.std.proofs.Math.Nat.{add-zero}
use Rattle.std.proofs.Common.{add-suc, suc-add, arith, sym, ap, ◌∙◌, drop_of_length-le, take_at}
use Rattle.std.proofs.Math.Numerals.{add-one}
use Rattle.std.proofs.Math.Path.{refl}
use Rattle.std.proofs.lemmas.List.{length-replicate}
use Rattle.std.proofs.Math.Seq.{drop-cons}
use borrow.Author.Tests.{ne_eqb, le-leb, lt-leb}
use borrow.Rule.Slice.PartMut.{put_mid, same_len_mid}
use Rattle.bounded.specs.Limits.{Widths}
use Rattle.bounded.specs.Below.{all_below}
use Rattle.bounded.specs.Choice.{never}
use Rattle.bounded.specs.Fronts.{equal_lent}
use Rattle.outcome.specs.declared.Refusal.{Refusal}
use Rattle.outcome.specs.Outcome.{Outcome}
use Rattle.outcome.specs.OutcomeLaws.{held, settled_answer}
use Rattle.outcome.specs.Result.{number_of, number_positive, outcome_by}
use Rattle.sizes.specs.declared.Sizes.{Sizes}
use Rattle.record.specs.Flash.{Flash, Step, apply, apply_all, apply_all_in}
use Rattle.rules.specs.Volume.{Volume, volume_fits}
use Rattle.rules.specs.Recover.{recover_answer, recover_outcome}
use Rattle.rules.specs.Erase.{erase_steps}
use Rattle.rules.proofs.laws.Volume.{fits_facts}
use Rattle.dispatch.specs.Dispatch.{lost}
use Rattle.atomicity.specs.Family.{back_pointer}
use Rattle.atomicity.specs.Run.{done_of}
use Rattle.everywhere.specs.Cuts.{up_to, are_reads_kept, comes_back, sames, differs}
use Rattle.cutpoint.specs.declared.Tally.{Tally}
use Rattle.cutpoint.specs.Judged.{tallied, erase_cuts}

-- ---- bytes put into the front of a buffer of n zeros, w of them, and lent again

-- the front, as it is lent
abbrev pub lent : (w n : ℕ) → List ℕ
lent w n = take (w - 0) (drop 0 (replicate n 0))

module _ (w n : ℕ) (fits : w ≤ n) (left : List ℕ) (kept : length left ≡ length (lent w n)) where
  abbrev pub buffer : List ℕ
  buffer = put_mid 0 (w - 0) (replicate n 0) left

  -- they are as many as were lent; the front ends in the buffer; lent again, it is these bytes
  left_length : length left ≡ w
  left_length = kept ∙ ap length (equal_lent w n 0 fits) ∙ length-replicate w 0

  pub front_ends : w ≤ length buffer
  front_ends = let e = same_len_mid 0 (w - 0) (replicate n 0) left kept ∙ length-replicate n 0 in omega arith

  pub front_again : take (w - 0) (drop 0 buffer) ≡ left
  front_again = let e = left_length in take_at left (drop (w - 0) (replicate n 0)) (w - 0) (omega arith)

-- ---- a flash recovered on a lost state

-- a state that is lost is known by its length
pub lost_same : (s t : List ℕ) → length s ≡ length t → lost s ≡ lost t
unfolding lost
lost_same s t e = rw e

-- where it is recovered, the volume has a page
pub recovery_paged : (widths : Widths) (sizes : Sizes) (v : Volume) (r : Result ℕ Refusal) (left : List ℕ) → outcome_by 0 r left ≡ recover_outcome widths sizes v → is_ok r ≡ true → 1 ≤ sizes.pages
unfolding recover_outcome recover_answer
recovery_paged widths sizes v (Ok links) left says e =
    let z = sym (settled_answer (recover_answer widths sizes v) _ _ _ _) ∙ ap (λ (o : Outcome (List ℕ)). o.answer) (sym says) in
    (fits_facts widths sizes v (held (volume_fits widths sizes v) _ _ z).0).bounds.one_page
recovery_paged widths sizes v (Err refusal) left says e = absurd (never e refl)

-- what recovery gives says what recovery on the wiped state says
module _ (widths : Widths) (sizes : Sizes) (f : Flash) (kept : ℕ → List ℕ) (wiped state : List ℕ) (is_wiped : state ≡ wiped) (left : List ℕ) where
  pub recovery_refused : (r : Result ℕ Refusal) → outcome_by 0 r left ≡ recover_outcome widths sizes (record { flash = f; state = state }) → is_ok r ≡ false → false ≡ comes_back back_pointer widths sizes (record { flash = f; state = wiped }) kept
  unfolding comes_back
  recovery_refused (Ok links) says e = absurd (never refl e)
  recovery_refused (Err refusal) says e = rw (← is_wiped, ← says, ne_eqb (number_of refusal) 0 (number_positive refusal))

  pub recovery_done :
      (r : Result ℕ Refusal) → outcome_by 0 r left ≡ recover_outcome widths sizes (record { flash = f; state = state }) → is_ok r ≡ true
      → {b : Bool} → b ≡ all_below sizes.pages (are_reads_kept back_pointer widths sizes (record { flash = f; state = left }) kept)
      → b ≡ comes_back back_pointer widths sizes (record { flash = f; state = wiped }) kept
  unfolding comes_back
  recovery_done (Ok links) says e k = rw (← is_wiped, ← says) k
  recovery_done (Err refusal) says e k = absurd (never e refl)

-- ---- a loop that blanks the listed slots up to one

module _ (w : ℕ) (list : List ℕ) (last : ℕ) where
  -- the flash with those of them blanked that stand from place i on
  unfoldable pub rest_blanked : (i : ℕ) → Flash → Flash
  rest_blanked i f = apply_all w f (done_of (up_to list last) i (erase_steps (drop i list)))

  pub rest_all : (f : Flash) → rest_blanked 0 f ≡ apply_all w f (done_of (up_to list last) 0 (erase_steps list))
  unfolding rest_blanked
  rest_all f = refl

  pub rest_none : (i : ℕ) (f : Flash) → length list ≤ i → rest_blanked i f ≡ f
  unfolding rest_blanked erase_steps done_of apply_all_in
  rest_none i f h = rw (drop_of_length-le list h)

  module _ (i : ℕ) (f : Flash) (inside : i < length list) where
    -- the place's slot is above the last: what is left to do is the rest
    pub rest_stays : last < get_or list i 0 → rest_blanked i f ≡ rest_blanked (i + 1) f
    unfolding rest_blanked erase_steps done_of up_to
    rest_stays h = rw (add-one i, drop-cons list i 0 inside, lt-leb (get_or list i 0) last h)

    -- it is not: the slot is blanked, and the rest is left to do
    pub rest_blanks : get_or list i 0 ≤ last → rest_blanked i f ≡ rest_blanked (i + 1) (apply w f (Step.Blank (get_or list i 0)))
    unfolding rest_blanked erase_steps done_of up_to apply_all_in
    rest_blanks h = rw (add-one i, drop-cons list i 0 inside, le-leb (get_or list i 0) last h)

-- ---- a loop that counts the cuts in an erase

-- one cut counted, and then others
count_more : (t : Tally) (b : Bool) (cuts : List Bool) → tallied t (b ∷ cuts) ≡ tallied (tallied t (b ∷ [])) cuts
unfolding tallied sames differs
count_more t true cuts = rw (add-zero, add-one, add-suc, suc-add)
count_more t false cuts = rw (add-zero, add-one, add-suc, suc-add)

-- a tally of i cuts has room for one more where the first has room for all n
pub count_fits :
    (t first : Tally) (i n : ℕ) → i < n → t.same + t.differ ≡ first.same + first.differ + i → first.same + first.differ + n ≤ 4294967295
    → t.same + t.differ + 1 ≤ 4294967295
count_fits t first i n h e room = omega arith

-- one cut is counted once
pub count_one : (t : Tally) (b : Bool) {next : Tally} → next ≡ tallied t (b ∷ []) → next.same + next.differ ≡ t.same + t.differ + 1
unfolding tallied sames differs
count_one t true e = rw e (omega arith)
count_one t false e = rw e (omega arith)

module _ (widths : Widths) (sizes : Sizes) (f : Flash) (state : List ℕ) (kept : ℕ → List ℕ) (slots : List ℕ) where
  -- the cut behind slot k
  unfoldable pub erase_cut : ℕ → Bool
  erase_cut k = comes_back back_pointer widths sizes (record { flash = apply_all sizes.width f (done_of (up_to slots k) 0 (erase_steps slots)); state = state }) kept

  -- a tally with the cuts counted that stand from place i on
  unfoldable pub rest_tallied : (i : ℕ) → Tally → Tally
  rest_tallied i t = tallied t (map erase_cut (drop i slots))

  pub tallied_all_lem : (t : Tally) → rest_tallied 0 t ≡ tallied t (erase_cuts widths sizes f state kept slots)
  unfolding rest_tallied erase_cuts erase_cut
  tallied_all_lem t = refl

  pub tallied_none : (i : ℕ) (t : Tally) → length slots ≤ i → t ≡ rest_tallied i t
  unfolding rest_tallied tallied sames differs
  tallied_none i t h = rw (drop_of_length-le slots h, add-zero t.same, add-zero t.differ)

  -- what comes back of a flash made so is the cut behind slot k
  pub cut_is :
      (k : ℕ) (cut before : Flash) (s : List ℕ) {b : Bool}
      → b ≡ comes_back back_pointer widths sizes (record { flash = cut; state = s }) kept
      → cut ≡ apply_all sizes.width before (done_of (up_to slots k) 0 (erase_steps slots))
      → before ≡ f → s ≡ state → b ≡ erase_cut k
  unfolding erase_cut
  cut_is k cut before s e c d q = rw (← q, ← d, ← c) e

  pub tallied_more : (i : ℕ) (t : Tally) {b : Bool} {next : Tally} → i < length slots → b ≡ erase_cut (get_or slots i 0) → next ≡ tallied t (b ∷ []) → rest_tallied (i + 1) next ≡ rest_tallied i t
  unfolding rest_tallied
  tallied_more i t h e q = rw (q, e, add-one i, drop-cons slots i 0 h) (sym (count_more t (erase_cut (get_or slots i 0)) (map erase_cut (drop (suc i) slots))))
