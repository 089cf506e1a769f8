-- A script's lines one after the other, as the program carries them out; and that it finds what the definition says.
use Prim.Native.Nat.{ℕ, suc, ◌+◌, ◌≤◌}
use native.Mathlib.Omega.{arith}
use Rattle.std.proofs.Math.Path.{◌≡◌, refl, sym, ap}
use Rattle.std.proofs.Common.{◌∙◌}
use Rattle.std.specs.Prelude.{Option, None, Some, option_map}
use mathlib.Core.List.{List, [], ◌∷◌, ◌++◌, Memᴰ}
use Rattle.std.specs.Prelude.{Bool, ◌&&◌, ltb, replicate}
use Rattle.std.proofs.Math.Bool.{true, false, cond}
use Rattle.std.proofs.Math.Dec.{leb}
use Rattle.std.proofs.Math.ListN.{length}
use borrow.Author.Tests.{lt-ltb, le-ltb, le-leb, lt-leb}
use Rattle.bounded.specs.Limits.{no_number, Widths}
use Rattle.bounded.specs.Choice.{on_lt, on_test}
use Rattle.sizes.specs.declared.Sizes.{Sizes}
use Rattle.line.specs.Line.{Said}
use Rattle.rules.specs.Volume.{Volume}
use Rattle.rules.specs.Format.{formatted}
use Rattle.atomicity.specs.Run.{World}
use Rattle.atomicity.specs.Model.{Model}
use Rattle.everywhere.specs.Cuts.{Recorded, cuts_from, erasing}
use Rattle.cuts.specs.Recording.{step_by, joined, steps_by}
use Rattle.recorded.specs.Desk.{Desk, desk, desk_after, desk_cuts}
use Rattle.cuts.specs.Followed.{Follows}
use Rattle.cuts.specs.Steps.{Small, went}

-- a line that records a step, or nothing: neither a format line nor a malformed one
unfoldable pub is_step : Said → Bool
is_step (Said.Format own) = false
is_step (Said.Launch pages) = true
is_step (Said.Write page slot fill) = true
is_step (Said.Withdraw page) = true
is_step (Said.Erase slots) = true
is_step Said.Recover = true
is_step Said.Cut = true
is_step Said.Listing = true
is_step Said.Malformed = false

-- the buffers behind the format
unfoldable pub formatted_desk : Sizes → Desk
formatted_desk sizes = desk (formatted sizes) (replicate 256 no_number) (replicate 256 0)

module _ (widths : Widths) (sizes : Sizes) (trial : Bool) where
  -- what is found at the cuts from a line on that has n lines before it; none where the run ends
  unfoldable pub run_from : Desk → (n : ℕ) → List Said → Option (List Bool)
  run_from d n [] = Some []
  run_from d n (says ∷ lines) = cond (ltb n 256 && is_step says) (option_map (λ (cuts : List Bool). desk_cuts widths sizes trial d says ++ cuts) (run_from (desk_after widths sizes trial d says) (suc n) lines)) None

  -- the line records something exactly where it is a step
  step_recorded : (says : Said) → is_step says ≡ true → (steps : List Recorded) × (step_by sizes says ≡ Some steps)
  unfolding is_step step_by
  step_recorded (Said.Format own) e = absurd (let z : ◌≡◌ {A = ℕ} 0 1 = cc in omega arith)
  step_recorded (Said.Launch pages) e = (_, refl)
  step_recorded (Said.Write page slot fill) e = (_, refl)
  step_recorded (Said.Withdraw page) e = (_, refl)
  step_recorded (Said.Erase slots) e = (_, refl)
  step_recorded Said.Recover e = (_, refl)
  step_recorded Said.Cut e = (_, refl)
  step_recorded Said.Listing e = (_, refl)
  step_recorded Said.Malformed e = absurd (let z : ◌≡◌ {A = ℕ} 0 1 = cc in omega arith)

  none_recorded : (says : Said) → is_step says ≡ false → step_by sizes says ≡ None
  unfolding is_step step_by
  none_recorded (Said.Format own) e = refl
  none_recorded (Said.Launch pages) e = absurd (let z : ◌≡◌ {A = ℕ} 0 1 = cc in omega arith)
  none_recorded (Said.Write page slot fill) e = absurd (let z : ◌≡◌ {A = ℕ} 0 1 = cc in omega arith)
  none_recorded (Said.Withdraw page) e = absurd (let z : ◌≡◌ {A = ℕ} 0 1 = cc in omega arith)
  none_recorded (Said.Erase slots) e = absurd (let z : ◌≡◌ {A = ℕ} 0 1 = cc in omega arith)
  none_recorded Said.Recover e = absurd (let z : ◌≡◌ {A = ℕ} 0 1 = cc in omega arith)
  none_recorded Said.Cut e = absurd (let z : ◌≡◌ {A = ℕ} 0 1 = cc in omega arith)
  none_recorded Said.Listing e = absurd (let z : ◌≡◌ {A = ℕ} 0 1 = cc in omega arith)
  none_recorded Said.Malformed e = refl

  -- every fill is a byte
  abbrev pub AllSmall : List Said → Type 0
  AllSmall lines = (says : Said) → Memᴰ says lines → Small widths sizes says

  -- what is found where the lines are not too many
  unfoldable pub found : World → Model → (n : ℕ) → List Said → Option (List Bool)
  found x m n lines = cond (leb (n + length lines) 256) (option_map (cuts_from (erasing trial) widths sizes x m) (steps_by sizes lines)) None

  -- the first line's cuts, then the others'
  module _ (x x' : World) (m m' : Model) (first : List Bool) (steps : List Recorded)
      (e : (rest : List Recorded) → cuts_from (erasing trial) widths sizes x m (steps ++ rest) ≡ first ++ cuts_from (erasing trial) widths sizes x' m' rest) where
    joined_cuts : (rest : Option (List Recorded)) → option_map (λ (cuts : List Bool). first ++ cuts) (option_map (cuts_from (erasing trial) widths sizes x' m') rest) ≡ option_map (cuts_from (erasing trial) widths sizes x m) (joined (Some steps) rest)
    unfolding joined
    joined_cuts None = refl
    joined_cuts (Some rest) = ap Some (sym (e rest))

    joined_found : (says : Said) → step_by sizes says ≡ Some steps → (n : ℕ) (lines : List Said) → option_map (λ (cuts : List Bool). first ++ cuts) (found x' m' (suc n) lines) ≡ found x m n (says ∷ lines)
    unfolding found steps_by
    joined_found says k n lines =
        let sum : n + length (says ∷ lines) ≡ suc n + length lines = omega arith in
        rw (sum, k) (by (leb (suc n + length lines) 256))
      where
        by : (t : Bool)
            → option_map (λ (cuts : List Bool). first ++ cuts) (cond t (option_map (cuts_from (erasing trial) widths sizes x' m') (steps_by sizes lines)) None)
            ≡ cond t (option_map (cuts_from (erasing trial) widths sizes x m) (joined (Some steps) (steps_by sizes lines))) None
        by true = joined_cuts (steps_by sizes lines)
        by false = refl

  -- the end of the lines, and a 257th
  found_end : (x : World) (m : Model) (n : ℕ) → n ≤ 256 → found x m n [] ≡ Some []
  unfolding found steps_by cuts_from
  found_end x m n h = let l : leb (n + 0) 256 ≡ true = le-leb (n + 0) 256 (omega arith) in rw l

  found_many : (x : World) (m : Model) (n : ℕ) (says : Said) (lines : List Said) → 256 ≤ n → found x m n (says ∷ lines) ≡ None
  unfolding found
  found_many x m n says lines h = let l : leb (n + length (says ∷ lines)) 256 ≡ false = lt-leb (n + length (says ∷ lines)) 256 (omega arith) in rw l

  -- a line that is none ends the run
  found_none : (x : World) (m : Model) (n : ℕ) (says : Said) (lines : List Said) → step_by sizes says ≡ None → found x m n (says ∷ lines) ≡ None
  unfolding found steps_by joined
  found_none x m n says lines e = rw e (by (leb (n + length (says ∷ lines)) 256))
    where
      by : (t : Bool) → cond {A = Option (List Bool)} t None None ≡ None
      by true = refl
      by false = refl

  pub run_found :
      (x : World) (m : Model) (d : Desk) → x.volume ≡ d.volume → Follows widths sizes m d → (n : ℕ) → n ≤ 256 → (lines : List Said) → AllSmall lines
      → run_from d n lines ≡ found x m n lines
  unfolding run_from
  run_found x m d v f n h [] s = sym (found_end x m n h)
  run_found x m d v f n h (says ∷ lines) s =
      on_lt n 256
      (λ l. on_test (is_step says)
      (λ y.
      let k = step_recorded says y in
      let w = went widths sizes trial m d f x.lost says k.0 k.1 (s says (Memᴰ.head refl)) in
      let is : record { volume = d.volume; lost = x.lost } ≡ x = ap (λ (u : Volume). record { volume = u; lost = x.lost }) (sym v) in
      let ih = run_found w.world w.model (desk_after widths sizes trial d says) w.volume_is w.follows (suc n) (omega arith) lines (λ t i. s t (Memᴰ.tail i)) in
      let j = joined_found (record { volume = d.volume; lost = x.lost }) w.world m w.model (desk_cuts widths sizes trial d says) k.0 w.goes_on says k.1 n lines in
      rw (lt-ltb n 256 l, y) (ap (option_map (λ (cuts : List Bool). desk_cuts widths sizes trial d says ++ cuts)) ih ∙ j ∙ ap (λ (u : World). found u m n (says ∷ lines)) is))
      (λ no. rw (lt-ltb n 256 l, no) (sym (found_none x m n says lines (none_recorded says no)))))
      (λ l. rw (le-ltb n 256 l) (sym (found_many x m n says lines l)))
