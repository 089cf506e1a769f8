-- Laws of a line and its call: a line that is no format, a write of equal bytes, and what a call gives back.
use Rattle.std.specs.Prelude.{Result, Ok, Err, ℕ, ◌-◌, ◌≤◌, ◌<◌, min, ◌≡◌, refl, List, [], ◌∷◌, true, false, take, drop, replicate}
use Rattle.std.proofs.Common.{arith, sym, ◌∙◌, inl, inr}
use types.Run.{OneOf, miss}
use denote.Enum.Declared.{tag_of}
use Rattle.bounded.specs.Limits.{Widths}
use Rattle.bounded.specs.Choice.{on_lt, on_test}
use Rattle.bounded.specs.Fronts.{equal_lent}
use Rattle.std.specs.Result.{result_and}
use Rattle.outcome.specs.declared.Refusal.{Refusal}
use Rattle.outcome.specs.Outcome.{settled}
use Rattle.outcome.specs.Result.{outcome_by, ends}
use Rattle.atomicity.specs.Call.{with_state, with_flash}
use Rattle.sizes.specs.declared.Sizes.{Sizes}
use Rattle.line.specs.declared.Line.{Line}
use Rattle.line.specs.declared.Line.TheVariants as lines
use Rattle.line.specs.Line.{said, on_format}
use Rattle.line.specs.contracts.Line.{the_type}
use Rattle.rules.specs.Volume.{Volume, volume_fits}
use Rattle.rules.specs.Write.{write_answer, write_outcome}
use Rattle.rules.proofs.laws.Volume.{fits_facts}

-- a line of another key than format's
pub other_line : {A : Type 0} (line : Line) (list : List ℕ) (f : Sizes → A) (other : A) → OneOf (1 ∷ 2 ∷ 3 ∷ 4 ∷ 5 ∷ 6 ∷ 7 ∷ []) (tag_of the_type line) → on_format (said line list) f other ≡ other
unfolding on_format said
other_line (lines.Format sizes) list f other k = absurd (miss (1 ∷ 2 ∷ 3 ∷ 4 ∷ 5 ∷ 6 ∷ 7 ∷ []) 0 tt k)
other_line (lines.Launch count) list f other k = refl
other_line (lines.Write page slot fill) list f other k = refl
other_line (lines.Withdraw page) list f other k = refl
other_line (lines.Erase count) list f other k = refl
other_line lines.Recover list f other k = refl
other_line lines.Cut list f other k = refl
other_line lines.List list f other k = refl

-- a line that no format is has another key
pub other_key : (line : Line) → ((sizes : Sizes) → ¬ (line ≡ lines.Format sizes)) → OneOf (1 ∷ 2 ∷ 3 ∷ 4 ∷ 5 ∷ 6 ∷ 7 ∷ []) (tag_of the_type line)
other_key (lines.Format sizes) f = absurd (f sizes refl)
other_key (lines.Launch count) f = inl refl
other_key (lines.Write page slot fill) f = inr (inl refl)
other_key (lines.Withdraw page) f = inr (inr (inl refl))
other_key (lines.Erase count) f = inr (inr (inr (inl refl)))
other_key lines.Recover f = inr (inr (inr (inr (inl refl))))
other_key lines.Cut f = inr (inr (inr (inr (inr (inl refl)))))
other_key lines.List f = inr (inr (inr (inr (inr (inr refl)))))

module _ (widths : Widths) (sizes : Sizes) (v : Volume) (page slot : ℕ) where
  -- Where the sizes or a buffer's length are wrong a write is refused by 1, whatever its bytes.
  refused_by_sizes : volume_fits widths sizes v ≡ false → (bytes : List ℕ) → write_outcome widths sizes v page slot bytes ≡ record { answer = 1; second = 0; left = v }
  unfolding write_outcome write_answer settled
  refused_by_sizes e bytes = rw e

  -- A write of equal bytes, as many as the width says, out of the largest width allowed: a width above that is refused.
  pub filled_write :
      (most fill n : ℕ) → ((w : ℕ) → widths w ≡ true → w ≤ most) → n ≡ min sizes.width most
      → write_outcome widths sizes v page slot (take (n - 0) (drop 0 (replicate most fill))) ≡ write_outcome widths sizes v page slot (replicate sizes.width fill)
  filled_write most fill n bound e =
      on_lt most sizes.width
      (λ (h : most < sizes.width). on_test (volume_fits widths sizes v)
      (λ f. let b = bound sizes.width (fits_facts widths sizes v f).allowed in absurd (omega arith))
      (λ f. refused_by_sizes f (take (n - 0) (drop 0 (replicate most fill))) ∙ sym (refused_by_sizes f (replicate sizes.width fill))))
      (λ (h : sizes.width ≤ most). let k : n ≡ sizes.width = omega arith in rw (equal_lent n most fill (omega arith), k))

-- What a call that alters the whole volume, the state alone or the flash alone gives back says of the volume.
module _ (v : Volume) where
  pub volume_ends : (r : Result (Unit {0}) Refusal) → outcome_by 0 (result_and r (Ok 0)) v ≡ ends r v
  volume_ends (Ok x) = refl
  volume_ends (Err refusal) = refl

  module _ (state : List ℕ) where
    pub state_ends : (r : Result (Unit {0}) Refusal) → outcome_by 0 (result_and r (Ok 0)) (record { flash = v.flash; state = state }) ≡ with_state v (ends r state)
    unfolding with_state
    state_ends (Ok x) = refl
    state_ends (Err refusal) = refl

    pub state_by : (r : Result ℕ Refusal) → outcome_by 0 r (record { flash = v.flash; state = state }) ≡ with_state v (outcome_by 0 r state)
    unfolding with_state
    state_by (Ok x) = refl
    state_by (Err refusal) = refl

  pub flash_ends : (after : Volume) (r : Result (Unit {0}) Refusal) → outcome_by 0 (result_and r (Ok 0)) (record { flash = after.flash; state = v.state }) ≡ with_flash v (ends r after.flash)
  unfolding with_flash
  flash_ends after (Ok x) = refl
  flash_ends after (Err refusal) = refl
