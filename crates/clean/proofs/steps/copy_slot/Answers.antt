-- The buffer lent has as many bytes as the width.
use Prim.Native.Nat.{ℕ, ◌+◌, ◌*◌, ◌-◌, ◌≤◌}
use mathlib.Core.Path.{◌≡◌, sym, ap, ◌∙◌, subst}
use mathlib.Core.List.{List}
use lib.ListN.{length, take, drop, replicate, length-replicate}
use Rattle.bounded.specs.Fronts.{equal_lent}
use Rattle.record.specs.Flash.{apply, flash}
use Rattle.upkeep.specs.Clean.{copy_step}
use Rattle.clean.proofs.steps.copy_slot.Goals as goal

lent_length : (w n : ℕ) → w ≤ n → length (take (w - 0) (drop 0 (replicate {A = ℕ} n 0))) ≡ w
lent_length w n h = ap (λ (l : List ℕ). length l) (equal_lent w n 0 h) ∙ length-replicate w 0

pub copy_through-requires : goal.copy_through-requires
copy_through-requires c = let p = c.requires in
    let a = c.args in
    let e = sym (lent_length a.width 64 p.width_bound) in
    record { from_in_bounds = p.from_in_bounds; to_in_bounds = p.to_in_bounds; buffer_in_bounds = subst (λ (n : ℕ). n * a.from + n ≤ length a.contents.now) e p.width_in_bounds; buffer_in_bounds_2 = subst (λ (n : ℕ). n * a.to + n ≤ length a.contents.now) e p.width_in_bounds_2 }

pub returns : goal.returns
returns c = let a = c.args in
    let f = flash a.words.now a.contents.now in
    c.copy_through.ensures ∙ ap (λ (n : ℕ). apply n f (copy_step n f a.from a.to)) (lent_length a.width 64 c.requires.width_bound)
