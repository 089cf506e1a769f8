-- The bytes lent are the front of an array of equal ones.
use Prim.Native.Nat.{ℕ, ◌-◌, ◌≤◌}
use mathlib.Core.Path.{◌≡◌, ◌∙◌}
use mathlib.Core.List.{List}
use lib.ListN.{length, take, drop, replicate, length-replicate}
use Rattle.bounded.specs.Parts.{put_part}
use Rattle.bounded.specs.Fronts.{equal_lent}
use Rattle.record.proofs.flash.fill_slot.Goals as goal

-- the bytes lent: as many as the width, all equal
lent_equal : (w n x k : ℕ) (l : List ℕ) {left : List ℕ} → w ≤ n → left ≡ put_part (length (take (w - 0) (drop 0 (replicate n x)))) k (take (w - 0) (drop 0 (replicate n x))) l → left ≡ put_part w k (replicate w x) l
lent_equal w n x k l h e = e ∙ rw (equal_lent w n x h, length-replicate {A = ℕ} w x)

pub returns-clause-contents_after : goal.returns-clause-contents_after
returns-clause-contents_after c = let a = c.args in
    lent_equal a.width 64 a.fill a.slot a.contents.now c.requires.width_bound c.put_slot.ensures.contents_after
