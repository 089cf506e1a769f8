-- The loops of a pick, each at its start, one number more and at its end: what a block frees, the best of the blocks looked at, and the largest unseen.
use Rattle.std.specs.Prelude.{ℕ, ◌+◌, ◌-◌, ◌<◌, ◌≤◌, ◌≡◌, List, Bool, true, false, ◌&&◌, max}
use native.Mathlib.Omega.{arith}
use Rattle.std.proofs.Common.{add-one, ◌∙◌}
use Rattle.std.proofs.Math.Path.{sym, ap, ap₂, subst, fun_ext}
use Rattle.std.proofs.Math.ListN.{length}
use borrow.Author.Tests.{lt-ltb, le-ltb}
use Rattle.bounded.specs.Choice.{both}
use Rattle.bounded.specs.Below.{max_below, first_below, list_below}
use Rattle.bounded.specs.BelowLaws.{max_bound, max_here, max_stays, first_most_here, first_most_stays}
use Rattle.bounded.specs.Members.{list_none, count_more, count_stays}
use Rattle.bounded.specs.Noted.{list_goes_on}
use Rattle.sizes.specs.declared.Block.{Block}
use Rattle.sizes.specs.declared.Sizes.{Sizes}
use Rattle.sizes.specs.Blocks.{NamedBlock, named, starts_ok, block_ok, block_at, in_block}
use Rattle.sizes.specs.BlocksLaws.{BlockIn}
use Rattle.sizes.proofs.BlocksLaws.{inside_block, before_block, behind_block, named_inside}
use Rattle.record.specs.Slot.{slot_at}
use Rattle.state.specs.State.{state_at}
use Rattle.twins.specs.Twins.{twins}
use Rattle.rules.specs.Volume.{Volume}
use Rattle.rules.specs.Permission.{Scene, may_erase_alone}
use Rattle.rules.specs.Found.{exposed_slots}
use Rattle.rules.specs.Suggest.{suggestible}
use Rattle.upkeep.specs.Pick.{seen_at, block_size, frees}
use Rattle.rules.proofs.laws.Found.{found_scene}
use Rattle.upkeep.proofs.laws.Pick.{seen_below}
use Rattle.pick.specs.declared.Freed.{Freed}
use Rattle.pick.specs.Picking.{alone_by, frees_by, best_by, unseen_by}

-- ---- what a block frees

module _ (sizes : Sizes) (v : Volume) (found : List ℕ) (block : Block) where
  abbrev is_freed : ℕ → Bool
  is_freed k = in_block block k && alone_by sizes v found k

  -- those of the block's slots below n
  abbrev pub freed_below : ℕ → ℕ
  freed_below n = length (list_below n is_freed)

  pub freed_none : freed_below block.first ≡ 0
  freed_none = ap length (list_none is_freed block.first (λ k h. rw (before_block block k h)))

  module _ (k : ℕ) (reached : block.first ≤ k) (inside : k < block.end) {count : ℕ} (so_far : count ≡ freed_below k) where
    pub freed_more : alone_by sizes v found k ≡ true → count + 1 ≡ freed_below (k + 1)
    freed_more e = rw (add-one count, add-one k, so_far) (sym (count_more is_freed k (both (inside_block block k reached inside) e)))

    pub freed_stays : alone_by sizes v found k ≡ false → count ≡ freed_below (k + 1)
    freed_stays e = rw (add-one k, so_far) (sym (count_stays is_freed k (rw (inside_block block k reached inside, e))))

  pub freed_all : BlockIn sizes.slots block → freed_below block.end ≡ frees_by sizes v found block
  unfolding frees_by
  freed_all i = ap length (sym (list_goes_on is_freed block.end sizes.slots i.inside (λ k h l. rw (behind_block block k i.ordered h))))

-- ---- a block that is seen

module _ (starts : List ℕ) (block i : ℕ) {n : ℕ} (is_seen_lem : n ≡ (seen_at (named starts block) i).number) where
  -- it has the slots of the block with its number
  pub seen_block : (S : ℕ) {slots : Block} → slots ≡ block_at S (named starts n) → slots ≡ block_at S (seen_at (named starts block) i)
  unfolding seen_at
  seen_block S e = e ∙ ap (λ (n : ℕ). block_at S (named starts n)) is_seen_lem

  -- it is a block of the table, with slots of the table
  module _ (there : block < length starts) (inside : i < length starts) where
    pub seen_there : n < length starts
    seen_there = let b = seen_below (named starts block) there i inside in omega arith

    pub seen_inside : (S : ℕ) → starts_ok S starts ≡ true → {slots : Block} → slots ≡ block_at S (named starts n) → BlockIn S slots
    unfolding block_ok
    seen_inside S sound e = subst (BlockIn S) (sym e) (named_inside S (named starts n) sound (lt-ltb n (length starts) seen_there))

-- ---- the best of the blocks looked at

module _ (block : NamedBlock) (f : NamedBlock → ℕ) where
  -- of none, the block that is named
  pub best_none : block.number < length block.starts → ◌≡◌ {A = Freed} (record { block = block.number; frees = 0 }) (best_by block 0 f)
  unfolding best_by seen_at max_below first_below
  best_none h = rw (lt-ltb (block.number + 0) (length block.starts) (omega arith)) (ap (λ (n : ℕ). record { block = n; frees = 0 }) (omega arith))

  -- what is freed of the block that is seen when i others have been
  abbrev freed_at : ℕ → ℕ
  freed_at i = f (seen_at block i)

  module _ (i : ℕ) {best : Freed} (so_far : best ≡ best_by block i f) {seen freed : ℕ} (is_seen_lem : seen ≡ (seen_at block i).number) (is_freed_lem : freed ≡ freed_at i) where
    most_so_far : best.frees ≡ max_below i freed_at
    unfolding best_by
    most_so_far = ap (λ (b : Freed). b.frees) so_far

    pub best_here : best.frees < freed → ◌≡◌ {A = Freed} (record { block = seen; frees = freed }) (best_by block (i + 1) f)
    unfolding best_by
    best_here h =
        let m = most_so_far in
        let more : max_below i freed_at < freed_at i = omega arith in
        ap₂ (λ (n r : ℕ). record { block = n; frees = r })
        (is_seen_lem ∙ ap (λ (j : ℕ). (seen_at block j).number) (sym (first_most_here freed_at i more)))
        (is_freed_lem ∙ sym (max_here freed_at i more))

    pub best_stays : freed ≤ best.frees → best ≡ best_by block (i + 1) f
    unfolding best_by
    best_stays h =
        let m = most_so_far in
        let less : freed_at i ≤ max_below i freed_at = omega arith in
        so_far
        ∙ ap₂ (λ (n r : ℕ). record { block = n; frees = r })
        (ap (λ (j : ℕ). (seen_at block j).number) (sym (first_most_stays freed_at i less)))
        (sym (max_stays freed_at i less))

-- by the exposed records, a block frees what the rule permits
frees_by_found :
    (sizes : Sizes) (v : Volume) (block : NamedBlock)
    → frees_by sizes v (exposed_slots sizes.slots (slot_at v.flash.words) (state_at v.state)) (block_at sizes.slots block) ≡ frees sizes v block
unfolding frees_by alone_by frees suggestible
frees_by_found sizes v block =
    ap (λ (s : Scene). length (list_below sizes.slots (λ k. in_block (block_at sizes.slots block) k && may_erase_alone s k)))
    (found_scene sizes.slots (slot_at v.flash.words) (state_at v.state) (twins sizes.width v.flash))

pub best_by_found :
    (sizes : Sizes) (v : Volume) (block : NamedBlock) (looked : ℕ) {found : List ℕ}
    → found ≡ exposed_slots sizes.slots (slot_at v.flash.words) (state_at v.state)
    → best_by block looked (λ b. frees_by sizes v found (block_at sizes.slots b)) ≡ best_by block looked (frees sizes v)
best_by_found sizes v block looked e =
    ap (λ (l : List ℕ). best_by block looked (λ b. frees_by sizes v l (block_at sizes.slots b))) e ∙ ap (best_by block looked) (fun_ext (frees_by_found sizes v))

-- ---- the largest of the others

module _ (S : ℕ) (block : NamedBlock) (looked : ℕ) where
  pub unseen_none : 0 ≡ max_below looked (unseen_by S block looked)
  unfolding unseen_by
  unseen_none = let m = max_bound (unseen_by S block looked) looked 0 (λ i h. rw (unseen_by, lt-ltb i looked h) (omega arith)) in omega arith

  module _ (i : ℕ) (behind : looked ≤ i) {slots : Block} (is_Block : slots ≡ block_at S (seen_at block i)) {largest : ℕ} (so_far : largest ≡ max_below i (unseen_by S block looked)) where
    unseen_size_lem : slots.end - slots.first ≡ unseen_by S block looked i
    unfolding unseen_by block_size
    unseen_size_lem = rw (le-ltb i looked behind) (ap block_size is_Block)

    pub unseen_more : {most : ℕ} → most ≡ max largest (slots.end - slots.first) → most ≡ max_below (i + 1) (unseen_by S block looked)
    unfolding max_below
    unseen_more e = e ∙ rw (unseen_size_lem, so_far, add-one i)
