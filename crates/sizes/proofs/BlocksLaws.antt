-- The test of a block table as facts; that it is that every block has a slot; and where the slots of its blocks are.
use Rattle.std.specs.Prelude.{ℕ, zero, suc, ◌+◌, ◌-◌, ◌≤◌, ◌<◌, ◌≡◌, refl, ◌↔◌, List, [], ◌∷◌, true, false, ◌&&◌, leb, eqb}
use Rattle.std.proofs.Common.{arith, add-one, sym, ◌∙◌, subst}
use Rattle.std.proofs.Math.Path.{ap}
use Rattle.std.proofs.Math.Bool.{Bool}
use Rattle.std.proofs.Math.Dec.{ltb}
use Rattle.std.proofs.Math.ListN.{length, get_or, get_or-eq_default}
use borrow.Author.Tests.{leb-true, le-leb, lt-leb, ltb-true, lt-ltb, le-ltb, eqb-true, eq-eqb}
use Rattle.bounded.specs.Choice.{on_lt, on_test, both, both_left, both_right}
use Rattle.bounded.specs.Below.{all_below}
use Rattle.bounded.specs.BelowLaws.{all_at, all_of}
use Rattle.sizes.specs.declared.Block.{Block}
use Rattle.sizes.specs.Sizes.{in_range}
use Rattle.sizes.specs.Blocks.{max_blocks, rises_strictly, starts_ok, NamedBlock, named, block_ok, block_at, in_block}
use Rattle.sizes.specs.BlocksLaws.{StartsFacts, BlockIn}

-- an entry does not depend on what stands for a missing one
entry_there : (l : List ℕ) (i d e : ℕ) → i < length l → get_or l i d ≡ get_or l i e
entry_there [] i d e h = absurd (omega arith)
entry_there (x ∷ l) zero d e h = refl
entry_there (x ∷ l) (suc i) d e h = entry_there l i d e (omega arith)

module _ (S : ℕ) (starts : List ℕ) where
  pub starts_facts : starts_ok S starts ≡ true → StartsFacts S starts
  unfolding starts_ok rises_strictly in_range
  starts_facts e =
      let n = length starts in
      let last : Bool = rises_strictly starts && in_range S starts in
      let e1 = both_right (leb 1 n) (leb n max_blocks && (eqb (get_or starts 0 0) 0 && last)) e in
      let e2 = both_right (leb n max_blocks) (eqb (get_or starts 0 0) 0 && last) e1 in
      let e3 = both_right (eqb (get_or starts 0 0) 0) last e2 in
      record {
        one_start = leb-true 1 n (both_left (leb 1 n) (leb n max_blocks && (eqb (get_or starts 0 0) 0 && last)) e);
        starts_most = leb-true n max_blocks (both_left (leb n max_blocks) (eqb (get_or starts 0 0) 0 && last) e1);
        first_zero = eqb-true (get_or starts 0 0) 0 (both_left (eqb (get_or starts 0 0) 0) last e2);
        rise = λ i h. ltb-true _ _ (all_at (λ i. ltb (get_or starts i 0) (get_or starts (suc i) 0)) (n - 1) i (both_left (rises_strictly starts) (in_range S starts) e3) (omega arith));
        below = λ i h. ltb-true _ _ (all_at (λ i. ltb (get_or starts i 0) S) n i (both_right (rises_strictly starts) (in_range S starts) e3) h);
      }

  pub starts_test : StartsFacts S starts → starts_ok S starts ≡ true
  unfolding starts_ok rises_strictly in_range
  starts_test f =
      both (le-leb _ _ f.one_start) (both (le-leb _ _ f.starts_most) (both (eq-eqb _ _ f.first_zero)
      (both
      (all_of (λ i. ltb (get_or starts i 0) (get_or starts (suc i) 0)) (length starts - 1) (λ i h. lt-ltb _ _ (f.rise i (omega arith))))
      (all_of (λ i. ltb (get_or starts i 0) S) (length starts) (λ i h. lt-ltb _ _ (f.below i h))))))

  -- the test is exactly no "table that breaks these rules, its length included"
  pub starts_exactly : (starts_ok S starts ≡ true) ↔ StartsFacts S starts
  starts_exactly = (starts_facts, starts_test)

  pub starts_fail : (StartsFacts S starts → ⊥) → starts_ok S starts ≡ false
  starts_fail h = on_test (starts_ok S starts) (λ e. absurd (h (starts_facts e))) (λ e. e)

  -- ---- every block has a slot

  -- block i has one
  unfoldable pub has_slot : ℕ → Bool
  has_slot i = ltb (block_at S (named starts i)).first (block_at S (named starts i)).end

  -- where a block ends that is not the last, and where the last does
  next_start : (i : ℕ) → suc i < length starts → (block_at S (named starts i)).end ≡ get_or starts (suc i) 0
  unfolding block_at
  next_start i h = entry_there starts (suc i) _ 0 h

  last_end : (i : ℕ) → length starts ≤ suc i → (block_at S (named starts i)).end ≡ S
  unfolding block_at
  last_end i h = get_or-eq_default starts _ h

  -- as a block is read: an end that stands behind its start in the table, or is S where nothing stands there
  pub block_read : (i : ℕ) {e : ℕ} → e ≡ get_or starts (i + 1) S → ◌≡◌ {A = Block} (record { first = get_or starts i 0; end = e }) (block_at S (named starts i))
  unfolding block_at
  block_read i h = ap (λ (e : ℕ). record { first = get_or starts i 0; end = e }) (h ∙ ap (λ (n : ℕ). get_or starts n S) (add-one i))

  pub block_has_slot : StartsFacts S starts → (i : ℕ) → i < length starts → (block_at S (named starts i)).first < (block_at S (named starts i)).end
  unfolding block_at
  block_has_slot f i h =
      on_lt (suc i) (length starts)
      (λ l. let e = next_start i l in let r = f.rise i l in omega arith)
      (λ l. let e = last_end i l in let b = f.below i h in omega arith)

  -- as a block of the table is found to have one, or none
  module _ (i : ℕ) {block : Block} (is_Block : block ≡ block_at S (named starts i)) where
    pub has_slot_lem : block.first < block.end → has_slot i ≡ true
    unfolding has_slot
    has_slot_lem h = ap (λ (b : Block). ltb b.first b.end) (sym is_Block) ∙ lt-ltb block.first block.end h

    pub no_slot : i < length starts → block.end ≤ block.first → starts_ok S starts ≡ false
    no_slot h l =
        starts_fail (λ f. let s = subst (λ (b : Block). b.first < b.end) (sym is_Block) (block_has_slot f i h) in omega arith)

  pub block_inside : StartsFacts S starts → (i : ℕ) → i < length starts → (block_at S (named starts i)).end ≤ S
  block_inside f i h =
      on_lt (suc i) (length starts)
      (λ l. let e = next_start i l in let b = f.below (suc i) l in omega arith)
      (λ l. let e = last_end i l in omega arith)

  -- so they rise, and the last is below S,
  module _ (each : all_below (length starts) has_slot ≡ true) where
    slot_in_lem : (i : ℕ) → i < length starts → get_or starts i 0 < (block_at S (named starts i)).end
    unfolding has_slot block_at
    slot_in_lem i h = ltb-true _ _ (all_at has_slot (length starts) i each h)

    rising : (i : ℕ) → suc i < length starts → get_or starts i 0 < get_or starts (suc i) 0
    rising i h = let e = next_start i h in let s = slot_in_lem i (omega arith) in omega arith

    -- and with it all before it: those with n behind them
    all_below_lem : (n i : ℕ) → i + suc n ≡ length starts → get_or starts i 0 < S
    all_below_lem zero i e = let s = slot_in_lem i (omega arith) in let l = last_end i (omega arith) in omega arith
    all_below_lem (suc n) i e = let r = rising i (omega arith) in let b = all_below_lem n (suc i) (omega arith) in omega arith

    pub starts_pass : 1 ≤ length starts → length starts ≤ max_blocks → get_or starts 0 0 ≡ 0 → starts_ok S starts ≡ true
    starts_pass h m z =
        starts_test
        (record { one_start = h; starts_most = m; first_zero = z; rise = rising; below = λ i l. all_below_lem (length starts - suc i) i (omega arith) })

-- ---- a block's slots

module _ (block : Block) (k : ℕ) where
  pub inside_block : block.first ≤ k → k < block.end → in_block block k ≡ true
  unfolding in_block
  inside_block h l = both (le-leb block.first k h) (lt-ltb k block.end l)

  pub before_block : k < block.first → in_block block k ≡ false
  unfolding in_block
  before_block h = rw (lt-leb block.first k h)

  pub behind_start : block.first ≤ k → in_block block k ≡ ltb k block.end
  unfolding in_block
  behind_start h = rw (le-leb block.first k h)

  pub behind_block : block.first ≤ block.end → block.end ≤ k → in_block block k ≡ false
  behind_block o h = behind_start (omega arith) ∙ le-ltb k block.end h

  pub block_facts : in_block block k ≡ true → (block.first ≤ k) × (k < block.end)
  unfolding in_block
  block_facts e = (leb-true block.first k (both_left (leb block.first k) (ltb k block.end) e), ltb-true k block.end (both_right (leb block.first k) (ltb k block.end) e))

pub named_inside : (S : ℕ) (block : NamedBlock) → starts_ok S block.starts ≡ true → block_ok block ≡ true → BlockIn S (block_at S block)
unfolding block_ok
named_inside S block e h =
    let f = starts_facts S block.starts e in
    let l = ltb-true block.number (length block.starts) h in
    let s = block_has_slot S block.starts f block.number l in
    record { ordered = omega arith; inside = block_inside S block.starts f block.number l }
