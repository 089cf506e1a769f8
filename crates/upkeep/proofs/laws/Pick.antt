-- Pick, as facts: going round shows each block once; the block that is named; what an unseen block can free; and more blocks looked at.
use Prim.Native.Nat.{ℕ, zero, suc, ◌+◌, ◌-◌, ◌<◌, ◌≤◌, min}
use native.Mathlib.Omega.{arith}
use Rattle.std.specs.Prelude.{◌≡◌, ◌⊎◌, List, Bool, true, false, cond, ◌&&◌, ltb}
use Rattle.std.proofs.Math.Path.{refl, sym, ap, subst}
use Rattle.std.proofs.Common.{◌∙◌, ⊎_elim}
use Rattle.std.proofs.Math.Logic.{inl, inr}
use Rattle.std.proofs.Math.Dec.{eqb}
use Rattle.std.proofs.Math.ListN.{length}
use borrow.Author.Tests.{ltb-true, lt-ltb, le-ltb, eqb-false, eq-eqb, ne_eqb}
use Rattle.bounded.specs.Limits.{Widths}
use Rattle.bounded.specs.Choice.{on_lt, on_eq, on_test, both_left}
use Rattle.bounded.specs.Below.{max_below, list_below}
use Rattle.bounded.specs.BelowLaws.{some_of, some_none, max_above, max_bound, max_at, first_most, first_most_lem, before_first_most}
use Rattle.bounded.specs.Members.{count_more, count_stays, count_most}
use Rattle.outcome.specs.Outcome.{◌⇒◌otherwise◌}
use Rattle.outcome.specs.OutcomeLaws.{passed, settled_done}
use Rattle.outcome.specs.Chain.{first_passes, both_pass}
use Rattle.sizes.specs.declared.Block.{Block}
use Rattle.sizes.specs.declared.Sizes.{Sizes}
use Rattle.sizes.specs.Blocks.{NamedBlock, named, block_ok, block_at, in_block}
use Rattle.sizes.proofs.BlocksLaws.{block_facts}
use Rattle.rules.specs.Volume.{Volume}
use Rattle.rules.specs.Suggest.{suggestible}
use Rattle.upkeep.specs.Pick.{seen_at, looked_at, is_seen, block_size, frees, most_freed, picked_block, largest_unseen, unseen_lead, pick_of, four_words, pick_answer, pick_outcome}
use Rattle.upkeep.specs.Picked.{GoesRound, GoingRound, Picks, Picked, LargerFindsNoLess}
use Rattle.rules.specs.laws.Chains.{block_judged}
use Rattle.rules.proofs.laws.Chains.{block_judged_passed}
use Rattle.upkeep.proofs.laws.Tests.{pick_own, pick_chain, pick_length}

-- ---- going round

module _ (block : NamedBlock) where
  -- up to the last block, and behind it
  seen_on : (i : ℕ) → block.number + i < length block.starts → (seen_at block i).number ≡ block.number + i
  unfolding seen_at
  seen_on i l = rw (lt-ltb (block.number + i) (length block.starts) l)

  seen_round : (i : ℕ) → length block.starts ≤ block.number + i → (seen_at block i).number ≡ block.number + i - length block.starts
  unfolding seen_at
  seen_round i l = rw (le-ltb (block.number + i) (length block.starts) l)

  -- what is seen is named by the same table
  pub seen_named : (i : ℕ) → seen_at block i ≡ named block.starts (seen_at block i).number
  unfolding seen_at
  seen_named i = refl

module _ (block : NamedBlock) (there : block.number < length block.starts) where
  -- it is a block of the table
  pub seen_below : (i : ℕ) → i < length block.starts → (seen_at block i).number < length block.starts
  seen_below i h =
      on_lt (block.number + i) (length block.starts)
      (λ l. let e = seen_on block i l in omega arith)
      (λ l. let e = seen_round block i l in omega arith)

  -- no block is seen twice
  seen_once : (i j : ℕ) → i < length block.starts → j < length block.starts → (seen_at block i).number ≡ (seen_at block j).number → i ≡ j
  seen_once i j h g e =
      on_lt (block.number + i) (length block.starts)
      (λ l. on_lt (block.number + j) (length block.starts)
      (λ m. let a = seen_on block i l in let b = seen_on block j m in omega arith)
      (λ m. let a = seen_on block i l in let b = seen_round block j m in omega arith))
      (λ l. on_lt (block.number + j) (length block.starts)
      (λ m. let a = seen_round block i l in let b = seen_on block j m in omega arith)
      (λ m. let a = seen_round block i l in let b = seen_round block j m in omega arith))

  -- every block is seen
  seen_each : (k : ℕ) → k < length block.starts → (i : ℕ) × (i < length block.starts) × ((seen_at block i).number ≡ k)
  seen_each k h =
      on_lt k block.number
      (λ l. let i = k + length block.starts - block.number in let e = seen_round block i (omega arith) in (i, omega arith, omega arith))
      (λ l. let i = k - block.number in let e = seen_on block i (omega arith) in (i, omega arith, omega arith))

  -- the named one first, and then each on the one before it
  seen_first : seen_at block 0 ≡ block
  seen_first = seen_named block 0 ∙ ap (named block.starts) (let e = seen_on block 0 (omega arith) in omega arith)

  seen_next : (i : ℕ) → suc i < length block.starts → suc (seen_at block i).number < length block.starts → (seen_at block (suc i)).number ≡ suc (seen_at block i).number
  seen_next i h l =
      on_lt (block.number + suc i) (length block.starts)
      (λ a. let x = seen_on block (suc i) a in let y = seen_on block i (omega arith) in omega arith)
      (λ a. let x = seen_round block (suc i) a in
      on_lt (block.number + i) (length block.starts)
      (λ b. absurd (let y = seen_on block i b in omega arith))
      (λ b. let y = seen_round block i b in omega arith))

  seen_again : (i : ℕ) → suc i < length block.starts → suc (seen_at block i).number ≡ length block.starts → (seen_at block (suc i)).number ≡ 0
  seen_again i h l =
      on_lt (block.number + i) (length block.starts)
      (λ b. let y = seen_on block i b in let x = seen_round block (suc i) (omega arith) in omega arith)
      (λ b. absurd (let y = seen_round block i b in omega arith))

  goes_round : GoesRound block
  goes_round = record {
    first = seen_first;
    next = seen_next;
    round = seen_again;
    each = λ k h. let w = seen_each k h in (w.0, w.1, seen_named block w.0 ∙ ap (named block.starts) w.2);
    once = λ i j h g e. seen_once i j h g (ap (λ (b : NamedBlock). b.number) e);
  }

  module _ (n : ℕ) where
    -- those at the first places are looked at, the others not
    is_seen_lem : (i : ℕ) → i < looked_at block n → is_seen block n (seen_at block i).number ≡ true
    unfolding is_seen
    is_seen_lem i h = some_of (λ j. eqb (seen_at block j).number (seen_at block i).number) (looked_at block n) i h (eq-eqb (seen_at block i).number (seen_at block i).number refl)

    looked_most : looked_at block n ≤ length block.starts
    unfolding looked_at
    looked_most = omega arith

    not_seen : (i : ℕ) → looked_at block n ≤ i → i < length block.starts → is_seen block n (seen_at block i).number ≡ false
    unfolding is_seen
    not_seen i l h =
        some_none (λ j. eqb (seen_at block j).number (seen_at block i).number) (looked_at block n)
        (λ j g. ne_eqb (seen_at block j).number (seen_at block i).number (λ e. let m = looked_most in let q = seen_once j i (omega arith) h e in omega arith))

    -- the largest unseen block is the largest of those at the other places
    module _ (sizes : Sizes) (v : Volume) where
      abbrev size_of : NamedBlock → ℕ
      size_of b = block_size (block_at sizes.slots b)

      abbrev pub unseen_size : ℕ → ℕ
      unseen_size i = cond (ltb i (looked_at block n)) 0 (size_of (seen_at block i))

      abbrev size_unseen : ℕ → ℕ
      size_unseen k = cond (is_seen block n k) 0 (size_of (named block.starts k))

      -- the same of a place and of the block that is seen there
      same_size : (i : ℕ) → i < length block.starts → unseen_size i ≡ size_unseen (seen_at block i).number
      same_size i h =
          on_lt i (looked_at block n)
          (λ l. rw (lt-ltb i (looked_at block n) l, is_seen_lem i l))
          (λ l. rw (le-ltb i (looked_at block n) l, not_seen i l h) (ap size_of (seen_named block i)))

      pub unseen_by_place : max_below (length block.starts) unseen_size ≡ largest_unseen sizes v block n
      unfolding largest_unseen
      unseen_by_place =
          let a = max_bound unseen_size (length block.starts) (max_below (length block.starts) size_unseen) (λ i h. let e = same_size i h in let m = max_above size_unseen (length block.starts) (seen_at block i).number (seen_below i h) in omega arith) in
          let b = max_bound size_unseen (length block.starts) (max_below (length block.starts) unseen_size) (λ k h. let w = seen_each k h in let e = same_size w.0 w.1 in let q = ap size_unseen w.2 in let m = max_above unseen_size (length block.starts) w.0 w.1 in omega arith) in
          omega arith

pub going_round : GoingRound
unfolding block_ok
going_round block e = goes_round block (ltb-true block.number (length block.starts) e)

-- ---- what a block frees

-- of the slots below n at most so many are in a block
in_block_most : (b : Block) (n : ℕ) → length (list_below n (in_block b)) ≤ min n b.end - b.first
unfolding list_below
in_block_most b zero = omega arith
in_block_most b (suc n) =
    let i = in_block_most b n in
    on_test (in_block b n)
    (λ e. let c = count_more (in_block b) n e in let f = block_facts b n e in let l = f.0 in let m = f.1 in omega arith)
    (λ e. let c = count_stays (in_block b) n e in omega arith)

module _ (sizes : Sizes) (v : Volume) where
  -- no more than it has slots
  frees_most : (block : NamedBlock) → frees sizes v block ≤ block_size (block_at sizes.slots block)
  unfolding frees block_size
  frees_most block =
      let b = block_at sizes.slots block in
      let c = count_most (λ k. in_block b k && suggestible sizes v k) (in_block b) sizes.slots (λ k h e. both_left (in_block b k) (suggestible sizes v k) e) in
      let m = in_block_most b sizes.slots in
      omega arith

  module _ (block : NamedBlock) (there : block.number < length block.starts) (n : ℕ) where
    abbrev looked : ℕ
    looked = min n (length block.starts)

    -- an unseen block is no larger than the number and the lead
    unseen_size_lem : (i : ℕ) → looked ≤ i → i < length block.starts → block_size (block_at sizes.slots (seen_at block i)) ≤ most_freed sizes v block n + unseen_lead sizes v block n
    unfolding unseen_lead looked_at
    unseen_size_lem i l h =
        let e = unseen_by_place block there n sizes v in
        let q : unseen_size block there n sizes v i ≡ block_size (block_at sizes.slots (seen_at block i)) = rw (le-ltb i (looked_at block n) l) in
        let m = max_above (unseen_size block there n sizes v) (length block.starts) i h in
        omega arith

    unseen_most : (i : ℕ) → looked ≤ i → i < length block.starts → frees sizes v (seen_at block i) ≤ most_freed sizes v block n + unseen_lead sizes v block n
    unseen_most i l h = let f = frees_most (seen_at block i) in let s = unseen_size_lem i l h in omega arith

    -- a lead is met by the largest
    lead_met : (unseen_lead sizes v block n ≡ 0) ⊎ ((i : ℕ) × (looked ≤ i) × (i < length block.starts) × (block_size (block_at sizes.slots (seen_at block i)) ≡ most_freed sizes v block n + unseen_lead sizes v block n))
    unfolding unseen_lead looked_at
    lead_met = by (length block.starts) refl
      where
        by : (m : ℕ) → length block.starts ≡ m → (unseen_lead sizes v block n ≡ 0) ⊎ ((i : ℕ) × (looked ≤ i) × (i < length block.starts) × (block_size (block_at sizes.slots (seen_at block i)) ≡ most_freed sizes v block n + unseen_lead sizes v block n))
        by zero e = absurd (omega arith)
        by (suc m) e =
            let top = ap (λ (x : ℕ). max_below x (unseen_size block there n sizes v)) (sym e) ∙ unseen_by_place block there n sizes v in
            let w = max_at (unseen_size block there n sizes v) m in
            let b = w.1 in
            let met = w.2 in
            on_lt w.0 (looked_at block n)
            (λ l. let z : unseen_size block there n sizes v w.0 ≡ 0 = rw (lt-ltb w.0 (looked_at block n) l) in inl (omega arith))
            (λ l. let q : unseen_size block there n sizes v w.0 ≡ block_size (block_at sizes.slots (seen_at block w.0)) = rw (le-ltb w.0 (looked_at block n) l) in
            on_lt (most_freed sizes v block n) (largest_unseen sizes v block n)
            (λ g. inr (w.0, l, omega arith, omega arith))
            (λ g. inl (omega arith)))

    -- none where every block is seen
    no_lead : length block.starts ≤ n → unseen_lead sizes v block n ≡ 0
    no_lead l = ⊎_elim (λ e. e) (λ w. absurd (let a = w.1 in let b = w.2 in omega arith)) lead_met

    picks : ¬ (n ≡ 0) → Picks sizes v block (pick_of sizes v block n)
    unfolding pick_of looked_at most_freed picked_block
    picks d = by looked refl
      where
        by : (m : ℕ) → m ≡ looked → Picks sizes v block (pick_of sizes v block n)
        by zero e = absurd (d (omega arith))
        by (suc m) e =
            let f : ℕ → ℕ = λ i. frees sizes v (seen_at block i) in
            let w = subst (λ (m : ℕ). (first_most f m < m) × (f (first_most f m) ≡ max_below m f)) e (first_most_lem f m) in
            record {
              place = first_most f looked;
              place_below = w.0;
              is_there = sym (seen_named block (first_most f looked));
              frees_number = w.1;
              most = max_above f looked;
              earliest = before_first_most f looked;
              unseen_most = unseen_most;
              unseen_size_lem = unseen_size_lem;
              lead_met = lead_met;
            }

-- ---- the call

module _ (widths : Widths) (sizes : Sizes) (v : Volume) (block : NamedBlock) (n : ℕ) (out : List ℕ) where
  -- what a pick that answers 0 has tested
  pub record PickTests : Type 0 where
    pub four : length out ≡ 4
    pub none_refused : block_judged widths sizes v block ≡ 0
    pub some : ¬ (n ≡ 0)
    pub there : block.number < length block.starts

  pub pick_tests : pick_answer widths sizes v block n out ≡ 0 → PickTests
  unfolding pick_own block_ok
  pick_tests e =
      on_eq (length out) 4
      (λ f.
      let parts = both_pass (block_judged widths sizes v block) (pick_own n) (sym (pick_chain widths sizes v block n out f) ∙ e) in
      let j = block_judged_passed widths sizes v block parts.0 in
      record { four = f; none_refused = parts.0; some = eqb-false n 0 (passed (eqb n 0) _ _ parts.1).0; there = ltb-true block.number (length block.starts) j.named })
      (λ d. absurd (let o = pick_length widths sizes v block n out d in omega arith))

  pub pick_passes : length out ≡ 4 → block_judged widths sizes v block ≡ 0 → ¬ (n ≡ 0) → pick_answer widths sizes v block n out ≡ 0
  unfolding pick_own
  pick_passes f j d = pick_chain widths sizes v block n out f ∙ sym (first_passes 0 0 (sym j) refl (sym (ap (λ (b : Bool). b ⇒ 18 otherwise 0) (ne_eqb n 0 d))))

  pub pick_done : pick_answer widths sizes v block n out ≡ 0 → pick_outcome widths sizes v block n out ≡ record { answer = 0; second = 0; left = four_words (pick_of sizes v block n) }
  unfolding pick_outcome
  pick_done e = settled_done _ _ _ _ _ e

pub picked : Picked
unfolding pick_of looked_at
picked widths sizes v block n out e =
    let t = pick_tests widths sizes v block n out e in
    (pick_of sizes v block n, pick_done widths sizes v block n out e, picks sizes v block t.there n t.some, refl, no_lead sizes v block t.there n)

pub larger_finds_no_less : LargerFindsNoLess
unfolding pick_of most_freed looked_at
larger_finds_no_less widths sizes v block n m out again l four e =
    let t = pick_tests widths sizes v block n out e in
    let d : ¬ (m ≡ 0) = λ z. t.some (omega arith) in
    let accepted = pick_passes widths sizes v block m again four t.none_refused d in
    let f : ℕ → ℕ = λ i. frees sizes v (seen_at block i) in (
      pick_of sizes v block n,
      pick_of sizes v block m,
      pick_done widths sizes v block n out e,
      pick_done widths sizes v block m again accepted,
      max_bound f (min n (length block.starts)) (max_below (min m (length block.starts)) f) (λ i h. max_above f (min m (length block.starts)) i (omega arith)),
    )
