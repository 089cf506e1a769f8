-- A twin in a lower slot of a block, searched for along its chain.
use Rattle.std.specs.Prelude.{ℕ, ◌+◌, ◌≤◌, ◌<◌, ◌≡◌, List, Bool, true, false, ◌&&◌, ltb, get_or}
use native.Mathlib.Omega.{arith}
use Rattle.std.proofs.Math.Path.{refl, sym}
use Rattle.std.proofs.Common.{ap, ◌∙◌, eq-eqb, lt-ltb, le-ltb, ltb-true}
use Rattle.std.proofs.Math.Dec.{eqb}
use Rattle.bounded.specs.Choice.{on_test, same_test, both, both_left, both_right}
use Rattle.bounded.specs.Below.{some_below}
use Rattle.bounded.specs.BelowLaws.{some_of, some_at, some_none}
use Rattle.bounded.specs.Passing.{end_le}
use Rattle.record.specs.declared.Record.{Record}
use Rattle.std.specs.Prelude.{Some}
use Rattle.record.specs.Slot.{slot_at}
use Rattle.record.specs.Flash.{Flash}
use Rattle.table.proofs.TableLaws.{holds_of}
use Rattle.twins.specs.Twins.{twins}
use Rattle.chain.specs.declared.Key.TheVariants.{Pointer}
use Rattle.chain.specs.Chain.{chain_of, in_chain, max_chains, Chained}
use Rattle.chain.proofs.ChainLaws.{Left, search_goes_on}
use Rattle.judge.specs.JudgeLaws.{twin_in_chain}

-- ---- a twin below the slot, searched for along its chain

module _ (w : ℕ) (f : Flash) (inside : ℕ → Bool) (k : ℕ) where
  abbrev pub lower_twin : ℕ → Bool
  lower_twin j = ltb j k && (inside j && twins w f j k)

  -- all slots below n are searched, or those below k
  pub lower_below : (n : ℕ) → k ≤ n → some_below n lower_twin ≡ some_below k (λ j. inside j && twins w f j k)
  lower_below n h =
      same_test (some_below n lower_twin) (some_below k (λ j. inside j && twins w f j k))
      (λ e. let p = some_at lower_twin n e in
      some_of (λ j. inside j && twins w f j k) k p.0 (ltb-true p.0 k (both_left (ltb p.0 k) (inside p.0 && twins w f p.0 k) p.2)) (both_right (ltb p.0 k) (inside p.0 && twins w f p.0 k) p.2))
      (λ e. let p = some_at (λ j. inside j && twins w f j k) k e in
      some_of lower_twin n p.0 (let l = p.1 in omega arith) (both (lt-ltb p.0 k p.1) p.2))

  pub lower_in_chain : {r : Record} → slot_at f.words k ≡ Some r → (j : ℕ) → lower_twin j ≡ true → in_chain Pointer (slot_at f.words) (chain_of Pointer r) j ≡ true
  lower_in_chain e j t = twin_in_chain w f j k e (both_right (inside j) (twins w f j k) (both_right (ltb j k) (inside j && twins w f j k) t))

  -- the search begins at the slot's entry
  pub lower_begins : (S : ℕ) (chains : List ℕ) → Chained Pointer S (slot_at f.words) chains → k < S → {r : Record} → slot_at f.words k ≡ Some r → Left Pointer S (slot_at f.words) (chain_of Pointer r) lower_twin (get_or chains (max_chains + k) 0)
  unfolding in_chain
  lower_begins S chains c h {r} e =
      search_goes_on S (slot_at f.words) chains c (chain_of Pointer r) lower_twin (lower_in_chain e) (k + 1) k
      (record {
        in_table = omega arith;
        of_chain = λ j q. let s : j ≡ k = omega arith in holds_of (λ r'. eqb (chain_of Pointer r') (chain_of Pointer r)) (ap (slot_at f.words) s ∙ e) (eq-eqb (chain_of Pointer r) (chain_of Pointer r) refl);
        rest = lower_below S (omega arith) ∙ sym (lower_below (k + 1) (omega arith));
      })
      refl
      (rw (le-ltb k k (omega arith)))

  -- which is not above the slot,
  pub lower_entry : (S : ℕ) (chains : List ℕ) → Chained Pointer S (slot_at f.words) chains → k < S → {r : Record} → slot_at f.words k ≡ Some r → get_or chains (max_chains + k) 0 ≤ k
  lower_entry S chains c h {r} e = let q = c.slot_entry k r h e in let l = end_le (in_chain Pointer (slot_at f.words) (chain_of Pointer r)) k in omega arith

  -- goes on from a slot that is no twin,
  pub not_lower : (j : ℕ) → twins w f j k ≡ false → lower_twin j ≡ false
  not_lower j e = on_test (ltb j k) (λ a. on_test (inside j) (λ b. rw (a, b, e)) (λ b. rw (a, b))) (λ a. rw a)

  -- and ends in front of the block
  pub lower_ends : (S end : ℕ) {a : ℕ} → Left Pointer S (slot_at f.words) a lower_twin end → k ≤ S → ((j : ℕ) → j < end → inside j ≡ false) → some_below k (λ j. inside j && twins w f j k) ≡ false
  lower_ends S end l h none =
      sym (lower_below S h)
      ∙ l.rest
      ∙ some_none lower_twin end (λ j b. on_test (ltb j k) (λ e. rw (e, none j b)) (λ e. rw e))
