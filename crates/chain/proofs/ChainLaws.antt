-- How the chains grow by a slot; and that a search over all slots, for a test that only slots of one chain pass, is the search along it.
use Prim.Native.Nat.{ℕ, ◌+◌, ◌-◌, ◌%◌, ◌≤◌, ◌<◌, max}
use native.Mathlib.Omega.{arith}
use Rattle.std.specs.Prelude.{◌≡◌, refl, List, Bool, true, false, cond, ◌&&◌, ltb, get_or, set, replicate, Option, None, Some, SomeIff, is_some}
use Rattle.std.proofs.Math.Path.{sym, ap}
use Rattle.std.proofs.Common.{ap₂, ◌∙◌, length-set, get_or-set_same, get_or-set_other}
use Rattle.std.proofs.lemmas.Bool.{false≢true}
use Rattle.std.proofs.Math.Dec.{eqb}
use Rattle.std.proofs.lemmas.List.{length-replicate, get_or-replicate}
use borrow.Author.Tests.{eq-eqb, ne_eqb, eqb-true, lt-ltb, le-ltb, ltb-true}
use Rattle.bounded.specs.Limits.{max_slots, no_number}
use Rattle.bounded.specs.Choice.{on_eq, on_lt, never, both_left, both_right}
use Rattle.bounded.specs.Below.{some_below, max_below, first_below, end_below}
use Rattle.bounded.specs.BelowLaws.{some_zero, some_of, some_none, first_passes, first_tells}
use Rattle.bounded.specs.Passing.{end_le, end_here, end_stays, end_passes, some_from_end, some_go_on, max_from_end, max_go_on}
use Rattle.record.specs.declared.Record.{Record}
use Rattle.record.specs.Slot.{Slot}
use Rattle.std.specs.Prelude.{None, Some}
use Rattle.record.specs.Slot.{holds, straddles}
use Rattle.record.specs.SlotLaws.{holds_exactly}
use Rattle.table.specs.Table.{table_sound, of_version, clash, lowest_slot}
use Rattle.table.proofs.TableLaws.{blank_holds, holds_of}
use Rattle.table.proofs.HighestSlot.{page_below}
use Rattle.chain.specs.declared.Key.{Key}
use Rattle.chain.specs.declared.Key.TheVariants.{Page, Straddler, Pointer, Version}
use Rattle.chain.specs.Chain.{may_straddle, chain_of, by_version, max_chains, in_chain, end_of, Chained, Found}

-- ---- what a slot holds

module _ (key : Key) (t : ℕ → Slot) (k : ℕ) where
  blank_in_none : (a : ℕ) → t k ≡ None → in_chain key t a k ≡ false
  unfolding in_chain holds
  blank_in_none a e = rw e

  record_in_chain : (r : Record) → t k ≡ Some r → in_chain key t (chain_of key r) k ≡ true
  unfolding in_chain holds
  record_in_chain r e = rw e (eq-eqb (chain_of key r) (chain_of key r) refl)

  record_in_no_other : (a : ℕ) (r : Record) → t k ≡ Some r → ¬ (a ≡ chain_of key r) → in_chain key t a k ≡ false
  unfolding in_chain holds
  record_in_no_other a r e d = rw e (ne_eqb (chain_of key r) a (λ q. d (sym q)))

  chain_held : (a : ℕ) → in_chain key t a k ≡ true → (r : Record) × (t k ≡ Some r) × (chain_of key r ≡ a)
  unfolding in_chain
  chain_held a e = let h = (holds_exactly (λ r. eqb (chain_of key r) a) (t k)).0 e in (h.0, h.1, eqb-true _ _ h.2)

-- a record's chain is one of 1,024
pub chain_below : (key : Key) (r : Record) → chain_of key r < max_chains
unfolding chain_of
chain_below Page r = omega arith
chain_below Straddler r = either (may_straddle r)
  where
    either : (b : Bool) → cond b (r.p % 256) 256 < max_chains
    either true = omega arith
    either false = omega arith
chain_below Pointer r = omega arith
chain_below Version r = omega arith

holds_same : {r s : Record} → ◌≡◌ {A = Slot} (Some r) (Some s) → r ≡ s
holds_same e = cc

-- ---- one slot more

pub chained_none : (key : Key) (t : ℕ → Slot) (N : ℕ) → N ≡ max_chains + max_slots → Chained key 0 t (replicate N 0)
unfolding end_below
chained_none key t N h = record {
  sized = length-replicate N 0 ∙ h;
  chain_entry = λ a b. get_or-replicate N a 0 0 (omega arith);
  slot_entry = λ k r b e. absurd (omega arith);
}

-- of a sound table: whose record would have no page holds none
pub no_page_blank : (P S : ℕ) (t : ℕ → Slot) (k : ℕ) → table_sound P S t ≡ true → k < S → P ≤ no_number → ((r : Record) → t k ≡ Some r → r.p ≡ no_number) → t k ≡ None
no_page_blank P S t k sound h m f = by (t k) refl
  where
    by : (s : Slot) → t k ≡ s → t k ≡ None
    by None e = e
    by (Some r) e = let l = page_below P S t k r sound h e in let n = f r e in absurd (omega arith)

module _ (key : Key) (t : ℕ → Slot) (n : ℕ) (chains : List ℕ) (c : Chained key n t chains) where
  -- it holds no record
  pub chained_blank : t n ≡ None → Chained key (n + 1) t chains
  chained_blank e = record {
    sized = c.sized;
    chain_entry = λ a h. c.chain_entry a h ∙ sym (end_stays (in_chain key t a) n (blank_in_none key t n a e));
    slot_entry = λ k r h f. on_lt k n (λ l. c.slot_entry k r l f) (λ l. let q : k ≡ n = omega arith in absurd (blank_holds e (ap t (sym q) ∙ f)));
  }

  -- it holds a record: its chain's entry so far becomes the slot's, and the slot's end the chain's
  pub chained_record : (r : Record) → t n ≡ Some r → n < max_slots → Chained key (n + 1) t (set (set chains (max_chains + n) (get_or chains (chain_of key r) 0)) (chain_of key r) (n + 1))
  chained_record r e l = record {
    sized = length-set moved (chain_of key r) (n + 1) ∙ length-set chains (max_chains + n) (get_or chains (chain_of key r) 0) ∙ c.sized;
    chain_entry = λ a b. on_eq a (chain_of key r)
        (λ q. ap (λ (x : ℕ). get_or stored x 0) q
        ∙ get_or-set_same moved (chain_of key r) (n + 1) 0 (let s = length-set chains (max_chains + n) (get_or chains (chain_of key r) 0) in let z = c.sized in omega arith)
        ∙ sym (end_here (in_chain key t a) n (ap (λ (x : ℕ). in_chain key t x n) q ∙ record_in_chain key t n r e)))
        (λ d. get_or-set_other moved (chain_of key r) a (n + 1) 0 d
        ∙ get_or-set_other chains (max_chains + n) a (get_or chains (chain_of key r) 0) 0 (λ q. omega arith)
        ∙ c.chain_entry a b
        ∙ sym (end_stays (in_chain key t a) n (record_in_no_other key t n a r e d)));
    slot_entry = λ k s b f.
        get_or-set_other moved (chain_of key r) (max_chains + k) (n + 1) 0 (λ q. omega (arith, chain_below key r))
        ∙ on_lt k n
        (λ m. get_or-set_other chains (max_chains + n) (max_chains + k) (get_or chains (chain_of key r) 0) 0 (λ q. omega arith) ∙ c.slot_entry k s m f)
        (λ m. let q : k ≡ n = omega arith in
        let same : s ≡ r = holds_same (sym f ∙ ap t q ∙ e) in
        ap (λ (x : ℕ). get_or moved (max_chains + x) 0) q
        ∙ get_or-set_same chains (max_chains + n) (get_or chains (chain_of key r) 0) 0 (let s = c.sized in omega arith)
        ∙ c.chain_entry (chain_of key r) (chain_below key r)
        ∙ ap₂ (λ (j : ℕ) (x : Record). end_below j (in_chain key t (chain_of key x))) (sym q) (sym same));
  }
    where
      moved : List ℕ
      moved = set chains (max_chains + n) (get_or chains (chain_of key r) 0)

      stored : List ℕ
      stored = set moved (chain_of key r) (n + 1)

-- ---- the search

-- an end is above 0 exactly where there is a slot in front of it
pub end_some : (at : Option ℕ) → ltb 0 (end_of at) ≡ is_some at
end_some None = refl
end_some (Some k) = lt-ltb 0 (k + 1) (omega arith)

pub end_none : (at : Option ℕ) → is_some at ≡ false → end_of at ≡ 0
end_none None e = refl
end_none (Some k) e = absurd (never refl e)

-- a search from the end over all S slots has come to an end of chain a's slots: what is left is below it
pub record Left (key : Key) (S : ℕ) (t : ℕ → Slot) (a : ℕ) (q : ℕ → Bool) (end : ℕ) : Type 0 where
  pub in_table : end ≤ S
  pub of_chain : (k : ℕ) → end ≡ k + 1 → in_chain key t a k ≡ true
  pub rest : some_below S q ≡ some_below end q

module _ {key : Key} (S : ℕ) (t : ℕ → Slot) (chains : List ℕ) (c : Chained key S t chains) (a : ℕ) (q : ℕ → Bool) (narrower : (k : ℕ) → q k ≡ true → in_chain key t a k ≡ true) where
  -- it begins at the chain's entry
  pub search_begins : a < max_chains → Left key S t a q (get_or chains a 0)
  search_begins h = record {
    in_table = let e = c.chain_entry a h in let l = end_le (in_chain key t a) S in omega arith;
    of_chain = λ k e. end_passes (in_chain key t a) S k (sym (c.chain_entry a h) ∙ e);
    rest = some_from_end (in_chain key t a) q narrower S ∙ ap (λ (n : ℕ). some_below n q) (sym (c.chain_entry a h));
  }

  module _ (end k : ℕ) (l : Left key S t a q end) (e : end ≡ k + 1) where
    -- the slots of the chain before it end at its entry
    before_it : get_or chains (max_chains + k) 0 ≡ end_below k (in_chain key t a)
    before_it =
        let w = chain_held key t k a (l.of_chain k e) in
        c.slot_entry k w.0 (let b = l.in_table in omega arith) w.1 ∙ ap (λ (x : ℕ). end_below k (in_chain key t x)) w.2

    -- goes on, from a slot that does not pass, at that slot's entry
    pub search_goes_on : q k ≡ false → Left key S t a q (get_or chains (max_chains + k) 0)
    search_goes_on f = record {
      in_table = let i = end_le (in_chain key t a) k in let b = l.in_table in omega (arith, before_it);
      of_chain = λ j i. end_passes (in_chain key t a) k j (sym before_it ∙ i);
      rest = l.rest ∙ ap (λ (n : ℕ). some_below n q) e ∙ some_go_on (in_chain key t a) q narrower k f ∙ ap (λ (n : ℕ). some_below n q) (sym before_it);
    }

    -- which is lower
    pub search_falls : get_or chains (max_chains + k) 0 < end
    search_falls = let i = end_le (in_chain key t a) k in omega (arith, before_it)

  -- and ends at 0
  pub search_ends : (end : ℕ) → Left key S t a q end → end ≡ 0 → some_below S q ≡ false
  search_ends end l e = l.rest ∙ ap (λ (n : ℕ). some_below n q) e ∙ some_zero q

  -- what it gives where it comes upon a slot that passes,
  pub found_here : (end k : ℕ) → Left key S t a q end → end ≡ k + 1 → q k ≡ true → Found S q end
  found_here end k l e f = record {
    tells = some_of q S k (let b = l.in_table in omega arith) f ∙ sym (lt-ltb 0 end (omega arith));
    passes = λ j i. let s : j ≡ k = omega arith in (let b = l.in_table in omega arith, ap q s ∙ f);
  }

  -- and where it ends
  pub found_none : (end : ℕ) → Left key S t a q end → end ≡ 0 → Found S q 0
  found_none end l e = record {
    tells = search_ends end l e ∙ sym (le-ltb 0 0 (omega arith));
    passes = λ j i. absurd (omega arith);
  }

-- a record of a page is in the page's chain
pub page_in_chain : (t : ℕ → Slot) (p k : ℕ) (r : Record) → t k ≡ Some r → r.p ≡ p → in_chain Page t (p % 256) k ≡ true
unfolding in_chain chain_of
page_in_chain t p k r e q = holds_of (λ s. eqb (s.p % 256) (p % 256)) e (eq-eqb (r.p % 256) (p % 256) (rw q))

-- and one that straddles a link is in the chain of such records of the page that the link leads to
pub straddler_in_chain : (t : ℕ → Slot) (J : Record) (k : ℕ) → holds (λ K. straddles K J) (t k) ≡ true → in_chain Straddler t (J.np % 256) k ≡ true
unfolding in_chain chain_of may_straddle straddles
straddler_in_chain t J k e =
    let h = (holds_exactly (λ K. straddles K J) (t k)).0 e in
    let K : Record = h.0 in
    let p = eqb-true K.p J.np (both_left (eqb K.p J.np) _ h.2) in
    let between = both_right (eqb K.p J.np) (ltb K.c J.nv && ltb J.nv K.v) h.2 in
    let below = ltb-true K.c J.nv (both_left (ltb K.c J.nv) (ltb J.nv K.v) between) in
    let above = ltb-true J.nv K.v (both_right (ltb K.c J.nv) (ltb J.nv K.v) between) in
    holds_of (λ s. eqb (cond (may_straddle s) (s.p % 256) 256) (J.np % 256)) h.1
    (eq-eqb (cond (may_straddle K) (K.p % 256) 256) (J.np % 256) (rw (lt-ltb 1 (K.v - K.c) (omega arith), p)))

-- ---- the highest of a number that only slots of one chain have

-- a walk down chain a has come to an end of its slots: the highest of g is the best so far or below it
pub record Most (key : Key) (S : ℕ) (t : ℕ → Slot) (a : ℕ) (g : ℕ → ℕ) (best end : ℕ) : Type 0 where
  pub place : Left key S t a (λ k. false) end
  pub reached : max_below S g ≡ max best (max_below end g)

module _ {key : Key} (S : ℕ) (t : ℕ → Slot) (chains : List ℕ) (c : Chained key S t chains) (a : ℕ) (g : ℕ → ℕ) (nothing : (k : ℕ) → in_chain key t a k ≡ false → g k ≡ 0) where
  none : (k : ℕ) → false ≡ true → in_chain key t a k ≡ true
  none k e = absurd (false≢true e)

  -- it begins at the chain's entry,
  pub most_begins : a < max_chains → Most key S t a g 0 (get_or chains a 0)
  most_begins h = record {
    place = search_begins S t chains c a (λ k. false) none h;
    reached = let e = max_from_end (in_chain key t a) g nothing S ∙ ap (λ (n : ℕ). max_below n g) (sym (c.chain_entry a h)) in omega arith;
  }

  module _ (best end k : ℕ) (m : Most key S t a g best end) (e : end ≡ k + 1) where
    -- goes on at a slot's entry, which is lower,
    pub most_goes_on : Most key S t a g (max best (g k)) (get_or chains (max_chains + k) 0)
    most_goes_on = record {
      place = search_goes_on S t chains c a (λ k. false) none end k m.place e refl;
      reached =
          let r = m.reached in
          let s = ap (λ (n : ℕ). max_below n g) e ∙ max_go_on (in_chain key t a) g nothing k ∙ ap (λ (n : ℕ). max (g k) (max_below n g)) (sym (before_it S t chains c a (λ k. false) none end k m.place e)) in
          omega arith;
    }

    pub most_falls : get_or chains (max_chains + k) 0 < end
    most_falls = search_falls S t chains c a (λ k. false) none end k m.place e

  -- and has it at the end
  pub most_ends : (best end : ℕ) → Most key S t a g best end → end ≡ 0 → max_below S g ≡ best
  unfolding max_below
  most_ends best end m e = let r = m.reached ∙ ap (λ (n : ℕ). max best (max_below n g)) e in omega arith

-- ---- records of one page and version

-- they are in one chain
pub chain_by_version : (key : Key) → by_version key ≡ true → (s r : Record) → s.p ≡ r.p → s.v ≡ r.v → chain_of key s ≡ chain_of key r
unfolding chain_of by_version
chain_by_version Page b s r p v = rw p
chain_by_version Straddler b s r p v = absurd (never b refl)
chain_by_version Pointer b s r p v = absurd (never b refl)
chain_by_version Version b s r p v = rw (p, v)

pub version_in_chain : (key : Key) → by_version key ≡ true → (t : ℕ → Slot) (r : Record) (k : ℕ) → holds (of_version r.p r.v) (t k) ≡ true → in_chain key t (chain_of key r) k ≡ true
unfolding in_chain of_version
version_in_chain key b t r k e =
    let h = (holds_exactly (of_version r.p r.v) (t k)).0 e in
    holds_of (λ s. eqb (chain_of key s) (chain_of key r)) h.1
    (eq-eqb (chain_of key h.0) (chain_of key r) (chain_by_version key b h.0 r (eqb-true _ _ (both_left (eqb h.0.p r.p) _ h.2)) (eqb-true _ _ (both_right (eqb h.0.p r.p) _ h.2))))

-- none where the chain is empty
pub found_empty : (key : Key) → by_version key ≡ true → (n : ℕ) (t : ℕ → Slot) (chains : List ℕ) → Chained key n t chains → (r : Record) → get_or chains (chain_of key r) 0 ≡ 0 → Found n (λ k. holds (of_version r.p r.v) (t k)) 0
found_empty key b n t chains c r e =
    let q : ℕ → Bool = λ k. holds (of_version r.p r.v) (t k) in
    found_none n t chains c (chain_of key r) q (version_in_chain key b t r) (get_or chains (chain_of key r) 0) (search_begins n t chains c (chain_of key r) q (version_in_chain key b t r) (chain_below key r)) e

-- a look at all slots: the lowest that passes, or none
module _ (n : ℕ) (t : ℕ → Slot) (p v : ℕ) where
  sought : ℕ → Bool
  sought k = holds (of_version p v) (t k)

  pub found_lowest : (lowest : Option ℕ) → SomeIff lowest (lowest_slot n t p v < n) (lowest_slot n t p v) → Found n (λ k. holds (of_version p v) (t k)) (end_of lowest)
  unfolding lowest_slot sought
  found_lowest None h = record {
    tells = first_tells sought n ∙ le-ltb (first_below n sought) n (on_lt (first_below n sought) n (λ l. absurd (h l)) (λ l. l)) ∙ sym (le-ltb 0 0 (omega arith));
    passes = λ k e. absurd (omega arith);
  }
  found_lowest (Some slot) h = record {
    tells = first_tells sought n ∙ lt-ltb (first_below n sought) n h.0 ∙ sym (lt-ltb 0 (slot + 1) (omega arith));
    passes = λ k e. let s : k ≡ first_below n sought = let i = h.1 in omega arith in (let l = h.0 in omega arith, ap sought s ∙ first_passes sought n h.0);
  }

-- a blank slot is "of equal page and version" with none
pub blank_clashes_none : (t : ℕ → Slot) (k : ℕ) → t k ≡ None → Found k (λ j. clash (t j) (t k)) 0
unfolding clash
blank_clashes_none t k e = record {
  tells = some_none (λ j. clash (t j) (t k)) k (λ j h. rw e) ∙ sym (le-ltb 0 0 (omega arith));
  passes = λ j i. absurd (omega arith);
}

-- and those of a record's page and version are so with it
pub found_clash : (t : ℕ → Slot) (k : ℕ) {r : Record} {end : ℕ} → t k ≡ Some r → Found k (λ j. holds (of_version r.p r.v) (t j)) end → Found k (λ j. clash (t j) (t k)) end
unfolding clash
found_clash t k e f = rw e f
