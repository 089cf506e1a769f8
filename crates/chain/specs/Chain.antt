-- The slots as chains, each from its last slot down: a table of an entry for each chain and then one for each slot.
use Rattle.std.specs.Prelude.{ℕ, ◌+◌, ◌*◌, ◌-◌, ◌%◌, ◌≤◌, ◌<◌, ◌≡◌, List, Bool, true, false, cond, ltb, eqb, length, get_or, Option, None, Some}
use Rattle.bounded.specs.Limits.{max_slots}
use Rattle.bounded.specs.Below.{some_below, end_below}
use Rattle.record.specs.declared.Record.{Record}
use Rattle.record.specs.Slot.{Slot}
use Rattle.std.specs.Prelude.{Some}
use Rattle.record.specs.Slot.{holds, slot_at}
use Rattle.table.specs.Table.{table_sound}
use Rattle.chain.specs.declared.Key.{Key}
use Rattle.chain.specs.declared.Key.TheVariants.{Page, Straddler, Pointer, Version}

-- a version is between the record's back pointer and its version: no other straddles a link
unfoldable pub may_straddle : Record → Bool
may_straddle r = ltb 1 (r.v - r.c)

-- a record's chain by a key: a page has one, one for the records that may straddle a link (all others share one), four by the back
-- pointer, or many by the version, which it shares with other pages: by 181 both many pages of few versions and few pages of many share few
unfoldable pub chain_of : Key → Record → ℕ
chain_of Page r = r.p % 256
chain_of Straddler r = cond (may_straddle r) (r.p % 256) 256
chain_of Pointer r = 4 * (r.p % 256) + r.c % 4
chain_of Version r = (4 * (181 * (r.p % 256) % 256) + r.v % 1024) % 1024

-- records of one page and version are in one chain
unfoldable pub by_version : Key → Bool
by_version Page = true
by_version Straddler = false
by_version Pointer = false
by_version Version = true

abbrev pub max_chains : ℕ
max_chains = 1024

-- slot k holds a record of chain a
unfoldable pub in_chain : Key → (ℕ → Slot) → (a k : ℕ) → Bool
in_chain key t a k = holds (λ r. eqb (chain_of key r) a) (t k)

-- the end that a slot, or none, stands for: 1 more than the slot, 0 where there is none
abbrev pub end_of : Option ℕ → ℕ
end_of None = 0
end_of (Some k) = k + 1

-- the chains of the slots below n: a chain's entry is where its slots end, a slot's where those of its chain before it do
pub record Chained (key : Key) (n : ℕ) (t : ℕ → Slot) (chains : List ℕ) : Type 0 where
  pub sized : length chains ≡ max_chains + max_slots
  pub chain_entry : (a : ℕ) → a < max_chains → get_or chains a 0 ≡ end_below n (in_chain key t a)
  pub slot_entry : (k : ℕ) (r : Record) → k < n → t k ≡ Some r → get_or chains (max_chains + k) 0 ≡ end_below k (in_chain key t (chain_of key r))

-- the slots below n are chained so that those of page p's version v are in one chain, and that chain's end is `end`
pub record ChainedTo (n : ℕ) (t : ℕ → Slot) (chains : List ℕ) (end p v : ℕ) : Type 0 where
  pub key : Key
  pub versions_together : by_version key ≡ true
  pub chained : Chained key n t chains
  pub end_is : end ≡ get_or chains (chain_of key (record { p = p; v = v; c = 0; np = 0; nv = 0 })) 0

-- what a search over the slots below n gives: where a slot that passes ends, 0 where there is none
pub record Found (n : ℕ) (q : ℕ → Bool) (end : ℕ) : Type 0 where
  pub tells : some_below n q ≡ ltb 0 end
  pub passes : (k : ℕ) → end ≡ k + 1 → (k < n) × (q k ≡ true)

-- what judging by chains rests on: the limit of S, the S slots in the words, and a sound table
pub record Linkable (P S : ℕ) (words : List ℕ) : Type 0 where
  pub slots_few : S ≤ max_slots
  pub slots_in_lem : 5 * S ≤ length words
  pub sound : table_sound P S (slot_at words) ≡ true
