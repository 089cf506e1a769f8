-- What judging rests on: the bounds of a sound table, the exposed records, and the chains and found slots that a search goes over.
use Rattle.std.specs.Prelude.{ℕ, ◌+◌, ◌*◌, ◌≤◌, ◌<◌, ◌≡◌, List, Bool, true, length, get_or}
use Rattle.std.proofs.Common.{arith, sym, subst}
use Rattle.bounded.specs.Limits.{max_slots}
use Rattle.sizes.specs.declared.Layout.{Layout}
use Rattle.sizes.specs.declared.Layout.TheVariants.{FiveWords}
use Rattle.record.specs.declared.Record.{Record}
use Rattle.std.specs.Prelude.{Some}
use Rattle.record.specs.Slot.{holds, slot_in, slot_at}
use Rattle.state.specs.State.{state_at}
use Rattle.table.specs.Table.{table_sound}
use Rattle.table.proofs.HighestSlot.{page_below}
use Rattle.rules.specs.Permission.{is_exposed}
use Rattle.rules.specs.Found.{exposed_slots}
use Rattle.rules.specs.laws.Chains.{SpansIn}
use Rattle.rules.proofs.laws.Found.{found_below}
use Rattle.chain.specs.declared.Key.TheVariants.{Pointer}
use Rattle.chain.specs.Chain.{Linkable, Chained}

-- ---- the table

-- the S slots are at most 1,024 and in the words; the page of each record in them is in the state
pub record Within (S : ℕ) (words state : List ℕ) : Type 0 where
  pub slots_few : S ≤ max_slots
  pub slots_in_lem : 5 * S ≤ length words
  pub pages_in_lem : (k : ℕ) (r : Record) → k < S → slot_at words k ≡ Some r → 4 * r.p + 4 ≤ length state

-- a volume that is judged and passes
pub judged_linkable : (P S : ℕ) (words state : List ℕ) → SpansIn FiveWords P S words state → table_sound P S (slot_at words) ≡ true → Linkable P S words
judged_linkable P S words state s e =
    record { slots_few = s.bounds.slots_most; slots_in_lem = s.slots_in_lem; sound = e }

-- … of a layout that is that of five words
pub judged_linkable_in : {l : Layout} (P S : ℕ) (words state : List ℕ) → l ≡ FiveWords → SpansIn l P S words state → table_sound P S (slot_in l words) ≡ true → Linkable P S words
judged_linkable_in P S words state e s t =
    judged_linkable P S words state (subst (λ (x : Layout). SpansIn x P S words state) e s) (subst (λ (x : Layout). table_sound P S (slot_in x words) ≡ true) e t)

-- a sound table's pages are below P
pub linkable_within : (P S : ℕ) (words state : List ℕ) → Linkable P S words → 4 * P ≤ length state → Within S words state
linkable_within P S words state l h = record {
  slots_few = l.slots_few;
  slots_in_lem = l.slots_in_lem;
  pages_in_lem = λ k r b e. let p = page_below P S (slot_at words) k r l.sound b e in omega arith;
}

-- ---- the exposed records

-- slot k holds one
abbrev pub exposed_at : (words state : List ℕ) → ℕ → Bool
exposed_at words state k = holds (is_exposed (state_at state)) (slot_at words k)

-- ---- the search

-- the slots are chained, and what was found is slots of the table
pub record Searchable (S : ℕ) (words chains found : List ℕ) : Type 0 where
  pub slots_few : S ≤ max_slots
  pub slots_in_lem : 5 * S ≤ length words
  pub chained : Chained Pointer S (slot_at words) chains
  pub found_in : (i : ℕ) → i < length found → get_or found i 0 < S

pub searchable : (P S : ℕ) (words state chains found : List ℕ) → Linkable P S words → Chained Pointer S (slot_at words) chains → found ≡ exposed_slots S (slot_at words) (state_at state) → Searchable S words chains found
searchable P S words state chains found l c e = record {
  slots_few = l.slots_few;
  slots_in_lem = l.slots_in_lem;
  chained = c;
  found_in = subst (λ (x : List ℕ). (i : ℕ) → i < length x → get_or x i 0 < S) (sym e) (found_below S (slot_at words) (state_at state));
}
