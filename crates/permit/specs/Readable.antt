-- What judging records without a back pointer rests on: every slot is in the words, and the page of each record in the state.
use Rattle.std.specs.Prelude.{ℕ, ◌+◌, ◌*◌, ◌≤◌, ◌<◌, ◌≡◌, List, true, length}
use Rattle.std.proofs.Common.{arith, subst}
use Rattle.sizes.specs.declared.Layout.{Layout}
use Rattle.sizes.specs.declared.Layout.TheVariants.{FourWords}
use Rattle.record.specs.declared.Record.{Record}
use Rattle.std.specs.Prelude.{Some}
use Rattle.record.specs.Slot.{slot_in}
use Rattle.table.specs.Table.{table_sound}
use Rattle.table.proofs.HighestSlot.{page_below}
use Rattle.rules.specs.laws.Chains.{SpansIn}

pub record Readable (P S : ℕ) (words state : List ℕ) : Type 0 where
  pub spans : SpansIn FourWords P S words state
  pub sound : table_sound P S (slot_in FourWords words) ≡ true

-- a volume of four-word records that is judged and passes
pub judged_readable : {l : Layout} (P S : ℕ) (words state : List ℕ) → l ≡ FourWords → SpansIn l P S words state → table_sound P S (slot_in l words) ≡ true → Readable P S words state
judged_readable P S words state e s t = record {
  spans = subst (λ (x : Layout). SpansIn x P S words state) e s;
  sound = subst (λ (x : Layout). table_sound P S (slot_in x words) ≡ true) e t;
}

module _ (P S : ℕ) (words state : List ℕ) (f : Readable P S words state) where
  pub slot_in_words : (k : ℕ) → k < S → 4 * k + 4 ≤ length words
  slot_in_words k h = let s = f.spans.slots_in_lem in omega arith

  pub page_in_state : (p : ℕ) → p < P → 4 * p + 4 ≤ length state
  page_in_state p h = let s = f.spans.pages_in_lem in omega arith

  pub record_in_state : (k : ℕ) (r : Record) → k < S → slot_in FourWords words k ≡ Some r → 4 * r.p + 4 ≤ length state
  record_in_state k r h e = page_in_state r.p (page_below P S (slot_in FourWords words) k r f.sound h e)
