-- Document 02, wish 6, "The slowest start": the one-ring table, and what is shown of the number of links that recover returns, stated for both families of
-- records.
use Rattle.std.specs.Prelude.{ℕ, ◌*◌, ◌≤◌, ◌<◌, ◌≡◌, List, true, length}
use Rattle.bounded.specs.Limits.{Widths}
use Rattle.bounded.specs.Below.{sum_below}
use Rattle.outcome.specs.Outcome.{Outcome}
use Rattle.sizes.specs.declared.Layout.{Layout}
use Rattle.sizes.specs.declared.Layout.TheVariants.{FiveWords, FourWords}
use Rattle.sizes.specs.declared.Sizes.{Sizes}
use Rattle.sizes.specs.Sizes.{sizes_ok}
use Rattle.record.specs.declared.Record.{Record}
use Rattle.record.specs.Slot.{Slot}
use Rattle.state.specs.declared.PageState.{PageState}
use Rattle.state.specs.State.{state_words}
use Rattle.state.specs.Change.{at_rest}
use Rattle.table.specs.Given.{one_each}
use Rattle.table.specs.Table.{table_sound}
use Rattle.follow.specs.declared.Verdict.{Verdict}
use Rattle.follow.specs.declared.End.{End}
use Rattle.follow.specs.declared.End.TheVariants as ends
use Rattle.follow.specs.Follow.{follow}
use Rattle.follow.specs.Steps.{Walked, Ring, next_in_ring, end_from}
use Rattle.rules.specs.Volume.{Volume, volume, slots_in}
use Rattle.rules.specs.Verdict.{verdict}
use Rattle.rules.specs.Recover.{recovered, recover_answer, recover_outcome}
use Rattle.rules.specs.Simple.{simple_verdict, simple_recovered}
use Rattle.rules.specs.SimpleCalls.{simple_recover_answer, simple_recover_outcome}

-- what a family's recovery is, as far as the links show it: how its records lie, the verdict of each page's highest record, the state that is found, and the
-- call
pub record Following : Type 0 where
  pub layout : Layout
  pub verdict : ℕ → (ℕ → Slot) → ℕ → Verdict
  pub recovered : (P S : ℕ) → (ℕ → Slot) → ℕ → PageState
  pub answer : Widths → Sizes → Volume → ℕ
  pub outcome : Widths → Sizes → Volume → Outcome (List ℕ)

-- document 01's, with a back pointer
abbrev pub back_pointing : Following
back_pointing = record { layout = FiveWords; verdict = verdict; recovered = recovered; answer = recover_answer; outcome = recover_outcome }

-- document 02's, wish 5, without one
abbrev pub simply : Following
simply = record { layout = FourWords; verdict = simple_verdict; recovered = simple_recovered; answer = λ widths sizes v. simple_recover_answer widths sizes v.flash.words v.state; outcome = λ widths sizes v. simple_recover_outcome widths sizes v.flash.words v.state }

-- the verdict of each page's highest record, in a volume
abbrev pub verdicts_of : Following → Sizes → Volume → ℕ → Verdict
verdicts_of F sizes v = F.verdict sizes.slots (slots_in F.layout v)

-- "the one-ring table": all P pages at version 1 in one ring, in the order of their numbers,
unfoldable pub ring_record : (P p : ℕ) → Record
ring_record P p = record { p = p; v = 1; c = 0; np = next_in_ring P p; nv = 1 }

-- page p's record in slot p, and no other record
unfoldable pub one_ring : Layout → (P S : ℕ) → List ℕ
one_ring layout P S = one_each layout P S (ring_record P)

-- "no sound table with P pages exceeds P×P"
pub record LinksAtMost (F : Following) : Type 0 where
  -- of a sound table, accepted or not, no walk that ends has more than P links, and walks from all pages have at most P×P
  pub walks : (P S : ℕ) (t : ℕ → Slot) → table_sound P S t ≡ true → (p n : ℕ) (e : End) → p < P → Walked (F.verdict S t) p e n → n ≤ P
  pub sums :
      (P S : ℕ) (t : ℕ → Slot)
      → table_sound P S t ≡ true
      → (end : ℕ → End) (links : ℕ → ℕ)
      → ((p : ℕ) → p < P → Walked (F.verdict S t) p (end p) (links p))
      → sum_below P links ≤ P * P
  -- and recover returns at most P×P, whatever the words are
  pub returned : (widths : Widths) (sizes : Sizes) (v : Volume) → (F.outcome widths sizes v).second ≤ sizes.pages * sizes.pages

-- "… and build for each P the one-ring table that reaches it": for all sizes that are right, and whatever the contents, recover answers 0 on it, returns P×P and
-- finds every page committed at 1.
abbrev pub OneRingReaches : Following → Type 0
OneRingReaches F =
    (widths : Widths) (sizes : Sizes) (contents state : List ℕ)
    → sizes_ok widths sizes ≡ true
    → length contents ≡ sizes.width * sizes.slots
    → length state ≡ 4 * sizes.pages
    → F.outcome widths sizes (volume (one_ring F.layout sizes.pages sizes.slots) contents state)
    ≡ record { answer = 0; second = sizes.pages * sizes.pages; left = state_words sizes.pages (λ p. at_rest 1 1) }

-- "It must equal the definition's steps."
pub record LinksAreSteps (F : Following) : Type 0 where
  -- a computed walk that is not astray is a walk by its steps, with that end and so many links, in any table;
  pub walked :
      (P S : ℕ) (t : ℕ → Slot) (p : ℕ) → ¬ ((follow P (F.verdict S t) p).end ≡ ends.Astray) → Walked (F.verdict S t) p (follow P (F.verdict S t) p).end (follow P (F.verdict S t) p).links
  -- in a sound table a walk by its steps is the computed one, so that it is not astray;
  pub exactly :
      (P S : ℕ) (t : ℕ → Slot) → table_sound P S t ≡ true → (p n : ℕ) (e : End) → p < P → Walked (F.verdict S t) p e n → follow P (F.verdict S t) p ≡ record { end = e; links = n }
  -- where recover answers 0 a walk from each page ends, and the number returned is the sum of the links of any such walks, at least one from each page;
  pub all_end :
      (widths : Widths) (sizes : Sizes) (v : Volume)
      → F.answer widths sizes v ≡ 0
      → (p : ℕ)
      → p < sizes.pages
      → ¬ ((follow sizes.pages (verdicts_of F sizes v) p).end ≡ ends.Astray)
  pub summed :
      (widths : Widths) (sizes : Sizes) (v : Volume)
      → F.answer widths sizes v ≡ 0
      → (end : ℕ → End) (links : ℕ → ℕ)
      → ((p : ℕ) → p < sizes.pages → Walked (verdicts_of F sizes v) p (end p) (links p))
      → (F.outcome widths sizes v).second ≡ sum_below sizes.pages links
  pub least : (widths : Widths) (sizes : Sizes) (v : Volume) → F.answer widths sizes v ≡ 0 → sizes.pages ≤ (F.outcome widths sizes v).second
  -- "on refusal 0";
  pub refused : (widths : Widths) (sizes : Sizes) (v : Volume) → ¬ (F.answer widths sizes v ≡ 0) → (F.outcome widths sizes v).second ≡ 0
  -- and a ring of k pages has k links from each of them, in any table.
  pub ring :
      (P S : ℕ) (t : ℕ → Slot) (k : ℕ) (page : ℕ → ℕ)
      → Ring (F.verdict S t) k page
      → ((i : ℕ) → i < k → page i < P)
      → (i : ℕ)
      → i < k
      → follow P (F.verdict S t) (page i) ≡ record { end = ends.Committed; links = k }

-- Nothing else that recover gives or leaves depends on the number: the answer is the family's `answer` and the state, where it is filled, its
-- `recovered`, which look at where a walk ends and not at its links; and it ends where it does without a count.
pub record LinksApart (F : Following) : Type 0 where
  pub ends_alone : (P S : ℕ) (t : ℕ → Slot) (p : ℕ) → (follow P (F.verdict S t) p).end ≡ end_from (F.verdict S t) p P p
  pub answer : (widths : Widths) (sizes : Sizes) (v : Volume) → (F.outcome widths sizes v).answer ≡ F.answer widths sizes v
  pub filled :
      (widths : Widths) (sizes : Sizes) (v : Volume)
      → F.answer widths sizes v ≡ 0
      → (F.outcome widths sizes v).left ≡ state_words sizes.pages (F.recovered sizes.pages sizes.slots (slots_in F.layout v))
  pub unaltered : (widths : Widths) (sizes : Sizes) (v : Volume) → ¬ (F.answer widths sizes v ≡ 0) → (F.outcome widths sizes v).left ≡ v.state
