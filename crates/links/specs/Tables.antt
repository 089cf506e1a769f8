-- The tables that recovery keeps, one entry a page: highest slots, verdicts, committed versions.
use Rattle.std.specs.Prelude.{ℕ, ◌*◌, ◌≤◌, ◌<◌, ◌≡◌, List, None, is_some, get_or}
use Rattle.std.proofs.Common.{arith, ◌∙◌}
use Rattle.std.proofs.Math.Path.{sym, ap}
use Rattle.bounded.specs.Below.{all_below, some_below, sum_below}
use Rattle.bounded.specs.BelowLaws.{all_cong, some_cong, first_tells, sum_most}
use Rattle.bounded.specs.Tabulate.{tabulate, tabulate_at}
use Rattle.sizes.specs.declared.Layout.{Layout}
use Rattle.sizes.specs.declared.Layout.TheVariants.{FiveWords}
use Rattle.record.specs.declared.Record.{Record}
use Rattle.record.specs.Slot.{Slot}
use Rattle.std.specs.Prelude.{Some}
use Rattle.record.specs.Slot.{slot_at, holds}
use Rattle.record.specs.SlotLaws.{sound_facts}
use Rattle.table.specs.Table.{has_record, of_version, lowest_slot, has_version, highest}
use Rattle.table.proofs.TableLaws.{sound_at, highest_is, highest_held}
use Rattle.table.specs.HighestSlot.{named, entry_of}
use Rattle.table.proofs.HighestSlot.{highest_read, has_entry, beyond_blank}
use Rattle.chain.specs.declared.Key.TheVariants.{Straddler}
use Rattle.chain.specs.Chain.{Chained}
use Rattle.follow.specs.declared.Found.{Found}
use Rattle.follow.specs.declared.Verdict.{Verdict}
use Rattle.follow.specs.declared.Verdict.TheVariants.{Uncommitted}
use Rattle.follow.specs.declared.Walk.{Walk}
use Rattle.follow.specs.Follow.{follow, is_astray, StaysInside}
use Rattle.follow.proofs.Links.{links_most}
use Rattle.follow.specs.Verdicts.{listed}
use Rattle.follow.proofs.Verdicts.{follow_same}
use Rattle.follow.specs.Walks.{Followed}
use Rattle.rules.specs.laws.Families.{verdict_in}
use Rattle.table.specs.declared.SoundTable.{SoundTable}
use Rattle.links.specs.declared.survey.Survey.{Survey}
use Rattle.links.specs.Shown.{slots_shown, verdict_shown, walk_shown, committed_shown}
use Rattle.links.specs.Committed.{slot_verdict_in, verdict_by_slot, verdict_in_inside, walk_in, committed_by_in, committed_in}

-- the links from the first n pages, at most 256 from each
pub links_most_below : (layout : Layout) (P S : ℕ) (t : ℕ → Slot) → P ≤ 256 → (n : ℕ) → sum_below n (λ p. (walk_in layout P S t p).links) ≤ 256 * n
unfolding walk_in follow
links_most_below layout P S t m n = sum_most n 256 (λ p h. let l = links_most (verdict_in layout S t) p P in omega arith)

-- the records that may straddle a link are chained, where records have a back pointer
abbrev pub StraddlersChained : SoundTable → List ℕ → Type 0
StraddlersChained t chains = t.layout ≡ FiveWords → Chained Straddler t.sizes.slots (slot_at t.words.now) chains

-- the table has each page's verdict
abbrev pub Judged : SoundTable → List Verdict → Type 0
Judged t verdicts = (p : ℕ) → p < 256 → listed verdicts p ≡ verdict_shown t p

-- a page from P on has no record, so that its verdict is uncommitted
module _ (t : SoundTable) where
  pub verdict_beyond : (p : ℕ) → t.sizes.pages ≤ p → p < 256 → Uncommitted ≡ verdict_shown t p
  unfolding slot_verdict_in
  verdict_beyond p h l =
      sym (verdict_by_slot t.layout t.sizes.slots (slots_shown t) p
      ∙ ap (slot_verdict_in t.layout t.sizes.slots (slots_shown t)) (beyond_blank t.sizes.pages t.sizes.slots (slots_shown t) t.sound p h))

  pub committed_beyond : (p : ℕ) → t.sizes.pages ≤ p → p < 256 → committed_shown t p ≡ 0
  unfolding committed_in committed_by_in
  committed_beyond p h l =
      ap (committed_by_in t.layout t.sizes.slots (slots_shown t) (walk_shown t p).end) (beyond_blank t.sizes.pages t.sizes.slots (slots_shown t) t.sound p h)

  -- a highest record's link leads to a page below P
  pub top_next : (p : ℕ) (r : Record) → highest t.sizes.slots (slots_shown t) p ≡ Some r → r.np < t.sizes.pages
  top_next p r e =
      let k = highest_held (slots_shown t) p t.sizes.slots (highest_is (slots_shown t) p t.sizes.slots) e in
      (sound_facts t.sizes.pages r (sound_at (slots_shown t) t.sizes.pages t.sizes.slots k.0 t.sound k.1 k.2)).next_below

  module _ (verdicts : List Verdict) (e : Judged t verdicts) where
    verdict_at : (p : ℕ) → p < t.sizes.pages → verdict_shown t p ≡ listed verdicts p
    verdict_at p h = sym (e p (let m = t.pages_few in omega arith))

    -- the table's verdicts lead to pages below P,
    pub verdicts_inside : StaysInside t.sizes.pages (listed verdicts)
    verdicts_inside q r h f = verdict_in_inside t.layout t.sizes.slots (slots_shown t) t.sizes.pages t.sound q r h (verdict_at q h ∙ f)

    -- and a walk over the table is the walk over the verdicts
    pub verdicts_walk : (p : ℕ) → p < t.sizes.pages → walk_shown t p ≡ follow t.sizes.pages (listed verdicts) p
    unfolding walk_in
    verdicts_walk p h = follow_same t.sizes.pages (verdict_shown t) (listed verdicts) (verdict_in_inside t.layout t.sizes.slots (slots_shown t) t.sizes.pages t.sound) verdict_at p h

    -- so that the walks of the table are those of the verdicts
    pub verdicts_followed : (walks : List Found) → Followed t.sizes.pages (listed verdicts) walks → Followed t.sizes.pages (verdict_shown t) walks
    unfolding walk_in
    verdicts_followed walks f = record { each = λ p h. f.each p h ∙ sym (verdicts_walk p h) }

    pub verdicts_astray : some_below t.sizes.pages (λ p. is_astray (follow t.sizes.pages (listed verdicts) p).end) ≡ some_below t.sizes.pages (λ p. is_astray (walk_shown t p).end)
    verdicts_astray = some_cong t.sizes.pages (λ p h. ap (λ (w : Walk). is_astray w.end) (sym (verdicts_walk p h)))

-- the highest record, by its entry
pub top_names : (s : Survey) (p : ℕ) → p < 256 → named s.table.sizes.slots (slots_shown s.table) (entry_of s.table.sizes.slots (get_or s.top.now p None)) ≡ highest s.table.sizes.slots (slots_shown s.table) p
top_names s p h = highest_read s.table.sizes.slots (slots_shown s.table) s.table.sizes.slots s.top.now s.tops (omega arith) p h

-- "a page with no record", by its entry
pub tops_records : (s : Survey) → all_below s.table.sizes.pages (λ p. is_some (get_or s.top.now p None)) ≡ all_below s.table.sizes.pages (has_record s.table.sizes.slots (slots_shown s.table))
tops_records s = all_cong s.table.sizes.pages (λ p h. has_entry s.table.sizes.slots (slots_shown s.table) s.top.now s.tops p (let m = s.table.pages_few in omega arith))

-- a page's version is there, by a search for it
pub version_found : (S : ℕ) (t : ℕ → Slot) (p v : ℕ) → some_below S (λ k. holds (of_version p v) (t k)) ≡ has_version S t p v
unfolding has_version lowest_slot
version_found S t p v = first_tells (λ k. holds (of_version p v) (t k)) S

-- the committed versions are there, by their table
pub versions_by_table : (layout : Layout) (P S : ℕ) (t : ℕ → Slot) (committed : List ℕ) → P ≤ 256 → committed ≡ tabulate 256 (committed_in layout P S t) → all_below P (λ p. has_version S t p (get_or committed p 0)) ≡ all_below P (λ p. has_version S t p (committed_in layout P S t p))
versions_by_table layout P S t committed m e =
    all_cong P (λ p h. ap (λ (l : List ℕ). has_version S t p (get_or l p 0)) e ∙ ap (has_version S t p) (tabulate_at 256 (committed_in layout P S t) p (omega arith)))
