-- What recovery answers, gives and leaves, in the form in which the code computes it for either layout of records; and that it is the rules'.
use Rattle.std.specs.Prelude.{ℕ, ◌*◌, ◌≤◌, ◌<◌, ◌≡◌, refl, List, Bool, true, false, not, ◌&&◌, ◌||◌, length, get_or}
use Rattle.std.proofs.Common.{arith, sym, ap, ap₂, ◌∙◌}
use Rattle.bounded.specs.Limits.{Widths}
use Rattle.bounded.specs.Below.{all_below, some_below}
use Rattle.bounded.specs.Choice.{both_left, both_right}
use Rattle.bounded.specs.BelowLaws.{all_at, all_cong}
use Rattle.bounded.specs.Tabulate.{tabulate, tabulate_at}
use Rattle.outcome.specs.Outcome.{◌⇒◌otherwise◌, Outcome, settled}
use Rattle.outcome.specs.Reply.{outcome_of}
use Rattle.outcome.specs.OutcomeLaws.{passed, held}
use Rattle.sizes.specs.declared.Layout.{Layout}
use Rattle.sizes.specs.declared.Layout.TheVariants.{FiveWords, FourWords}
use Rattle.sizes.specs.declared.Sizes.{Sizes}
use Rattle.sizes.specs.Sizes.{sizes_ok, stride_of, words_fit_in, state_fits}
use Rattle.sizes.proofs.SizesLaws.{sizes_facts, words_fit_in_lem, state_fits_exactly}
use Rattle.record.specs.Slot.{Slot}
use Rattle.record.specs.Slot.{slot_in, slot_at}
use Rattle.state.specs.State.{state_words}
use Rattle.state.specs.StateLaws.{state_words_cong}
use Rattle.state.specs.Change.{at_rest}
use Rattle.table.specs.Table.{table_sound, some_clash, has_record, has_version, used_of}
use Rattle.table.proofs.TableLaws.{highest_exists}
use Rattle.twins.specs.Twins.{twins, some_conflict}
use Rattle.follow.specs.Follow.{is_astray}
use Rattle.rules.specs.Volume.{Volume, volume_fits}
use Rattle.rules.specs.Recover.{walk_of, committed_of, links_of, recovered, recover_answer, recover_outcome}
use Rattle.rules.specs.Simple.{simple_walk_of, has_committed, simple_recovered}
use Rattle.rules.specs.SimpleCalls.{simple_recover_answer, simple_links_of, simple_recover_outcome}
use Rattle.rules.proofs.laws.Volume.{fits_facts}
use Rattle.rules.specs.laws.Families.{recovered_in}
use Rattle.links.specs.Answer.{links_answer}
use Rattle.links.specs.Committed.{walk_in, links_in, committed_in, committed_five, committed_four, four_there, four_version}

-- the answer by the records of a sound table, where no two conflict
unfoldable pub records_answer : Layout → (P S : ℕ) → (ℕ → Slot) → ℕ
unfolding links_answer
records_answer layout P S t =
    not (all_below P (has_record S t)) ⇒ 3 otherwise
    links_answer layout P S t

module _ (layout : Layout) (P S : ℕ) (t : ℕ → Slot) where
  pub record_missing : all_below P (has_record S t) ≡ false → 3 ≡ records_answer layout P S t
  unfolding records_answer
  record_missing a = rw a

  pub answer_by_links : all_below P (has_record S t) ≡ true → links_answer layout P S t ≡ records_answer layout P S t
  unfolding records_answer
  answer_by_links a = rw a

-- what recovery gives and leaves of such a table
abbrev pub recovered_outcome : Layout → (P S : ℕ) → (ℕ → Slot) → (state : List ℕ) → Outcome (List ℕ)
recovered_outcome layout P S t state = settled (records_answer layout P S t) 0 (links_in layout P S t) state (state_words P (recovered_in layout P S t))

-- ---- an accepted table

-- each page has a record with its committed version
accepted_there : (layout : Layout) (P S : ℕ) (t : ℕ → Slot) → records_answer layout P S t ≡ 0 → (all_below P (has_record S t) ≡ true) × (all_below P (λ p. has_version S t p (committed_in layout P S t p)) ≡ true)
unfolding records_answer links_answer
accepted_there layout P S t z =
    let a = held (all_below P (has_record S t)) _ _ z in
    let b = passed (some_below P (λ p. is_astray (walk_in layout P S t p).end)) _ _ a.1 in
    (a.0, (held (all_below P (λ p. has_version S t p (committed_in layout P S t p))) _ _ b.1).0)

-- of four words, a page that has a record has its committed version exactly where the rules say so
four_present : (P S : ℕ) (t : ℕ → Slot) → table_sound P S t ≡ true → (p : ℕ) → has_record S t p ≡ true → has_version S t p (committed_in FourWords P S t p) ≡ has_committed P S t p
four_present P S t sound p h =
    let w = (highest_exists t p S).0 h in
    ap (has_version S t p) (committed_four P S t p w.0 w.1) ∙ four_there P S t p sound

-- a page as the rules' recovery leaves it, where the table is accepted
recovered_page : (layout : Layout) (P S : ℕ) (t : ℕ → Slot) → table_sound P S t ≡ true → records_answer layout P S t ≡ 0 → (p : ℕ) → p < P → at_rest (committed_in layout P S t p) (used_of S t p) ≡ recovered_in layout P S t p
unfolding recovered simple_recovered
recovered_page FiveWords P S t sound z p h = ap (λ (n : ℕ). at_rest n (used_of S t p)) (committed_five P S t p)
recovered_page FourWords P S t sound z p h =
    let a = accepted_there FourWords P S t z in
    let has = all_at (has_record S t) P p a.0 h in
    let w = (highest_exists t p S).0 has in
    let there = sym (four_present P S t sound p has) ∙ all_at (λ q. has_version S t q (committed_in FourWords P S t q)) P p a.1 h in
    ap (λ (n : ℕ). at_rest n (used_of S t p)) (committed_four P S t p w.0 w.1 ∙ four_version P S t p there)

-- the state that recovery fills, by the tables of committed and used versions
pub recovered_by_tables :
    (layout : Layout) (P S : ℕ) (t : ℕ → Slot) (committed used : List ℕ)
    → P ≤ 256
    → table_sound P S t ≡ true
    → records_answer layout P S t ≡ 0
    → committed ≡ tabulate 256 (committed_in layout P S t)
    → used ≡ tabulate 256 (used_of S t)
    → state_words P (λ p. at_rest (get_or committed p 0) (get_or used p 0)) ≡ state_words P (recovered_in layout P S t)
recovered_by_tables layout P S t committed used m sound z e f =
    state_words_cong P (λ p. at_rest (get_or committed p 0) (get_or used p 0)) (recovered_in layout P S t)
    (λ p h. ap₂ at_rest
    (ap (λ (l : List ℕ). get_or l p 0) e ∙ tabulate_at 256 (committed_in layout P S t) p (omega arith))
    (ap (λ (l : List ℕ). get_or l p 0) f ∙ tabulate_at 256 (used_of S t) p (omega arith))
    ∙ recovered_page layout P S t sound z p h)

-- ---- the whole chain

-- the conditions in front of the answer by the records: 1, 2, and 3 by two records
unfoldable pub recover_chain : (fits sound conflict : Bool) (own : ℕ) → ℕ
recover_chain fits sound conflict own =
    not fits ⇒ 1 otherwise
    not sound ⇒ 2 otherwise
    conflict ⇒ 3 otherwise
    own

-- what recovery gives and leaves of a table whose sizes are right as `fits` says, and of which two records conflict as `conflict` says
abbrev pub outcome_by : Layout → (fits conflict : Bool) (P S : ℕ) (t : ℕ → Slot) (state : List ℕ) → Outcome (List ℕ)
outcome_by layout fits conflict P S t state =
    settled (recover_chain fits (table_sound P S t) conflict (records_answer layout P S t)) 0 (links_in layout P S t) state (state_words P (recovered_in layout P S t))

module _ (layout : Layout) (fits conflict : Bool) (P S : ℕ) (t : ℕ → Slot) (state : List ℕ) where
  pub sizes_wrong : fits ≡ false → outcome_of 1 0 state ≡ outcome_by layout fits conflict P S t state
  unfolding recover_chain settled
  sizes_wrong a = rw a

  pub slot_unsound_lem : fits ≡ true → table_sound P S t ≡ false → outcome_of 2 0 state ≡ outcome_by layout fits conflict P S t state
  unfolding recover_chain settled
  slot_unsound_lem a b = rw (a, b)

  pub records_conflict : fits ≡ true → table_sound P S t ≡ true → conflict ≡ true → outcome_of 3 0 state ≡ outcome_by layout fits conflict P S t state
  unfolding recover_chain settled
  records_conflict a b c = rw (a, b, c)

  pub outcome_by_records : fits ≡ true → table_sound P S t ≡ true → conflict ≡ false → recovered_outcome layout P S t state ≡ outcome_by layout fits conflict P S t state
  unfolding recover_chain
  outcome_by_records a b c = rw (a, b, c)

-- 3 is met by two records or by a page that has none
chain_split :
    (fits sound conflict present : Bool) {a b : ℕ}
    → (sound ≡ true → present ≡ true → a ≡ b)
    → (not fits ⇒ 1 otherwise not sound ⇒ 2 otherwise (conflict || not present) ⇒ 3 otherwise a) ≡ recover_chain fits sound conflict (not present ⇒ 3 otherwise b)
unfolding recover_chain
chain_split fits true true present f = refl
chain_split fits true false true f = ap (λ (n : ℕ). not fits ⇒ 1 otherwise n) (f refl refl)
chain_split fits true false false f = refl
chain_split fits false conflict present f = refl

-- the answer by the links is the rules': of five words, and of four
five_links : (P S : ℕ) (t : ℕ → Slot) → (some_below P (λ p. is_astray (walk_of P S t p).end) ⇒ 4 otherwise not (all_below P (λ p. has_version S t p (committed_of P S t p))) ⇒ 14 otherwise 0) ≡ links_answer FiveWords P S t
unfolding links_answer walk_in walk_of
five_links P S t = rw (all_cong P (λ p h. ap (has_version S t p) (committed_five P S t p)))

four_links :
    (P S : ℕ) (t : ℕ → Slot) → table_sound P S t ≡ true → all_below P (has_record S t) ≡ true
    → (some_below P (λ p. is_astray (simple_walk_of P S t p).end) ⇒ 4 otherwise not (all_below P (has_committed P S t)) ⇒ 14 otherwise 0) ≡ links_answer FourWords P S t
unfolding links_answer walk_in simple_walk_of
four_links P S t sound present = rw (all_cong P (λ p h. four_present P S t sound p (all_at (has_record S t) P p present h)))

-- what recover gives and leaves is of this form,
pub recover_outcome_lem :
    (widths : Widths) (sizes : Sizes) (v : Volume)
    → recover_outcome widths sizes v
    ≡ outcome_by FiveWords (volume_fits widths sizes v) (some_conflict sizes.slots (slot_at v.flash.words) (twins sizes.width v.flash))
    sizes.pages sizes.slots (slot_at v.flash.words) v.state
unfolding recover_outcome recover_answer records_answer links_in links_of
recover_outcome_lem widths sizes v =
    let P = sizes.pages in
    let S = sizes.slots in
    let t : ℕ → Slot = slot_at v.flash.words in
    ap (λ (n : ℕ). settled n 0 (links_of P S t) v.state (state_words P (recovered P S t)))
    (chain_split (volume_fits widths sizes v) (table_sound P S t) (some_conflict S t (twins sizes.width v.flash)) (all_below P (has_record S t)) (λ sound present. five_links P S t))

-- and so is what it gives and leaves without a back pointer
pub simple_outcome :
    (widths : Widths) (sizes : Sizes) (words state : List ℕ)
    → simple_recover_outcome widths sizes words state
    ≡ outcome_by FourWords (sizes_ok widths sizes && (words_fit_in FourWords sizes.slots words && state_fits sizes.pages state)) (some_clash sizes.slots (slot_in FourWords words))
    sizes.pages sizes.slots (slot_in FourWords words) state
unfolding simple_recover_outcome simple_recover_answer records_answer links_in simple_links_of
simple_outcome widths sizes words state =
    let P = sizes.pages in
    let S = sizes.slots in
    let t : ℕ → Slot = slot_in FourWords words in
    ap (λ (n : ℕ). settled n 0 (simple_links_of P S t) state (state_words P (simple_recovered P S t)))
    (chain_split (sizes_ok widths sizes && (words_fit_in FourWords S words && state_fits P state)) (table_sound P S t) (some_clash S t) (all_below P (has_record S t)) (four_links P S t))

-- ---- the sizes are right

pub record RecoverFits (layout : Layout) (P S : ℕ) (words state : List ℕ) : Type 0 where
  pub slots_in_lem : stride_of layout * S ≤ length words
  pub pages_most : P ≤ 256
  pub slots_most : S ≤ 1024
  pub state_sized : length state ≡ 4 * P

pub recover_fits : (widths : Widths) (sizes : Sizes) (v : Volume) → volume_fits widths sizes v ≡ true → RecoverFits FiveWords sizes.pages sizes.slots v.flash.words v.state
recover_fits widths sizes v e =
    let f = fits_facts widths sizes v e in
    let w = f.flash_sized.words_sized in
    record { slots_in_lem = omega arith; pages_most = f.bounds.pages_most; slots_most = f.bounds.slots_most; state_sized = f.state_sized }

pub simple_fits : (widths : Widths) (sizes : Sizes) (words state : List ℕ) → (sizes_ok widths sizes && (words_fit_in FourWords sizes.slots words && state_fits sizes.pages state)) ≡ true → RecoverFits FourWords sizes.pages sizes.slots words state
simple_fits widths sizes words state e =
    let words_test : Bool = words_fit_in FourWords sizes.slots words in
    let state_test : Bool = state_fits sizes.pages state in
    let f = both_right (sizes_ok widths sizes) (words_test && state_test) e in
    let s = (sizes_facts widths sizes (both_left (sizes_ok widths sizes) (words_test && state_test) e)).0 in
    let w = (words_fit_in_lem FourWords sizes.slots words).0 (both_left words_test state_test f) in
    record { slots_in_lem = omega arith; pages_most = s.pages_most; slots_most = s.slots_most; state_sized = (state_fits_exactly sizes.pages state).0 (both_right words_test state_test f) }
