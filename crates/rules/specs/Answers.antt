-- What the answers mean, stated, by what the tests mean (Meanings): of erase, suggest, read and recover, and of the second family's write, which answer is given where the conditions that all calls share are not met, and what is named or found.
use Rattle.std.specs.Prelude.{ℕ, ◌*◌, ◌<◌, ◌≡◌, List, [], ◌∷◌, ◌⊎◌, ◌↔◌, Bool, true, false, length, get_or}
use Rattle.bounded.specs.Limits.{no_number, Widths}
use Rattle.outcome.specs.Outcome.{settled}
use Rattle.sizes.specs.declared.Layout.{Layout}
use Rattle.sizes.specs.declared.Layout.TheVariants.{FiveWords, FourWords}
use Rattle.sizes.specs.declared.Sizes.{Sizes}
use Rattle.sizes.specs.Sizes.{list_ok, listed}
use Rattle.sizes.specs.SizesLaws.{SizesFacts}
use Rattle.record.specs.declared.Record.{Record}
use Rattle.record.specs.Slot.{Slot}
use Rattle.std.specs.Prelude.{None, Some}
use Rattle.record.specs.Slot.{bytes_at, is_blank}
use Rattle.record.specs.Flash.{Flash, flash}
use Rattle.state.specs.State.{state_words, state_sound, in_flight, is_written}
use Rattle.table.specs.Table.{table_sound, highest, version_in, highest_version_of, used_of}
use Rattle.twins.specs.Twins.{twins}
use Rattle.follow.specs.declared.End.TheVariants as ends
use Rattle.follow.specs.Steps.{Walked}
use Rattle.follow.specs.Astray.{RunsIntoRing}
use Rattle.rules.specs.Volume.{Volume, volume, volume_fits_in, slots_of, slots_in, pages_of}
use Rattle.rules.specs.Permission.{scene_of, no_twins}
use Rattle.rules.specs.Erase.{erase_outcome}
use Rattle.rules.specs.Suggest.{suggest_outcome}
use Rattle.rules.specs.Verdict.{verdict}
use Rattle.rules.specs.Recover.{committed_of, recover_outcome}
use Rattle.rules.specs.Read.{read_outcome_in}
use Rattle.rules.specs.Simple.{simple_verdict, second, committed_slot_of}
use Rattle.rules.specs.SimpleCalls.{simple_write_outcome, simple_erase_outcome, simple_recover_outcome}
use Rattle.rules.specs.laws.Permission.{ErasableAt, TwinOutside}
use Rattle.rules.specs.Meanings.{SimplyErasable, SomeBuried}

-- "After any number but 0 every lent slice is unaltered", and the second number is the refusal's; with 0 both are the call's own: every outcome is `settled` over what it may alter
abbrev pub Settles : Type 0 → Type 0
Settles B =
    (answer refused_second second : ℕ) (before after : B)
    → (answer ≡ 0 → settled answer refused_second second before after ≡ record { answer = 0; second = second; left = after })
    × (¬ (answer ≡ 0) → settled answer refused_second second before after ≡ record { answer = answer; second = refused_second; left = before })

abbrev pub SettledMeans : Type 0
SettledMeans = Settles (List ℕ) × Settles Flash × Settles Volume × Settles (Unit {0})

-- conditions 1, 2 and 5 are not met: the volume's sizes and lengths are right, its table and its state are sound
pub record Judged (layout : Layout) (widths : Widths) (sizes : Sizes) (v : Volume) : Type 0 where
  pub fits : volume_fits_in layout widths sizes v ≡ true
  pub table : table_sound sizes.pages sizes.slots (slots_in layout v) ≡ true
  pub state : state_sound sizes.pages (pages_of v) ≡ true

-- ---- erase and suggest

-- slot k of a list: it has a "twin … outside the erase list", or the rule allows to erase it
abbrev pub MayGo : Sizes → Volume → (in_list : ℕ → Bool) → ℕ → Type 0
MayGo sizes v in_list k = TwinOutside (scene_of sizes v) in_list k ⊎ ErasableAt sizes.slots (slots_of v) (pages_of v) k

-- Erase answers 0 or 12 exactly where 1, 2, 5 and 6 are not met; with 0 every listed slot may go, with 12 one may not.
pub record EraseMeans : Type 0 where
  pub either :
      (widths : Widths) (sizes : Sizes) (v : Volume) (slots : List ℕ)
      → Judged FiveWords widths sizes v
      → list_ok sizes.slots slots ≡ true
      → ((erase_outcome widths sizes v slots).answer ≡ 0) ⊎ ((erase_outcome widths sizes v slots).answer ≡ 12)
  pub judged :
      (widths : Widths) (sizes : Sizes) (v : Volume) (slots : List ℕ)
      → ((erase_outcome widths sizes v slots).answer ≡ 0) ⊎ ((erase_outcome widths sizes v slots).answer ≡ 12)
      → Judged FiveWords widths sizes v × (list_ok sizes.slots slots ≡ true)
  pub permitted :
      (widths : Widths) (sizes : Sizes) (v : Volume) (slots : List ℕ) → (erase_outcome widths sizes v slots).answer ≡ 0 → (i : ℕ) → i < length slots → MayGo sizes v (listed slots) (get_or slots i 0)
  pub barred :
      (widths : Widths) (sizes : Sizes) (v : Volume) (slots : List ℕ) → (erase_outcome widths sizes v slots).answer ≡ 12 → (i : ℕ) × (i < length slots) × ¬ (MayGo sizes v (listed slots) (get_or slots i 0))

-- Suggest answers 0 or 13 exactly where 1, 2 and 5 are not met; with 0 it names the lowest slot that may go, "a list of one", with 13 none may.
pub record SuggestMeans : Type 0 where
  pub either :
      (widths : Widths) (sizes : Sizes) (v : Volume) → Judged FiveWords widths sizes v → ((suggest_outcome widths sizes v).answer ≡ 0) ⊎ ((suggest_outcome widths sizes v).answer ≡ 13)
  pub judged :
      (widths : Widths) (sizes : Sizes) (v : Volume) → ((suggest_outcome widths sizes v).answer ≡ 0) ⊎ ((suggest_outcome widths sizes v).answer ≡ 13) → Judged FiveWords widths sizes v
  pub lowest :
      (widths : Widths) (sizes : Sizes) (v : Volume)
      → (suggest_outcome widths sizes v).answer ≡ 0
      → let slot = (suggest_outcome widths sizes v).second in
      (slot < sizes.slots) × MayGo sizes v (listed (slot ∷ [])) slot × ((k : ℕ) → k < slot → ¬ (MayGo sizes v (listed (k ∷ [])) k))
  pub none : (widths : Widths) (sizes : Sizes) (v : Volume) → (suggest_outcome widths sizes v).answer ≡ 13 → (k : ℕ) → k < sizes.slots → ¬ (MayGo sizes v (listed (k ∷ [])) k)

-- ---- read

-- Read answers 0 or 14 exactly where 1, 2, 5 and 6 are not met; with 0 its bytes are those of "the lowest slot holding the page at its committed version", with 14 no slot holds it.
pub record ReadMeans (layout : Layout) : Type 0 where
  pub either :
      (widths : Widths) (sizes : Sizes) (v : Volume) (page : ℕ) (out : List ℕ)
      → Judged layout widths sizes v
      → length out ≡ sizes.width
      → page < sizes.pages
      → ((read_outcome_in layout widths sizes v page out).answer ≡ 0) ⊎ ((read_outcome_in layout widths sizes v page out).answer ≡ 14)
  pub judged :
      (widths : Widths) (sizes : Sizes) (v : Volume) (page : ℕ) (out : List ℕ)
      → ((read_outcome_in layout widths sizes v page out).answer ≡ 0) ⊎ ((read_outcome_in layout widths sizes v page out).answer ≡ 14)
      → Judged layout widths sizes v × (length out ≡ sizes.width) × (page < sizes.pages)
  pub lowest :
      (widths : Widths) (sizes : Sizes) (v : Volume) (page : ℕ) (out : List ℕ)
      → (read_outcome_in layout widths sizes v page out).answer ≡ 0
      → (k : ℕ) × (r : Record) × (k < sizes.slots) × (slots_in layout v k ≡ Some r) × (r.p ≡ page) × (r.v ≡ (pages_of v page).committed)
      × ((j : ℕ) (q : Record) → j < k → slots_in layout v j ≡ Some q → q.p ≡ page → ¬ (q.v ≡ (pages_of v page).committed))
      × ((read_outcome_in layout widths sizes v page out).left ≡ bytes_at sizes.width v.flash.contents k)
  pub none :
      (widths : Widths) (sizes : Sizes) (v : Volume) (page : ℕ) (out : List ℕ)
      → (read_outcome_in layout widths sizes v page out).answer ≡ 14
      → (k : ℕ) (q : Record)
      → k < sizes.slots
      → slots_in layout v k ≡ Some q
      → q.p ≡ page
      → ¬ (q.v ≡ (pages_of v page).committed)

-- ---- recover

-- a page with no record
abbrev pub PageMissing : Sizes → (ℕ → Slot) → Type 0
PageMissing sizes t = (p : ℕ) × (p < sizes.pages) × ((k : ℕ) (r : Record) → k < sizes.slots → t k ≡ Some r → ¬ (r.p ≡ p))

-- two records with equal page and version that are no twins
abbrev pub TwoAlike : Sizes → (ℕ → Slot) → (twin : ℕ → ℕ → Bool) → Type 0
TwoAlike sizes t twin = (j : ℕ) × (k : ℕ) × (a : Record) × (b : Record) × (j < k) × (k < sizes.slots) × (t j ≡ Some a) × (t k ≡ Some b) × (a.p ≡ b.p) × (a.v ≡ b.v) × (twin j k ≡ false)

-- page p has a record at version n
abbrev pub HasVersion : Sizes → (ℕ → Slot) → (p n : ℕ) → Type 0
HasVersion sizes t p n = (k : ℕ) × (r : Record) × (k < sizes.slots) × (t k ≡ Some r) × (r.p ≡ p) × (r.v ≡ n)

abbrev pub OneOfSix : ℕ → Type 0
OneOfSix n = (n ≡ 0) ⊎ ((n ≡ 1) ⊎ ((n ≡ 2) ⊎ ((n ≡ 3) ⊎ ((n ≡ 4) ⊎ (n ≡ 14)))))

-- Recover answers 0, 1, 2, 3, 4 or 14. 1: "P, S or a lent slice's length is wrong". 2: "a slot neither blank nor sound". 3: "two records with equal page and version", no twins, "or a page with no record". 4: "the links run into a ring that
-- lacks the start". 14: "no record with the committed version". Each means that those before it are not met, and 0 that none is.
pub record RecoverMeans : Type 0 where
  pub some_answer : (widths : Widths) (sizes : Sizes) (v : Volume) → OneOfSix (recover_outcome widths sizes v).answer
  pub lengths : (widths : Widths) (sizes : Sizes) (v : Volume) → ((recover_outcome widths sizes v).answer ≡ 1) ↔ (volume_fits_in FiveWords widths sizes v ≡ false)
  pub unsound : (widths : Widths) (sizes : Sizes) (v : Volume) → (recover_outcome widths sizes v).answer ≡ 2 → table_sound sizes.pages sizes.slots (slots_of v) ≡ false
  pub sound :
      (widths : Widths) (sizes : Sizes) (v : Volume)
      → ¬ ((recover_outcome widths sizes v).answer ≡ 1)
      → ¬ ((recover_outcome widths sizes v).answer ≡ 2)
      → table_sound sizes.pages sizes.slots (slots_of v) ≡ true
  pub alike :
      (widths : Widths) (sizes : Sizes) (v : Volume)
      → (recover_outcome widths sizes v).answer ≡ 3
      → TwoAlike sizes (slots_of v) (twins sizes.width v.flash) ⊎ PageMissing sizes (slots_of v)
  pub astray :
      (widths : Widths) (sizes : Sizes) (v : Volume)
      → (recover_outcome widths sizes v).answer ≡ 4
      → ¬ (TwoAlike sizes (slots_of v) (twins sizes.width v.flash))
      × ¬ (PageMissing sizes (slots_of v))
      × ((p : ℕ) × (p < sizes.pages) × RunsIntoRing (verdict sizes.slots (slots_of v)) p)
  pub no_record :
      (widths : Widths) (sizes : Sizes) (v : Volume)
      → (recover_outcome widths sizes v).answer ≡ 14
      → ¬ (TwoAlike sizes (slots_of v) (twins sizes.width v.flash))
      × ¬ (PageMissing sizes (slots_of v))
      × ((p : ℕ) → p < sizes.pages → ¬ (RunsIntoRing (verdict sizes.slots (slots_of v)) p))
      × ((p : ℕ) × (p < sizes.pages) × ¬ (HasVersion sizes (slots_of v) p (committed_of sizes.pages sizes.slots (slots_of v) p)))
  pub done :
      (widths : Widths) (sizes : Sizes) (v : Volume)
      → (recover_outcome widths sizes v).answer ≡ 0
      → ¬ (TwoAlike sizes (slots_of v) (twins sizes.width v.flash))
      × ¬ (PageMissing sizes (slots_of v))
      × ((p : ℕ) → p < sizes.pages → ¬ (RunsIntoRing (verdict sizes.slots (slots_of v)) p))
      × ((p : ℕ) → p < sizes.pages → HasVersion sizes (slots_of v) p (committed_of sizes.pages sizes.slots (slots_of v) p))
  -- "Recover fills the sheet", with each page's committed version and used, "No page is in flight, and written is 0 for all."
  pub fills :
      (widths : Widths) (sizes : Sizes) (v : Volume)
      → (recover_outcome widths sizes v).answer ≡ 0
      → (recover_outcome widths sizes v).left
      ≡ state_words sizes.pages (λ p. record { committed = committed_of sizes.pages sizes.slots (slots_of v) p; used = used_of sizes.slots (slots_of v) p; next = no_number; written = 0 })
  -- "Committed = hv(p), or else the c of p's highest record", by where the walk from p ends
  pub committed : (P S : ℕ) (t : ℕ → Slot) → table_sound P S t ≡ true → (p n : ℕ) → p < P → Walked (verdict S t) p ends.Committed n → committed_of P S t p ≡ highest_version_of S t p
  pub uncommitted :
      (P S : ℕ) (t : ℕ → Slot) → table_sound P S t ≡ true → (p n : ℕ) (J : Record) → p < P → Walked (verdict S t) p ends.Uncommitted n → highest S t p ≡ Some J → committed_of P S t p ≡ J.c

-- "Recovery and suggest now read the contents too": of these they see only which slots are twins.
pub record TwinsAlone : Type 0 where
  pub recover :
      (widths : Widths) (sizes : Sizes) (words a b state : List ℕ)
      → length a ≡ length b
      → twins sizes.width (flash words a) ≡ twins sizes.width (flash words b)
      → recover_outcome widths sizes (volume words a state) ≡ recover_outcome widths sizes (volume words b state)
  pub suggest :
      (widths : Widths) (sizes : Sizes) (words a b state : List ℕ)
      → length a ≡ length b
      → twins sizes.width (flash words a) ≡ twins sizes.width (flash words b)
      → suggest_outcome widths sizes (volume words a state) ≡ suggest_outcome widths sizes (volume words b state)

-- ---- records without a back pointer

-- P, S, the width and the lengths of what its recover is lent are right
abbrev pub SimplyFits : Widths → Sizes → Volume → Type 0
SimplyFits widths sizes v = SizesFacts sizes.pages sizes.slots × (widths sizes.width ≡ true) × (length v.flash.words ≡ 4 * sizes.slots) × (length v.state ≡ 4 * sizes.pages)

-- Its recover, as the first family's: "two records of equal page and version always give 3"; "an uncommitted highest gives the second highest version. … With no second version recovery gives 14."
pub record SimpleRecoverMeans : Type 0 where
  pub some_answer : (widths : Widths) (sizes : Sizes) (v : Volume) → OneOfSix (simple_recover_outcome widths sizes v.flash.words v.state).answer
  pub lengths : (widths : Widths) (sizes : Sizes) (v : Volume) → ((simple_recover_outcome widths sizes v.flash.words v.state).answer ≡ 1) ↔ ¬ (SimplyFits widths sizes v)
  pub unsound :
      (widths : Widths) (sizes : Sizes) (v : Volume) → (simple_recover_outcome widths sizes v.flash.words v.state).answer ≡ 2 → table_sound sizes.pages sizes.slots (slots_in FourWords v) ≡ false
  pub sound :
      (widths : Widths) (sizes : Sizes) (v : Volume)
      → ¬ ((simple_recover_outcome widths sizes v.flash.words v.state).answer ≡ 1)
      → ¬ ((simple_recover_outcome widths sizes v.flash.words v.state).answer ≡ 2)
      → table_sound sizes.pages sizes.slots (slots_in FourWords v) ≡ true
  pub alike :
      (widths : Widths) (sizes : Sizes) (v : Volume)
      → (simple_recover_outcome widths sizes v.flash.words v.state).answer ≡ 3
      → TwoAlike sizes (slots_in FourWords v) no_twins ⊎ PageMissing sizes (slots_in FourWords v)
  pub astray :
      (widths : Widths) (sizes : Sizes) (v : Volume)
      → (simple_recover_outcome widths sizes v.flash.words v.state).answer ≡ 4
      → ¬ (TwoAlike sizes (slots_in FourWords v) no_twins)
      × ¬ (PageMissing sizes (slots_in FourWords v))
      × ((p : ℕ) × (p < sizes.pages) × RunsIntoRing (simple_verdict sizes.slots (slots_in FourWords v)) p)
  pub no_record :
      (widths : Widths) (sizes : Sizes) (v : Volume)
      → (simple_recover_outcome widths sizes v.flash.words v.state).answer ≡ 14
      → ¬ (TwoAlike sizes (slots_in FourWords v) no_twins)
      × ¬ (PageMissing sizes (slots_in FourWords v))
      × ((p : ℕ) → p < sizes.pages → ¬ (RunsIntoRing (simple_verdict sizes.slots (slots_in FourWords v)) p))
      × ((p : ℕ) × (p < sizes.pages) × (committed_slot_of sizes.pages sizes.slots (slots_in FourWords v) p ≡ None))
  pub done :
      (widths : Widths) (sizes : Sizes) (v : Volume)
      → (simple_recover_outcome widths sizes v.flash.words v.state).answer ≡ 0
      → ¬ (TwoAlike sizes (slots_in FourWords v) no_twins)
      × ¬ (PageMissing sizes (slots_in FourWords v))
      × ((p : ℕ) → p < sizes.pages → ¬ (RunsIntoRing (simple_verdict sizes.slots (slots_in FourWords v)) p))
      × ((p : ℕ) → p < sizes.pages → (r : Record) × (committed_slot_of sizes.pages sizes.slots (slots_in FourWords v) p ≡ Some r))
  pub fills :
      (widths : Widths) (sizes : Sizes) (v : Volume)
      → (simple_recover_outcome widths sizes v.flash.words v.state).answer ≡ 0
      → (simple_recover_outcome widths sizes v.flash.words v.state).left
      ≡ state_words sizes.pages
      (λ p. record { committed = version_in (committed_slot_of sizes.pages sizes.slots (slots_in FourWords v) p); used = used_of sizes.slots (slots_in FourWords v) p; next = no_number; written = 0 })
  pub committed : (P S : ℕ) (t : ℕ → Slot) → table_sound P S t ≡ true → (p n : ℕ) → p < P → Walked (simple_verdict S t) p ends.Committed n → committed_slot_of P S t p ≡ highest S t p
  pub uncommitted : (P S : ℕ) (t : ℕ → Slot) → table_sound P S t ≡ true → (p n : ℕ) → p < P → Walked (simple_verdict S t) p ends.Uncommitted n → committed_slot_of P S t p ≡ second S t p

-- Its erase, as the first family's.
pub record SimpleEraseMeans : Type 0 where
  pub either :
      (widths : Widths) (sizes : Sizes) (v : Volume) (slots : List ℕ)
      → Judged FourWords widths sizes v
      → list_ok sizes.slots slots ≡ true
      → ((simple_erase_outcome widths sizes v slots).answer ≡ 0) ⊎ ((simple_erase_outcome widths sizes v slots).answer ≡ 12)
  pub judged :
      (widths : Widths) (sizes : Sizes) (v : Volume) (slots : List ℕ)
      → ((simple_erase_outcome widths sizes v slots).answer ≡ 0) ⊎ ((simple_erase_outcome widths sizes v slots).answer ≡ 12)
      → Judged FourWords widths sizes v × (list_ok sizes.slots slots ≡ true)
  pub permitted :
      (widths : Widths) (sizes : Sizes) (v : Volume) (slots : List ℕ) → (simple_erase_outcome widths sizes v slots).answer ≡ 0 → (i : ℕ) → i < length slots → SimplyErasable (slots_in FourWords v) (pages_of v) (get_or slots i 0)
  pub barred :
      (widths : Widths) (sizes : Sizes) (v : Volume) (slots : List ℕ) → (simple_erase_outcome widths sizes v slots).answer ≡ 12 → (i : ℕ) × (i < length slots) × ¬ (SimplyErasable (slots_in FourWords v) (pages_of v) (get_or slots i 0))

-- no condition of its write before 16 is met
pub record WriteJudged (widths : Widths) (sizes : Sizes) (v : Volume) (page slot : ℕ) (bytes : List ℕ) : Type 0 where
  pub volume : Judged FourWords widths sizes v
  pub whole : length bytes ≡ sizes.width
  pub page_below : page < sizes.pages
  pub slot_below : slot < sizes.slots
  pub flying : in_flight (pages_of v page) ≡ true
  pub unwritten : is_written (pages_of v page) ≡ false
  pub free : is_blank (slots_in FourWords v slot) ≡ true

-- Its write answers 0 or 16 exactly where no condition before 16 is met; with 16 it would bury a record, with 0 it buries none.
pub record BuryMeans : Type 0 where
  pub either :
      (widths : Widths) (sizes : Sizes) (v : Volume) (page slot : ℕ) (bytes : List ℕ)
      → WriteJudged widths sizes v page slot bytes
      → ((simple_write_outcome widths sizes v page slot bytes).answer ≡ 0) ⊎ ((simple_write_outcome widths sizes v page slot bytes).answer ≡ 16)
  pub judged :
      (widths : Widths) (sizes : Sizes) (v : Volume) (page slot : ℕ) (bytes : List ℕ)
      → ((simple_write_outcome widths sizes v page slot bytes).answer ≡ 0) ⊎ ((simple_write_outcome widths sizes v page slot bytes).answer ≡ 16)
      → WriteJudged widths sizes v page slot bytes
  pub buries :
      (widths : Widths) (sizes : Sizes) (v : Volume) (page slot : ℕ) (bytes : List ℕ) → (simple_write_outcome widths sizes v page slot bytes).answer ≡ 16 → SomeBuried sizes.slots (slots_in FourWords v) (pages_of v) page
  pub buries_none :
      (widths : Widths) (sizes : Sizes) (v : Volume) (page slot : ℕ) (bytes : List ℕ) → (simple_write_outcome widths sizes v page slot bytes).answer ≡ 0 → ¬ (SomeBuried sizes.slots (slots_in FourWords v) (pages_of v) page)
