-- What the tests mean, stated: each is exactly its sentence in document 01 or 02. (Answers says what the answers mean.)
use Rattle.std.specs.Prelude.{ℕ, ◌+◌, ◌*◌, ◌≤◌, ◌<◌, ◌≡◌, List, ◌⊎◌, ◌↔◌, Bool, true, length, get_or}
use Rattle.bounded.specs.Limits.{no_number, Widths}
use Rattle.bounded.specs.Parts.{part}
use Rattle.sizes.specs.declared.Layout.{Layout}
use Rattle.sizes.specs.declared.Sizes.{Sizes}
use Rattle.sizes.specs.declared.Layout.TheVariants.{FiveWords, FourWords}
use Rattle.sizes.specs.Sizes.{stride_of, list_ok, listed}
use Rattle.sizes.specs.Lists.{Listed}
use Rattle.record.specs.declared.Record.{Record}
use Rattle.record.specs.Slot.{Slot}
use Rattle.std.specs.Prelude.{None, Some}
use Rattle.record.specs.Slot.{decoded, slot_in, bytes_at, record_sound, is_blank}
use Rattle.record.specs.SlotLaws.{SoundRecord, Straddles}
use Rattle.record.specs.Flash.{Flash}
use Rattle.state.specs.declared.PageState.{PageState}
use Rattle.state.specs.State.{state_at, in_flight, is_written, state_sound}
use Rattle.state.specs.StateLaws.{StateFacts}
use Rattle.table.specs.Table.{table_sound, highest, highest_version_of, used_of}
use Rattle.twins.specs.Twins.{twins}
use Rattle.twins.specs.TwinsLaws.{Twins}
use Rattle.follow.specs.declared.Verdict.TheVariants as says
use Rattle.rules.specs.Volume.{Volume, volume_fits_in}
use Rattle.rules.specs.Permission.{scene, is_needed, may_erase}
use Rattle.rules.specs.Verdict.{verdict}
use Rattle.rules.specs.Simple.{simple_verdict, second, simple_may_erase, would_bury}
use Rattle.rules.specs.laws.Volume.{FitsIn}
use Rattle.rules.specs.laws.Permission.{Obsolete, ExposedSpare, Needed, ErasableAt}
use Rattle.rules.specs.laws.Simple.{BelowHighest, BuriedBy}

-- ---- slots, lengths, lists

-- word i of slot k, for w words a slot
abbrev pub word_at : (w : ℕ) → List ℕ → (k i : ℕ) → ℕ
word_at w words k i = get_or words (w * k + i) no_number

-- "A blank slot has 4,294,967,295 in all five words. Any other slot is a record", in either layout; a word past the table's counts as 4,294,967,295. "The five words are" p, v, c, np and nv, of slot k "words 5k to 5k+4 and bytes" wk to
-- wk + w − 1; of page p's state the words 4p to 4p + 3.
pub record SlotMeans : Type 0 where
  pub blank : (layout : Layout) (words : List ℕ) (k : ℕ) → (slot_in layout words k ≡ None) ↔ ((i : ℕ) → i < stride_of layout → get_or words (stride_of layout * k + i) no_number ≡ no_number)
  pub other : (layout : Layout) (words : List ℕ) (k : ℕ) → (slot_in layout words k ≡ None) ⊎ (slot_in layout words k ≡ Some (decoded layout (part (stride_of layout) k words)))
  pub is_blank_lem : (s : Slot) → (is_blank s ≡ true) ↔ (s ≡ None)
  pub five : (words : List ℕ) (k : ℕ) → decoded FiveWords (part 5 k words) ≡ record { p = word_at 5 words k 0; v = word_at 5 words k 1; c = word_at 5 words k 2; np = word_at 5 words k 3; nv = word_at 5 words k 4 }
  pub four : (words : List ℕ) (k : ℕ) → decoded FourWords (part 4 k words) ≡ record { p = word_at 4 words k 0; v = word_at 4 words k 1; c = 0; np = word_at 4 words k 2; nv = word_at 4 words k 3 }
  pub bytes : (w : ℕ) (contents : List ℕ) (k i : ℕ) → i < w → get_or (bytes_at w contents k) i 0 ≡ get_or contents (w * k + i) 0
  pub page : (state : List ℕ) (p : ℕ) → state_at state p ≡ record { committed = get_or state (4 * p + 0) 0; used = get_or state (4 * p + 1) 0; next = get_or state (4 * p + 2) 0; written = get_or state (4 * p + 3) 0 }

-- no "P, S or a lent slice's length is wrong", of a volume; no "empty list, repeated entry, or a page or slot out of range"; and a number is listed where it is an entry
pub record ArgumentsMean : Type 0 where
  pub is_listed : (list : List ℕ) (n : ℕ) → (listed list n ≡ true) ↔ ((i : ℕ) × (i < length list) × (get_or list i 0 ≡ n))
  pub volume : (layout : Layout) (widths : Widths) (sizes : Sizes) (v : Volume) → (volume_fits_in layout widths sizes v ≡ true) ↔ FitsIn layout widths sizes v
  pub list : (n : ℕ) (list : List ℕ) → (list_ok n list ≡ true) ↔ Listed n list

-- ---- what is sound

-- A record "is sound if p and np are below P, …"; so is a table where each slot is blank or holds such a record; "(4,294,967,295: not in flight)"; and the state "is sound if committed is at most used, …"
pub record SoundMeans : Type 0 where
  pub one_record : (P : ℕ) (r : Record) → (record_sound P r ≡ true) ↔ SoundRecord P r
  pub table : (P S : ℕ) (t : ℕ → Slot) → (table_sound P S t ≡ true) ↔ ((k : ℕ) → k < S → (t k ≡ None) ⊎ ((r : Record) × (t k ≡ Some r) × SoundRecord P r))
  pub flight : (s : PageState) → (in_flight s ≡ true) ↔ ¬ (s.next ≡ no_number)
  pub written : (s : PageState) → (is_written s ≡ true) ↔ (s.written ≡ 1)
  pub state : (P : ℕ) (st : ℕ → PageState) → (state_sound P st ≡ true) ↔ StateFacts P st

-- ---- the table

-- "hv(p) is the highest version of p in the table": of its highest record, which is one of the page, and none of the page is higher.
-- "Used = the highest of all v with that p and all nv with that np": none is higher, and it is 0 or one of them.
pub record TableMeans : Type 0 where
  pub held : (S : ℕ) (t : ℕ → Slot) (p : ℕ) (r : Record) → highest S t p ≡ Some r → (k : ℕ) × (k < S) × (t k ≡ Some r) × (r.p ≡ p) × (highest_version_of S t p ≡ r.v)
  pub none_higher : (S : ℕ) (t : ℕ → Slot) (p : ℕ) (r : Record) → highest S t p ≡ Some r → (k : ℕ) (q : Record) → k < S → t k ≡ Some q → q.p ≡ p → q.v ≤ r.v
  pub none_there : (S : ℕ) (t : ℕ → Slot) (p : ℕ) → highest S t p ≡ None → (k : ℕ) (q : Record) → k < S → t k ≡ Some q → ¬ (q.p ≡ p)
  pub used_above_version : (S : ℕ) (t : ℕ → Slot) (k : ℕ) (r : Record) → k < S → t k ≡ Some r → r.v ≤ used_of S t r.p
  pub used_above_next : (S : ℕ) (t : ℕ → Slot) (k : ℕ) (r : Record) → k < S → t k ≡ Some r → r.nv ≤ used_of S t r.np
  pub used_reached :
      (S : ℕ) (t : ℕ → Slot) (p : ℕ)
      → (used_of S t p ≡ 0) ⊎ ((k : ℕ) × (r : Record) × (k < S) × (t k ≡ Some r) × (((r.p ≡ p) × (r.v ≡ used_of S t p)) ⊎ ((r.np ≡ p) × (r.nv ≡ used_of S t p))))

-- "twins, equal in all words and bytes": both slots hold one record, and their bytes, of which each has its w, are the same
abbrev pub TwinsMean : Type 0
TwinsMean = (w : ℕ) (f : Flash) (j k : ℕ) → length (bytes_at w f.contents j) ≡ w → length (bytes_at w f.contents k) ≡ w → (twins w f j k ≡ true) ↔ Twins w f j k

-- ---- recovery's three cases, of the link of page p's highest record J

-- some record of the table straddles the link
abbrev pub Straddled : ℕ → (ℕ → Slot) → Record → Type 0
Straddled S t J = (k : ℕ) × (K : Record) × (k < S) × (t k ≡ Some K) × Straddles K J

module _ (S : ℕ) (t : ℕ → Slot) (p : ℕ) (J : Record) where
  -- "1. J.nv < hv(J.np): the start is uncommitted if any record straddles J's link, else committed. 2. J.nv > hv(J.np): uncommitted. 3. Equal: go on at np's highest record."
  pub record Cases : Type 0 where
    pub straddled : J.nv < highest_version_of S t J.np → Straddled S t J → verdict S t p ≡ says.Uncommitted
    pub unstraddled : J.nv < highest_version_of S t J.np → ¬ (Straddled S t J) → verdict S t p ≡ says.Committed
    pub ahead : highest_version_of S t J.np < J.nv → verdict S t p ≡ says.Uncommitted
    pub equal : J.nv ≡ highest_version_of S t J.np → verdict S t p ≡ says.On J.np

  -- document 02, wish 5: "Case 1 of recovery means committed"
  pub record SimpleCases : Type 0 where
    pub passed : J.nv < highest_version_of S t J.np → simple_verdict S t p ≡ says.Committed
    pub ahead : highest_version_of S t J.np < J.nv → simple_verdict S t p ≡ says.Uncommitted
    pub equal : J.nv ≡ highest_version_of S t J.np → simple_verdict S t p ≡ says.On J.np

pub record VerdictMeans : Type 0 where
  pub cases : (S : ℕ) (t : ℕ → Slot) (p : ℕ) (J : Record) → highest S t p ≡ Some J → Cases S t p J
  pub simple_cases : (S : ℕ) (t : ℕ → Slot) (p : ℕ) (J : Record) → highest S t p ≡ Some J → SimpleCases S t p J

-- ---- what may be erased

-- "An obsolete K is needed if …", and "A slot may be erased if it holds …": whatever slots are twins
pub record PermissionMeans : Type 0 where
  pub needed : (S : ℕ) (t : ℕ → Slot) (st : ℕ → PageState) (twin : ℕ → ℕ → Bool) (K : Record) → (is_needed (scene S t st twin) K ≡ true) ↔ Needed S t st K
  pub may_erase_lem : (S : ℕ) (t : ℕ → Slot) (st : ℕ → PageState) (twin : ℕ → ℕ → Bool) (k : ℕ) → (may_erase (scene S t st twin) k ≡ true) ↔ ErasableAt S t st k

-- ---- records without a back pointer

-- "the second highest version": a record of its page below the highest, none such is higher, and there is one exactly where there is such a record
pub record SecondMeans : Type 0 where
  pub is_below : (S : ℕ) (t : ℕ → Slot) (p : ℕ) (r : Record) → second S t p ≡ Some r → BelowHighest S t p r
  pub none_higher : (S : ℕ) (t : ℕ → Slot) (p : ℕ) (r s : Record) → second S t p ≡ Some r → BelowHighest S t p s → s.v ≤ r.v
  pub exists : (S : ℕ) (t : ℕ → Slot) (p : ℕ) → ((r : Record) × (second S t p ≡ Some r)) ↔ ((r : Record) × BelowHighest S t p r)

-- "any obsolete record may be erased", and an exposed one as in document 01
abbrev pub SimplyErasable : (ℕ → Slot) → (ℕ → PageState) → ℕ → Type 0
SimplyErasable t st k = (r : Record) × (t k ≡ Some r) × (Obsolete st r ⊎ ExposedSpare st r)

-- "an exposed record with J.p = p and J.v < v, or J.np = p and J.nv < v", the write being of page p at its used version v
abbrev pub SomeBuried : ℕ → (ℕ → Slot) → (ℕ → PageState) → ℕ → Type 0
SomeBuried S t st p = (k : ℕ) × (J : Record) × (k < S) × (t k ≡ Some J) × BuriedBy st p (st p).used J

pub record SimplyMeans : Type 0 where
  pub may_erase_lem : (t : ℕ → Slot) (st : ℕ → PageState) (k : ℕ) → (simple_may_erase t st k ≡ true) ↔ SimplyErasable t st k
  pub would_bury_lem : (S : ℕ) (t : ℕ → Slot) (st : ℕ → PageState) (p : ℕ) → (would_bury S t st p ≡ true) ↔ SomeBuried S t st p
