-- The refusal chains in two parts: the conditions that several calls share, and each call's own behind them.
use Rattle.std.specs.Prelude.{ℕ, ◌*◌, ◌≤◌, ◌≡◌, List, Bool, true, ◌&&◌, ltb, length}
use Rattle.std.proofs.Math.Bool.{not}
use Rattle.bounded.specs.Limits.{Widths}
use Rattle.bounded.specs.Below.{some_below}
use Rattle.outcome.specs.Outcome.{◌⇒◌otherwise◌}
use Rattle.outcome.specs.Chain.{first_of}
use Rattle.sizes.specs.declared.Layout.{Layout}
use Rattle.sizes.specs.declared.Layout.TheVariants.{FiveWords}
use Rattle.sizes.specs.declared.Sizes.{Sizes}
use Rattle.sizes.specs.Sizes.{sizes_ok, stride_of, state_fits, list_ok}
use Rattle.sizes.specs.Blocks.{starts_ok, NamedBlock, block_ok}
use Rattle.sizes.specs.SizesLaws.{SizesFacts}
use Rattle.record.specs.Slot.{slot_in, slot_at, is_blank}
use Rattle.state.specs.declared.PageState.{PageState}
use Rattle.state.specs.State.{state_at, in_flight, is_written, state_sound}
use Rattle.table.specs.Table.{table_sound, has_version}
use Rattle.twins.specs.Twins.{twins}
use Rattle.rules.specs.Volume.{Volume, volume_fits}
use Rattle.rules.specs.Launch.{some_page, used_up}
use Rattle.rules.specs.Suggest.{suggestible}
use Rattle.rules.specs.Permission.{scene}
use Rattle.rules.specs.laws.Families.{would_bury_in, may_erase_all_in}

-- ---- the shared parts

-- 1, 2 and 5 of the calls on a whole volume: the lengths, the slots, the state
unfoldable pub judged_in : Layout → (fits : Bool) (P S : ℕ) (words state : List ℕ) → ℕ
judged_in layout fits P S words state =
    not fits ⇒ 1 otherwise
    not (table_sound P S (slot_in layout words)) ⇒ 2 otherwise
    not (state_sound P (state_at state)) ⇒ 5 otherwise
    0

abbrev pub judged : (fits : Bool) (P S : ℕ) (words state : List ℕ) → ℕ
judged fits P S words state = judged_in FiveWords fits P S words state

-- 1 and 5 of the calls on the state alone
unfoldable pub state_judged : Widths → Sizes → (state : List ℕ) → ℕ
state_judged widths sizes state =
    not (sizes_ok widths sizes && state_fits sizes.pages state) ⇒ 1 otherwise
    not (state_sound sizes.pages (state_at state)) ⇒ 5 otherwise
    0

-- 1, 17, 2, 5 and 6 of the calls on a block of a volume
unfoldable pub block_judged : Widths → Sizes → Volume → NamedBlock → ℕ
block_judged widths sizes v block =
    not (volume_fits widths sizes v) ⇒ 1 otherwise
    not (starts_ok sizes.slots block.starts) ⇒ 17 otherwise
    not (table_sound sizes.pages sizes.slots (slot_at v.flash.words)) ⇒ 2 otherwise
    not (state_sound sizes.pages (state_at v.state)) ⇒ 5 otherwise
    not (block_ok block) ⇒ 6 otherwise
    0

-- what a volume has that is judged and passes
pub record Judged (layout : Layout) (fits : Bool) (P S : ℕ) (words state : List ℕ) : Type 0 where
  pub fitting : fits ≡ true
  pub table : table_sound P S (slot_in layout words) ≡ true
  pub sound : state_sound P (state_at state) ≡ true

-- … and a block of one
pub record BlockJudged (widths : Widths) (sizes : Sizes) (v : Volume) (block : NamedBlock) : Type 0 where
  pub fitting : volume_fits widths sizes v ≡ true
  pub starts_sound : starts_ok sizes.slots block.starts ≡ true
  pub table : table_sound sizes.pages sizes.slots (slot_at v.flash.words) ≡ true
  pub sound : state_sound sizes.pages (state_at v.state) ≡ true
  pub named : block_ok block ≡ true

pub record StateJudged (sizes : Sizes) (state : List ℕ) : Type 0 where
  pub bounds : SizesFacts sizes.pages sizes.slots
  pub fitting : state_fits sizes.pages state ≡ true
  pub sound : state_sound sizes.pages (state_at state) ≡ true

-- ---- sizes within their limits, and lengths that span all slots and pages

pub record SpansIn (layout : Layout) (P S : ℕ) (words state : List ℕ) : Type 0 where
  pub bounds : SizesFacts P S
  pub slots_in_lem : stride_of layout * S ≤ length words
  pub pages_in_lem : 4 * P ≤ length state

-- ---- each call's own conditions, and its whole chain

-- launch: 6, then 7 and 8
unfoldable pub list_answer : (state pages : List ℕ) → ℕ
list_answer state pages =
    some_page pages (state_at state) in_flight ⇒ 7 otherwise
    some_page pages (state_at state) used_up ⇒ 8 otherwise
    0

unfoldable pub launch_own : ℕ → (state pages : List ℕ) → ℕ
launch_own P state pages = not (list_ok P pages) ⇒ 6 otherwise list_answer state pages

-- withdraw: 6 and 9
unfoldable pub withdraw_own : ℕ → List ℕ → ℕ → ℕ
withdraw_own P state page =
    not (ltb page P) ⇒ 6 otherwise
    not (in_flight (state_at state page)) ⇒ 9 otherwise
    0

-- write: 6, then 9, 10 and 11 by the page's state and whether the slot is blank, then 16
unfoldable pub page_answer : PageState → Bool → ℕ
page_answer page blank =
    not (in_flight page) ⇒ 9 otherwise
    is_written page ⇒ 10 otherwise
    not blank ⇒ 11 otherwise
    0

unfoldable pub write_own : Layout → (P S : ℕ) (words state : List ℕ) (page slot : ℕ) → ℕ
write_own layout P S words state page slot =
    not (ltb page P && ltb slot S) ⇒ 6 otherwise
    first_of (page_answer (state_at state page) (is_blank (slot_in layout words slot))) (would_bury_in layout S (slot_in layout words) (state_at state) page ⇒ 16 otherwise 0)

-- erase: 6 and 12
unfoldable pub erase_own : Layout → Sizes → Volume → (slots : List ℕ) → ℕ
erase_own layout sizes v slots =
    not (list_ok sizes.slots slots) ⇒ 6 otherwise
    not (may_erase_all_in layout (scene sizes.slots (slot_in layout v.flash.words) (state_at v.state) (twins sizes.width v.flash)) slots) ⇒ 12 otherwise
    0

-- suggest: 13
unfoldable pub suggest_own : Sizes → Volume → ℕ
suggest_own sizes v = not (some_below sizes.slots (suggestible sizes v)) ⇒ 13 otherwise 0

-- read: 6 and 14
unfoldable pub read_own : Layout → (P S : ℕ) (words state : List ℕ) (page : ℕ) → ℕ
read_own layout P S words state page =
    not (ltb page P) ⇒ 6 otherwise
    not (has_version S (slot_in layout words) page (state_at state page).committed) ⇒ 14 otherwise
    0
