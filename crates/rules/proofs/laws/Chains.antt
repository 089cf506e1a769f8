-- The refusal chains in two parts: the conditions that several calls share, and each call's own behind them.
use Rattle.std.specs.Prelude.{ℕ, ◌≡◌, List, Bool, true, ◌&&◌, ltb, eqb, length}
use Rattle.std.proofs.Common.{arith, sym, ◌∙◌, eqb-true}
use Rattle.std.proofs.Math.Path.{ap}
use Rattle.std.proofs.Math.Bool.{not}
use Rattle.bounded.specs.Limits.{Widths}
use Rattle.bounded.specs.Choice.{both_left, both_right}
use Rattle.outcome.specs.Outcome.{◌⇒◌otherwise◌}
use Rattle.outcome.specs.OutcomeLaws.{held}
use Rattle.outcome.specs.Chain.{first_of, first_refuses, first_passes, split_front, split_two, split_three}
use Rattle.sizes.specs.declared.Layout.{Layout}
use Rattle.sizes.specs.declared.Layout.TheVariants.{FiveWords, FourWords}
use Rattle.sizes.specs.declared.Sizes.{Sizes}
use Rattle.sizes.specs.Sizes.{sizes_ok, state_fits}
use Rattle.sizes.specs.Blocks.{starts_ok, NamedBlock, block_ok}
use Rattle.sizes.proofs.SizesLaws.{sizes_facts}
use Rattle.record.specs.Slot.{slot_in, slot_at, is_blank}
use Rattle.state.specs.State.{state_at, in_flight, is_written, state_sound}
use Rattle.table.specs.Table.{table_sound}
use Rattle.rules.specs.Volume.{Volume, volume_fits_in, volume_fits}
use Rattle.rules.specs.laws.Volume.{FitsIn}
use Rattle.rules.proofs.laws.Volume.{fits_in_facts}
use Rattle.rules.specs.Launch.{launch_answer}
use Rattle.rules.specs.Write.{write_answer}
use Rattle.rules.specs.Withdraw.{withdraw_answer}
use Rattle.rules.specs.Erase.{erase_answer}
use Rattle.rules.specs.Suggest.{suggest_answer}
use Rattle.rules.specs.Read.{read_answer_in}
use Rattle.rules.specs.SimpleCalls.{simple_write_answer, simple_erase_answer}
use Rattle.rules.specs.laws.Families.{would_bury_in, write_answer_in, erase_answer_in}
use Rattle.rules.specs.laws.Chains.{judged_in, judged, state_judged, block_judged, Judged, BlockJudged, StateJudged, SpansIn, list_answer, launch_own, withdraw_own, page_answer, write_own, erase_own, suggest_own, read_own}

-- ---- the shared parts

pub judged_passed : (layout : Layout) (fits : Bool) (P S : ℕ) (words state : List ℕ) → judged_in layout fits P S words state ≡ 0 → Judged layout fits P S words state
unfolding judged_in
judged_passed layout fits P S words state e =
    let a = held fits _ _ e in
    let b = held (table_sound P S (slot_in layout words)) _ _ a.1 in
    let c = held (state_sound P (state_at state)) _ _ b.1 in
    record { fitting = a.0; table = b.0; sound = c.0 }

module _ (widths : Widths) (sizes : Sizes) (v : Volume) (block : NamedBlock) where
  pub block_judged_passed : block_judged widths sizes v block ≡ 0 → BlockJudged widths sizes v block
  unfolding block_judged
  block_judged_passed e =
      let a = held (volume_fits widths sizes v) _ _ e in
      let s = held (starts_ok sizes.slots block.starts) _ _ a.1 in
      let b = held (table_sound sizes.pages sizes.slots (slot_at v.flash.words)) _ _ s.1 in
      let c = held (state_sound sizes.pages (state_at v.state)) _ _ b.1 in
      record { fitting = a.0; starts_sound = s.0; table = b.0; sound = c.0; named = (held (block_ok block) _ _ c.1).0 }

  -- 1 and 17 passed, 2 and 5 are what the calls on a volume share
  module _ (fits : volume_fits widths sizes v ≡ true) (starts : starts_ok sizes.slots block.starts ≡ true) {n : ℕ} (said : n ≡ judged true sizes.pages sizes.slots v.flash.words v.state) where
    behind : block_judged widths sizes v block ≡ first_of (judged true sizes.pages sizes.slots v.flash.words v.state) (not (block_ok block) ⇒ 6 otherwise 0)
    unfolding block_judged judged_in
    behind = rw (block_judged, fits, starts) (split_two (not (table_sound sizes.pages sizes.slots (slot_at v.flash.words))) (not (state_sound sizes.pages (state_at v.state))) 1 4 _)

    pub block_refuses : ¬ (n ≡ 0) → n ≡ block_judged widths sizes v block
    block_refuses h = first_refuses n _ said h ∙ sym behind

    pub block_passes : n ≡ 0 → {m : ℕ} → m ≡ (not (block_ok block) ⇒ 6 otherwise 0) → m ≡ block_judged widths sizes v block
    block_passes z {m} e = first_passes n m said z e ∙ sym behind

-- an answer in two parts, by what the shared one said; the code's test of lengths is `fits`, the definition's `test`
module _ (layout : Layout) (answer own : ℕ) (fits test : Bool) (P S : ℕ) (words state : List ℕ) (chain : answer ≡ first_of (judged_in layout test P S words state) own) (same : fits ≡ test) (n : ℕ) (said : n ≡ judged_in layout fits P S words state) where
  first_is : n ≡ judged_in layout test P S words state
  first_is = said ∙ ap (λ (b : Bool). judged_in layout b P S words state) same

  pub judged_refuses : ¬ (n ≡ 0) → n ≡ answer
  judged_refuses h = first_refuses n own first_is h ∙ sym chain

  pub judged_passes : n ≡ 0 → {m : ℕ} → m ≡ own → m ≡ answer
  judged_passes z {m} e = first_passes n m first_is z e ∙ sym chain

pub state_judged_passed : (widths : Widths) (sizes : Sizes) (state : List ℕ) → state_judged widths sizes state ≡ 0 → StateJudged sizes state
unfolding state_judged
state_judged_passed widths sizes state e =
    let a = held (sizes_ok widths sizes && state_fits sizes.pages state) _ _ e in
    let b = held (state_sound sizes.pages (state_at state)) _ _ a.1 in
    record {
      bounds = (sizes_facts widths sizes (both_left (sizes_ok widths sizes) (state_fits sizes.pages state) a.0)).0;
      fitting = both_right (sizes_ok widths sizes) (state_fits sizes.pages state) a.0;
      sound = b.0;
    }

-- ---- sizes within their limits, and lengths that span all slots and pages

pub volume_spans : (layout : Layout) (widths : Widths) (sizes : Sizes) (v : Volume) → volume_fits_in layout widths sizes v ≡ true → SpansIn layout sizes.pages sizes.slots v.flash.words v.state
volume_spans layout widths sizes v e =
    let f = fits_in_facts layout widths sizes v e in
    let x = f.flash_sized.words_sized in
    let y = f.state_sized in
    record { bounds = f.bounds; slots_in_lem = omega arith; pages_in_lem = omega arith }

-- … with one test more
pub slice_spans : (layout : Layout) (widths : Widths) (sizes : Sizes) (v : Volume) (b : Bool) → (volume_fits_in layout widths sizes v && b) ≡ true → SpansIn layout sizes.pages sizes.slots v.flash.words v.state
slice_spans layout widths sizes v b e = volume_spans layout widths sizes v (both_left (volume_fits_in layout widths sizes v) b e)

-- … and the slice is as long as a slot's bytes
pub slice_whole : (layout : Layout) (widths : Widths) (sizes : Sizes) (v : Volume) (n : ℕ) → (volume_fits_in layout widths sizes v && eqb n sizes.width) ≡ true → FitsIn layout widths sizes v × (n ≡ sizes.width)
slice_whole layout widths sizes v n e =
    (fits_in_facts layout widths sizes v (both_left (volume_fits_in layout widths sizes v) (eqb n sizes.width) e), eqb-true n sizes.width (both_right (volume_fits_in layout widths sizes v) (eqb n sizes.width) e))

-- ---- each call's own conditions, and its whole chain

pub launch_chain : (widths : Widths) (sizes : Sizes) (state pages : List ℕ) → launch_answer widths sizes state pages ≡ first_of (state_judged widths sizes state) (launch_own sizes.pages state pages)
unfolding launch_answer state_judged launch_own list_answer
launch_chain widths sizes state pages = split_two (not (sizes_ok widths sizes && state_fits sizes.pages state)) (not (state_sound sizes.pages (state_at state))) 0 4 _

pub withdraw_chain : (widths : Widths) (sizes : Sizes) (state : List ℕ) (page : ℕ) → withdraw_answer widths sizes state page ≡ first_of (state_judged widths sizes state) (withdraw_own sizes.pages state page)
unfolding withdraw_answer state_judged withdraw_own
withdraw_chain widths sizes state page = split_two (not (sizes_ok widths sizes && state_fits sizes.pages state)) (not (state_sound sizes.pages (state_at state))) 0 4 _

-- the same in one chain
unfoldable write_rest : Layout → (P S : ℕ) (words state : List ℕ) (page slot : ℕ) → ℕ
write_rest layout P S words state page slot =
    not (ltb page P && ltb slot S) ⇒ 6 otherwise
    not (in_flight (state_at state page)) ⇒ 9 otherwise
    is_written (state_at state page) ⇒ 10 otherwise
    not (is_blank (slot_in layout words slot)) ⇒ 11 otherwise
    would_bury_in layout S (slot_in layout words) (state_at state) page ⇒ 16 otherwise
    0

write_rest_lem : (layout : Layout) (P S : ℕ) (words state : List ℕ) (page slot : ℕ) → write_rest layout P S words state page slot ≡ write_own layout P S words state page slot
unfolding write_rest write_own page_answer
write_rest_lem layout P S words state page slot =
    ap (λ (n : ℕ). not (ltb page P && ltb slot S) ⇒ 6 otherwise n)
    (split_three (not (in_flight (state_at state page))) (is_written (state_at state page)) (not (is_blank (slot_in layout words slot))) 8 9 10 _)

pub write_chain :
    (layout : Layout) (widths : Widths) (sizes : Sizes) (v : Volume) (page slot : ℕ) (bytes : List ℕ)
    → write_answer_in layout widths sizes v page slot bytes
    ≡ first_of (judged_in layout (volume_fits_in layout widths sizes v && eqb (length bytes) sizes.width) sizes.pages sizes.slots v.flash.words v.state) (write_own layout sizes.pages sizes.slots v.flash.words v.state page slot)
unfolding write_answer simple_write_answer judged_in write_rest
write_chain layout widths sizes v page slot bytes = by layout ∙ ap (first_of (judged_in layout (volume_fits_in layout widths sizes v && eqb (length bytes) sizes.width) sizes.pages sizes.slots v.flash.words v.state)) (write_rest_lem layout sizes.pages sizes.slots v.flash.words v.state page slot)
  where
    by : (l : Layout) → write_answer_in l widths sizes v page slot bytes ≡ first_of (judged_in l (volume_fits_in l widths sizes v && eqb (length bytes) sizes.width) sizes.pages sizes.slots v.flash.words v.state) (write_rest l sizes.pages sizes.slots v.flash.words v.state page slot)
    by FiveWords =
        split_three (not (volume_fits_in FiveWords widths sizes v && eqb (length bytes) sizes.width)) (not (table_sound sizes.pages sizes.slots (slot_in FiveWords v.flash.words))) (not (state_sound sizes.pages (state_at v.state))) 0 1 4 _
    by FourWords =
        split_three (not (volume_fits_in FourWords widths sizes v && eqb (length bytes) sizes.width)) (not (table_sound sizes.pages sizes.slots (slot_in FourWords v.flash.words))) (not (state_sound sizes.pages (state_at v.state))) 0 1 4 _

pub erase_chain : (layout : Layout) (widths : Widths) (sizes : Sizes) (v : Volume) (slots : List ℕ) → erase_answer_in layout widths sizes v slots ≡ first_of (judged_in layout (volume_fits_in layout widths sizes v) sizes.pages sizes.slots v.flash.words v.state) (erase_own layout sizes v slots)
unfolding erase_answer simple_erase_answer judged_in erase_own
erase_chain layout widths sizes v slots = by layout
  where
    by : (l : Layout) → erase_answer_in l widths sizes v slots ≡ first_of (judged_in l (volume_fits_in l widths sizes v) sizes.pages sizes.slots v.flash.words v.state) (erase_own l sizes v slots)
    by FiveWords = split_three (not (volume_fits_in FiveWords widths sizes v)) (not (table_sound sizes.pages sizes.slots (slot_in FiveWords v.flash.words))) (not (state_sound sizes.pages (state_at v.state))) 0 1 4 _
    by FourWords = split_three (not (volume_fits_in FourWords widths sizes v)) (not (table_sound sizes.pages sizes.slots (slot_in FourWords v.flash.words))) (not (state_sound sizes.pages (state_at v.state))) 0 1 4 _

pub suggest_chain : (widths : Widths) (sizes : Sizes) (v : Volume) → suggest_answer widths sizes v ≡ first_of (judged (volume_fits widths sizes v) sizes.pages sizes.slots v.flash.words v.state) (suggest_own sizes v)
unfolding suggest_answer judged_in suggest_own
suggest_chain widths sizes v =
    split_three (not (volume_fits widths sizes v)) (not (table_sound sizes.pages sizes.slots (slot_at v.flash.words))) (not (state_sound sizes.pages (state_at v.state))) 0 1 4 _

-- the calls on a block: what stands behind 1, 17, 2, 5 and 6
module _ (widths : Widths) (sizes : Sizes) (v : Volume) (block : NamedBlock) where
  pub block_chain :
      (own : ℕ)
      → (not (volume_fits widths sizes v) ⇒ 1 otherwise
      not (starts_ok sizes.slots block.starts) ⇒ 17 otherwise
      not (table_sound sizes.pages sizes.slots (slot_at v.flash.words)) ⇒ 2 otherwise
      not (state_sound sizes.pages (state_at v.state)) ⇒ 5 otherwise
      not (block_ok block) ⇒ 6 otherwise own)
      ≡ first_of (block_judged widths sizes v block) own
  unfolding block_judged
  block_chain own =
      ap (λ (rest : ℕ). not (volume_fits widths sizes v) ⇒ 1 otherwise not (starts_ok sizes.slots block.starts) ⇒ 17 otherwise rest)
      (split_three (not (table_sound sizes.pages sizes.slots (slot_at v.flash.words))) (not (state_sound sizes.pages (state_at v.state))) (not (block_ok block)) 1 4 5 own)
      ∙ ap (λ (rest : ℕ). not (volume_fits widths sizes v) ⇒ 1 otherwise rest) (split_front (not (starts_ok sizes.slots block.starts)) 16 _ own)
      ∙ split_front (not (volume_fits widths sizes v)) 0 _ own

pub read_chain :
    (layout : Layout) (widths : Widths) (sizes : Sizes) (v : Volume) (page : ℕ) (out : List ℕ)
    → read_answer_in layout widths sizes v page out ≡ first_of (judged_in layout (volume_fits_in layout widths sizes v && eqb (length out) sizes.width) sizes.pages sizes.slots v.flash.words v.state) (read_own layout sizes.pages sizes.slots v.flash.words v.state page)
unfolding read_answer_in judged_in read_own
read_chain layout widths sizes v page out =
    split_three (not (volume_fits_in layout widths sizes v && eqb (length out) sizes.width)) (not (table_sound sizes.pages sizes.slots (slot_in layout v.flash.words))) (not (state_sound sizes.pages (state_at v.state))) 0 1 4 _
