-- Document 02, wish 5: the calls of records without a back pointer on small volumes, each through its whole outcome. (Crate cases has a ring of three, and all rows as one table.)
use Rattle.std.specs.Prelude.{ℕ, ◌*◌, List, [], ◌∷◌, ◌++◌, replicate, get_or}
use Rattle.bounded.specs.Limits.{no_number, two_widths}
use Rattle.bounded.specs.Parts.{join_parts, part}
use Rattle.outcome.specs.Outcome.{Outcome}
use Rattle.outcome.specs.Row.{Row, row}
use Rattle.sizes.specs.Sizes.{sizes_of}
use Rattle.sizes.specs.declared.Layout.TheVariants.{FourWords}
use Rattle.record.specs.declared.Record.{Record}
use Rattle.record.specs.Slot.{encoded, blank_record}
use Rattle.table.specs.Given.{given, formatted_records, table_of}
use Rattle.rules.specs.Volume.{Volume, volume}
use Rattle.rules.specs.Format.{format_outcome_in, formatted_in}
use Rattle.rules.specs.Read.{read_outcome_in}
use Rattle.rules.specs.Launch.{launch_outcome}
use Rattle.rules.specs.Withdraw.{withdraw_outcome}
use Rattle.rules.specs.Erase.{erase_outcome}
use Rattle.rules.specs.Recover.{recover_outcome}
use Rattle.rules.specs.SimpleCalls.{simple_write_outcome, simple_erase_outcome, simple_recover_outcome}

-- ---- volumes of four-word records

-- the record (p, v, np, nv)
unfoldable pub four : (p v np nv : ℕ) → Record
unfolding given
four p v np nv = given p v 0 np nv

-- the slot words of S slots that hold these records from slot 0 on; the other slots are blank
unfoldable pub four_table : ℕ → List Record → List ℕ
four_table S records = join_parts S (λ k. encoded FourWords (get_or records k blank_record))

-- S slots that hold these records, with zero bytes, and a state
unfoldable pub four_volume : ℕ → List Record → List ℕ → Volume
four_volume S records state = record { flash = record { words = four_table S records; contents = replicate (32 * S) 0 }; state = state }

-- the words of a page at rest
unfoldable pub rest : (committed used : ℕ) → List ℕ
rest committed used = committed ∷ used ∷ no_number ∷ 0 ∷ []

-- the answer, the second number and the words that a call leaves
unfoldable pub whole_of : Outcome (List ℕ) → List ℕ
whole_of o = o.answer ∷ o.second ∷ o.left

-- Recover on S slots that hold these records; the old state has 7 in every word. The answer, the links and the state.
unfoldable pub recover_four : (P S : ℕ) → List Record → List ℕ
recover_four P S records = whole_of (simple_recover_outcome two_widths (sizes_of P S 32) (four_table S records) (replicate (4 * P) 7))

-- document 01's recover of the same records, with their back pointers
unfoldable pub recover_five : (P S : ℕ) → List Record → List ℕ
recover_five P S records = whole_of (recover_outcome two_widths (sizes_of P S 32) (volume (table_of S records) (replicate (32 * S) 0) (replicate (4 * P) 7)))

-- ---- format

-- a volume of 2 pages and 3 slots that holds anything, formatted
unfoldable pub formatted23 : Outcome Volume
formatted23 = format_outcome_in FourWords two_widths (sizes_of 2 3 32) (record { flash = record { words = replicate 12 7; contents = replicate 96 9 }; state = replicate 8 5 })

unfoldable pub simple_format_rows : List Row
simple_format_rows =
    -- slot i below P has (i, 0, i, 0), the rest is blank
    row 5 (formatted23.answer ∷ formatted23.second ∷ formatted23.left.flash.words) (0 ∷ 0 ∷ 0 ∷ 0 ∷ 0 ∷ 0 ∷ 1 ∷ 0 ∷ 1 ∷ 0 ∷ replicate 4 no_number)
    -- its bytes are 0 and 255, and its pages are at rest at version 0
    ∷ row 5 (formatted23.left.flash.contents ++ formatted23.left.state) (replicate 64 0 ++ (replicate 32 255 ++ (rest 0 0 ++ rest 0 0)))
    -- it recovers to that state, by one link a page
    ∷ row 5 (whole_of (simple_recover_outcome two_widths (sizes_of 2 3 32) formatted23.left.flash.words (replicate 8 7))) (0 ∷ 2 ∷ rest 0 0 ++ rest 0 0)
    ∷ []

-- ---- recover

-- page 0 links to page 1 at 1, and page 1's highest record, at 2, says by its back pointer 0 that version 1 was never committed
unfoldable pub straddled : List Record
unfolding given
straddled = given 0 0 0 0 0 ∷ given 0 1 0 1 1 ∷ given 1 2 0 1 2 ∷ []

-- document 01's case 9 without back pointers
unfoldable pub astray : List Record
unfolding four
astray = four 0 1 1 1 ∷ four 1 1 2 1 ∷ four 2 1 1 1 ∷ []

unfoldable pub simple_recover_rows : List Row
simple_recover_rows =
    -- document 01's case 1: one formatted page
    row 5 (recover_four 1 1 (formatted_records 1)) (0 ∷ 1 ∷ rest 0 0)
    -- case 2: page 1 has no version 1 yet, so page 0's highest is uncommitted, and both pages used 1
    ∷ row 5 (recover_four 2 3 (formatted_records 2 ++ four 0 1 1 1 ∷ [])) (0 ∷ 2 ∷ rest 0 1 ++ rest 0 1)
    -- case 3: the ring of two is whole, by two links a page
    ∷ row 5 (recover_four 2 4 (formatted_records 2 ++ four 0 1 1 1 ∷ four 1 1 0 1 ∷ [])) (0 ∷ 4 ∷ rest 1 1 ++ rest 1 1)
    -- an uncommitted highest, at 4, gives the second highest version, 2: neither the lowest nor the one in the last slot
    ∷ row 5 (recover_four 2 5 (four 0 0 0 0 ∷ four 0 2 0 2 ∷ four 0 4 1 1 ∷ four 0 1 0 1 ∷ four 1 0 1 0 ∷ [])) (0 ∷ 2 ∷ rest 2 4 ++ rest 0 1)
    -- a link below the next page's highest means committed; in the first family the same records, page 1's a straddler, say uncommitted
    ∷ row 5 (recover_four 2 3 straddled) (0 ∷ 2 ∷ rest 1 1 ++ rest 2 2)
    ∷ row 5 (recover_five 2 3 straddled) (0 ∷ 2 ∷ rest 0 1 ++ rest 2 2)
    -- document 01's case 10: page 0's highest is uncommitted and there is no second version, so 14, and the state is as it was
    ∷ row 5 (recover_four 2 2 (four 0 2 1 5 ∷ four 1 0 1 0 ∷ [])) (14 ∷ 0 ∷ replicate 8 7)
    -- two records of equal page and version give 3, equal ones too, and also below the highest
    ∷ row 5 (recover_four 1 2 (four 0 1 0 1 ∷ four 0 1 0 1 ∷ [])) (3 ∷ 0 ∷ replicate 4 7)
    ∷ row 5 (recover_four 2 4 (four 0 1 1 1 ∷ four 0 1 0 1 ∷ four 0 2 0 2 ∷ four 1 0 1 0 ∷ [])) (3 ∷ 0 ∷ replicate 8 7)
    -- document 01's case 9: page 0's links run into the ring of pages 1 and 2, so 4
    ∷ row 5 (recover_four 3 3 astray) (4 ∷ 0 ∷ replicate 12 7)
    -- 4 is tried before 14: the same beside page 3, whose highest is uncommitted without a second version
    ∷ row 5 (recover_four 4 4 (astray ++ four 3 2 0 5 ∷ [])) (4 ∷ 0 ∷ replicate 16 7)
    ∷ []

-- ---- a ring of two

-- a ring of pages 0 and 1 of which page 0 alone was written: (0,1,1,1) is exposed while both pages are committed at 0
unfoldable pub half_ring : List Record
unfolding four
half_ring = formatted_records 2 ++ four 0 1 1 1 ∷ []

-- the state with that ring in flight at version 1; whether page 0 is written
unfoldable pub still_in_flight : ℕ → List ℕ
still_in_flight written = 0 ∷ 1 ∷ 1 ∷ written ∷ 0 ∷ 1 ∷ 0 ∷ 0 ∷ []

-- a formatted volume of 2 pages and 4 slots: pages 0 and 1 are launched, page 0 is written into slot 2, then page 1 into slot 3
unfoldable pub launched_two : Outcome (List ℕ)
launched_two = launch_outcome two_widths (sizes_of 2 4 32) (formatted_in FourWords (sizes_of 2 4 32)).state (0 ∷ 1 ∷ [])

unfoldable pub first_of_two : Outcome Volume
first_of_two = simple_write_outcome two_widths (sizes_of 2 4 32) (record { flash = (formatted_in FourWords (sizes_of 2 4 32)).flash; state = launched_two.left }) 0 2 (replicate 32 3)

unfoldable pub second_of_two : Outcome Volume
second_of_two = simple_write_outcome two_widths (sizes_of 2 4 32) first_of_two.left 1 3 (replicate 32 5)

-- the answer and done of a write, the words of slot k and the state
unfoldable pub written_into : ℕ → Outcome Volume → List ℕ
written_into k o = o.answer ∷ o.second ∷ part 4 k o.left.flash.words ++ o.left.state

-- Of the launch, the two writes and what they leave.
unfoldable pub ring_of_two_rows : (launched : Outcome (List ℕ)) (first last : Outcome Volume) → List Row
ring_of_two_rows launched first last =
    -- launch: both pages are in flight at version 1
    row 5 (whole_of launched) (0 ∷ 0 ∷ still_in_flight 0)
    -- the first record, (0,1,1,1); page 0 is written
    ∷ row 5 (written_into 2 first) (0 ∷ 0 ∷ 0 ∷ 1 ∷ 1 ∷ 1 ∷ still_in_flight 1)
    -- the last, (1,1,0,1): the ring's own earlier record links to page 1 at 1, not below, and does not count; the ring is done, committed 1 and 1
    ∷ row 5 (written_into 3 last) (0 ∷ 1 ∷ 1 ∷ 1 ∷ 0 ∷ 1 ∷ rest 1 1 ++ rest 1 1)
    -- recover says the same
    ∷ row 5 (whole_of (simple_recover_outcome two_widths (sizes_of 2 4 32) last.left.flash.words (replicate 8 7))) (0 ∷ 4 ∷ rest 1 1 ++ rest 1 1)
    -- read copies page 1's new bytes
    ∷ row 5 (whole_of (read_outcome_in FourWords two_widths (sizes_of 2 4 32) last.left 1 (replicate 32 9))) (0 ∷ 0 ∷ replicate 32 5)
    ∷ []

unfoldable pub volume_two : (bytes2 bytes3 : ℕ) → List Record → List ℕ → Volume
volume_two bytes2 bytes3 records state =
    record { flash = record { words = four_table 4 records; contents = replicate 64 0 ++ (replicate 32 bytes2 ++ replicate 32 bytes3) }; state = state }

-- ---- writes that would bury, and erasing

-- the answer and done of a write into a slot of that table, in a state, and the words that it leaves
unfoldable pub write_half : (state : List ℕ) (page slot : ℕ) → List ℕ
write_half state page slot = let o = simple_write_outcome two_widths (sizes_of 2 4 32) (four_volume 4 half_ring state) page slot (replicate 32 3) in o.answer ∷ o.second ∷ o.left.flash.words

-- the answer of an erase of a slot of that table, in a state
unfoldable pub erase_half : (state : List ℕ) (slot : ℕ) → List ℕ
erase_half state slot = (simple_erase_outcome two_widths (sizes_of 2 4 32) (four_volume 4 half_ring state) (slot ∷ [])).answer ∷ []

-- the ring withdrawn; then page 0, or page 1, launched alone
unfoldable pub then_none : List ℕ
then_none = (withdraw_outcome two_widths (sizes_of 2 4 32) (still_in_flight 1) 0).left

unfoldable pub then_page : ℕ → List ℕ
then_page p = (launch_outcome two_widths (sizes_of 2 4 32) then_none (p ∷ [])).left

-- the same ring in 5 slots beside page 2, withdrawn, and then one page launched alone: the answer and done of its write into slot 4, and the record that is there then
unfoldable pub write_beside : (page : ℕ) → List ℕ
write_beside page =
    let state = (launch_outcome two_widths (sizes_of 3 5 32) (then_none ++ rest 0 0) (page ∷ [])).left in
    let o = simple_write_outcome two_widths (sizes_of 3 5 32) (four_volume 5 (formatted_records 3 ++ four 0 1 1 1 ∷ []) state) page 4 (replicate 32 3) in
    o.answer ∷ o.second ∷ part 4 4 o.left.flash.words

unfoldable pub bury_rows : List Row
bury_rows =
    -- the states: withdrawn, and page 0 launched at version 2
    row 5 (then_none ++ then_page 0) (rest 0 1 ++ (rest 0 1 ++ (0 ∷ 2 ∷ 0 ∷ 0 ∷ rest 0 1)))
    -- by page: page 0 at 2 would bury the exposed (0,1,1,1), a record of its own at a lower version; nothing changes
    ∷ row 5 (write_half (then_page 0) 0 3) (16 ∷ 0 ∷ four_table 4 half_ring)
    -- by link: page 1 at 2 would bury it, as its link is to page 1 at a lower version
    ∷ row 5 (write_half (then_page 1) 1 3) (16 ∷ 0 ∷ four_table 4 half_ring)
    -- a write of page 2 buries nothing, though that record is exposed; beside page 2 as well a write of page 1 would bury it
    ∷ row 5 (write_beside 2 ++ write_beside 1) (0 ∷ 1 ∷ 2 ∷ 1 ∷ 2 ∷ 1 ∷ 16 ∷ 0 ∷ replicate 4 no_number)
    -- a slot that is not blank is told first: 11
    ∷ row 5 (write_half (then_page 0) 0 2) (11 ∷ 0 ∷ four_table 4 half_ring)
    -- an exposed record at used in flight may not be erased; it may once the ring is withdrawn, and in flight at a later version
    ∷ row 5 (erase_half (still_in_flight 1) 2 ++ (erase_half then_none 2 ++ erase_half (then_page 0) 2)) (12 ∷ 0 ∷ 0 ∷ [])
    -- a record at the committed version may not be erased, nor may a blank slot
    ∷ row 5 (erase_half then_none 0 ++ erase_half then_none 3) (12 ∷ 12 ∷ [])
    ∷ []

-- page 1 went on from 0 to 2 and to 3, so that (1,2,0,1,2) is obsolete and, by its back pointer, straddles the link of the exposed (0,1,0,1,1)
unfoldable pub straddler_needed : List Record
unfolding given
straddler_needed = given 0 0 0 0 0 ∷ given 0 1 0 1 1 ∷ given 1 2 0 1 2 ∷ given 1 3 2 1 3 ∷ []

unfoldable pub simple_erase_rows : List Row
simple_erase_rows =
    -- without back pointers an obsolete record is needed by nothing: slot 2 is erased, and its words are blank
    row 5
    (let o = simple_erase_outcome two_widths (sizes_of 2 4 32) (four_volume 4 straddler_needed (rest 0 1 ++ rest 3 3)) (2 ∷ []) in o.answer ∷ o.second ∷ part 4 2 o.left.words)
    (0 ∷ 0 ∷ replicate 4 no_number)
    -- the first family keeps it, as a needed straddler
    ∷ row 5
    ((erase_outcome two_widths (sizes_of 2 4 32) (record { flash = record { words = table_of 4 straddler_needed; contents = replicate 128 0 }; state = rest 0 1 ++ rest 3 3 }) (2 ∷ [])).answer ∷ [])
    (12 ∷ [])
    ∷ []
