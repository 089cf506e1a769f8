-- Document 02, wish 5: a ring of three pages of records without a back pointer, through each call's whole outcome; and all computed rows of that family as one table, with one theorem.
use Rattle.std.specs.Prelude.{ℕ, ◌≡◌, refl, List, [], ◌∷◌, ◌++◌, replicate}
use Rattle.std.proofs.Common.{ap}
use Rattle.bounded.specs.Limits.{two_widths}
use Rattle.outcome.specs.Outcome.{Outcome}
use Rattle.outcome.specs.Row.{Row, row, RowsHold, rows_join}
use Rattle.sizes.specs.Sizes.{sizes_of}
use Rattle.sizes.specs.declared.Layout.TheVariants.{FourWords}
use Rattle.record.specs.declared.Record.{Record}
use Rattle.table.specs.Given.{formatted_records}
use Rattle.rules.specs.Volume.{Volume, volume}
use Rattle.rules.specs.Format.{formatted_in}
use Rattle.rules.specs.Launch.{launch_outcome}
use Rattle.rules.specs.SimpleCalls.{simple_write_outcome, simple_recover_outcome}
use Rattle.rules.specs.cases.Computing.{computing}
use Rattle.rules.specs.cases.Simple.{four, four_table, rest, whole_of, launched_two, first_of_two, second_of_two, written_into, simple_format_rows, simple_recover_rows, ring_of_two_rows, bury_rows, simple_erase_rows}
use Rattle.rules.proofs.cases.Simple.{simple_format_rows_lem, simple_recover_rows_lem, ring_of_two_rows_lem, bury_rows_lem, simple_erase_rows_lem}

-- the state with the ring of three in flight at version 1; whether pages 1 and 2 are written
unfoldable pub three_in_flight : (written1 written2 : ℕ) → List ℕ
three_in_flight written1 written2 = 0 ∷ 1 ∷ 1 ∷ 0 ∷ 0 ∷ 1 ∷ 2 ∷ written1 ∷ 0 ∷ 1 ∷ 0 ∷ written2 ∷ []

-- a formatted volume of 3 pages and 6 slots: pages 0, 1 and 2 are launched and written, the last first, into slots 3 to 5
unfoldable pub launched_three : Outcome (List ℕ)
launched_three = launch_outcome two_widths (sizes_of 3 6 32) (formatted_in FourWords (sizes_of 3 6 32)).state (0 ∷ 1 ∷ 2 ∷ [])

unfoldable pub first_of_three : Outcome Volume
first_of_three = simple_write_outcome two_widths (sizes_of 3 6 32) (record { flash = (formatted_in FourWords (sizes_of 3 6 32)).flash; state = launched_three.left }) 2 3 (replicate 32 3)

unfoldable pub second_of_three : Outcome Volume
second_of_three = simple_write_outcome two_widths (sizes_of 3 6 32) first_of_three.left 1 4 (replicate 32 3)

unfoldable pub third_of_three : Outcome Volume
third_of_three = simple_write_outcome two_widths (sizes_of 3 6 32) second_of_three.left 0 5 (replicate 32 3)

-- Of the launch and the three writes.
unfoldable pub ring_of_three_rows : (launched : Outcome (List ℕ)) (first then last : Outcome Volume) → List Row
ring_of_three_rows launched first then last =
    -- launch: the pages are in flight at version 1
    row 5 (whole_of launched) (0 ∷ 0 ∷ three_in_flight 0 0)
    -- the first two records, (2,1,0,1) and (1,1,2,1)
    ∷ row 5 (written_into 3 first) (0 ∷ 0 ∷ 2 ∷ 1 ∷ 0 ∷ 1 ∷ three_in_flight 0 1)
    ∷ row 5 (written_into 4 then) (0 ∷ 0 ∷ 1 ∷ 1 ∷ 2 ∷ 1 ∷ three_in_flight 1 1)
    -- the last, (0,1,1,1), which the ring's first record links to and does not stop; the ring is done, committed 1, 1 and 1
    ∷ row 5 (written_into 5 last) (0 ∷ 1 ∷ 0 ∷ 1 ∷ 1 ∷ 1 ∷ rest 1 1 ++ (rest 1 1 ++ rest 1 1))
    -- recover says the same, by three links a page
    ∷ row 5 (whole_of (simple_recover_outcome two_widths (sizes_of 3 6 32) last.left.flash.words (replicate 12 7))) (0 ∷ 9 ∷ rest 1 1 ++ (rest 1 1 ++ rest 1 1))
    ∷ []

-- the outcomes, one from the other
launched_three_is : launched_three ≡ record { answer = 0; second = 0; left = three_in_flight 0 0 }
unfolding launched_three three_in_flight computing
launched_three_is = refl

-- 3 pages in 6 slots, of which those from 3 on have these bytes
unfoldable pub volume_three : (bytes4 bytes5 : ℕ) → List Record → List ℕ → Volume
volume_three bytes4 bytes5 records state =
    record {
      flash = record { words = four_table 6 (formatted_records 3 ++ records); contents = replicate 96 0 ++ (replicate 32 3 ++ (replicate 32 bytes4 ++ replicate 32 bytes5)) };
      state = state;
    }

first_of_three_is : first_of_three ≡ record { answer = 0; second = 0; left = volume_three 255 255 (four 2 1 0 1 ∷ []) (three_in_flight 0 1) }
unfolding first_of_three three_in_flight volume_three four four_table computing
first_of_three_is =
    ap
    (λ (o : Outcome (List ℕ)). simple_write_outcome two_widths (sizes_of 3 6 32) (record { flash = (formatted_in FourWords (sizes_of 3 6 32)).flash; state = o.left }) 2 3 (replicate 32 3))
    launched_three_is

second_of_three_is : second_of_three ≡ record { answer = 0; second = 0; left = volume_three 3 255 (four 2 1 0 1 ∷ four 1 1 2 1 ∷ []) (three_in_flight 1 1) }
unfolding second_of_three three_in_flight volume_three four four_table computing
second_of_three_is = ap (λ (o : Outcome Volume). simple_write_outcome two_widths (sizes_of 3 6 32) o.left 1 4 (replicate 32 3)) first_of_three_is

third_of_three_is : third_of_three ≡ record { answer = 0; second = 1; left = volume_three 3 3 (four 2 1 0 1 ∷ four 1 1 2 1 ∷ four 0 1 1 1 ∷ []) (rest 1 1 ++ (rest 1 1 ++ rest 1 1)) }
unfolding third_of_three three_in_flight volume_three four four_table rest computing
third_of_three_is = ap (λ (o : Outcome Volume). simple_write_outcome two_widths (sizes_of 3 6 32) o.left 0 5 (replicate 32 3)) second_of_three_is

ring_of_three_rows_lem : RowsHold (ring_of_three_rows launched_three first_of_three second_of_three third_of_three)
unfolding ring_of_three_rows three_in_flight volume_three four four_table whole_of written_into rest computing
ring_of_three_rows_lem = rw (launched_three_is, first_of_three_is, second_of_three_is, third_of_three_is) refl

-- ---- the table

unfoldable pub simple_rows : List Row
simple_rows =
    simple_format_rows
    ++ (simple_recover_rows
    ++ (ring_of_two_rows launched_two first_of_two second_of_two
    ++ (ring_of_three_rows launched_three first_of_three second_of_three third_of_three
    ++ (bury_rows ++ simple_erase_rows))))

-- The rows hold, computed from the definitions.
pub simple_rows_lem : RowsHold simple_rows
unfolding simple_rows
simple_rows_lem =
    let two = ring_of_two_rows launched_two first_of_two second_of_two in
    let three = ring_of_three_rows launched_three first_of_three second_of_three third_of_three in
    rows_join simple_format_rows (simple_recover_rows ++ (two ++ (three ++ (bury_rows ++ simple_erase_rows)))) simple_format_rows_lem
    (rows_join simple_recover_rows (two ++ (three ++ (bury_rows ++ simple_erase_rows))) simple_recover_rows_lem
    (rows_join two (three ++ (bury_rows ++ simple_erase_rows)) ring_of_two_rows_lem
    (rows_join three (bury_rows ++ simple_erase_rows) ring_of_three_rows_lem
    (rows_join bury_rows simple_erase_rows bury_rows_lem simple_erase_rows_lem))))
