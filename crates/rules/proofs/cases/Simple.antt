-- Document 02, wish 5: the calls of records without a back pointer on small volumes, each through its whole outcome. (Crate cases has a ring of three, and all rows as one table.)
use Rattle.std.specs.Prelude.{ℕ, ◌≡◌, refl, List, [], ◌∷◌, ◌++◌, replicate}
use Rattle.std.proofs.Common.{ap}
use Rattle.bounded.specs.Limits.{two_widths}
use Rattle.outcome.specs.Outcome.{Outcome}
use Rattle.outcome.specs.Row.{RowsHold}
use Rattle.sizes.specs.Sizes.{sizes_of}
use Rattle.sizes.specs.declared.Layout.TheVariants.{FourWords}
use Rattle.rules.specs.Volume.{Volume}
use Rattle.rules.specs.Format.{formatted_in}
use Rattle.rules.specs.SimpleCalls.{simple_write_outcome}
use Rattle.rules.specs.cases.Computing.{computing}
use Rattle.rules.specs.cases.Simple.{four, four_table, four_volume, rest, whole_of, recover_four, recover_five, formatted23, simple_format_rows, straddled, astray, simple_recover_rows, half_ring, still_in_flight, launched_two, first_of_two, second_of_two, written_into, ring_of_two_rows, volume_two, write_half, erase_half, then_none, then_page, write_beside, bury_rows, straddler_needed, simple_erase_rows}

-- ---- format

pub simple_format_rows_lem : RowsHold simple_format_rows
unfolding simple_format_rows formatted23 whole_of rest computing
simple_format_rows_lem = refl

-- ---- recover

pub simple_recover_rows_lem : RowsHold simple_recover_rows
unfolding simple_recover_rows four whole_of four_table recover_four recover_five straddled astray rest computing
simple_recover_rows_lem = refl

-- ---- a ring of two

-- the outcomes, one from the other
launched_two_is : launched_two ≡ record { answer = 0; second = 0; left = still_in_flight 0 }
unfolding launched_two still_in_flight computing
launched_two_is = refl

first_of_two_is : first_of_two ≡ record { answer = 0; second = 0; left = volume_two 3 255 half_ring (still_in_flight 1) }
unfolding first_of_two still_in_flight volume_two half_ring four four_table computing
first_of_two_is =
    ap
    (λ (o : Outcome (List ℕ)). simple_write_outcome two_widths (sizes_of 2 4 32) (record { flash = (formatted_in FourWords (sizes_of 2 4 32)).flash; state = o.left }) 0 2 (replicate 32 3))
    launched_two_is

second_of_two_is : second_of_two ≡ record { answer = 0; second = 1; left = volume_two 3 5 (half_ring ++ four 1 1 0 1 ∷ []) (rest 1 1 ++ rest 1 1) }
unfolding second_of_two still_in_flight volume_two half_ring four four_table rest computing
second_of_two_is = ap (λ (o : Outcome Volume). simple_write_outcome two_widths (sizes_of 2 4 32) o.left 1 3 (replicate 32 5)) first_of_two_is

pub ring_of_two_rows_lem : RowsHold (ring_of_two_rows launched_two first_of_two second_of_two)
unfolding ring_of_two_rows still_in_flight volume_two half_ring four four_table whole_of written_into rest computing
ring_of_two_rows_lem = rw (launched_two_is, first_of_two_is, second_of_two_is) refl

-- ---- writes that would bury, and erasing

pub bury_rows_lem : RowsHold bury_rows
unfolding bury_rows four four_table four_volume half_ring write_half write_beside erase_half still_in_flight then_none then_page rest computing
bury_rows_lem = refl

pub simple_erase_rows_lem : RowsHold simple_erase_rows
unfolding simple_erase_rows four_table four_volume straddler_needed rest computing
simple_erase_rows_lem = refl
