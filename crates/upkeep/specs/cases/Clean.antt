-- Document 02, wish 1, computed: cleaning, on volumes of 1 byte a slot, by its steps, and by the whole call on a block of all slots; and at every width.
use Rattle.std.specs.Prelude.{ℕ, zero, suc, List, [], ◌∷◌, ◌++◌, map, cond, length, replicate}
use Rattle.bounded.specs.Limits.{no_number, two_widths}
use Rattle.outcome.specs.Row.{Row, row}
use Rattle.sizes.specs.declared.Block.{Block}
use Rattle.sizes.specs.Sizes.{sizes_of}
use Rattle.sizes.specs.Blocks.{named}
use Rattle.record.specs.Slot.{blank_record}
use Rattle.record.specs.Flash.{Flash, Step, apply_all}
use Rattle.state.specs.declared.PageState.{PageState}
use Rattle.state.specs.Change.{at_rest}
use Rattle.table.specs.Given.{given, formatted_records, table_of}
use Rattle.rules.specs.Volume.{Volume}
use Rattle.upkeep.specs.Clean.{clean_from, clean_to, too_few_blank, clean_steps, clean_stages, clean_outcome}
use Rattle.rules.specs.cases.Twins.{byte_wide, sizes8, volume8, twin0}
use Rattle.rules.specs.cases.Width.{written1}

-- the slots from first to before end
unfoldable pub slots_from : (first end : ℕ) → Block
slots_from first end = record { first = first; end = end }

-- the flash that cleaning a block's steps leave, and what is copied and where to
unfoldable pub cleaned_flash : Volume → Block → Flash
cleaned_flash v b = apply_all 1 v.flash (clean_steps sizes8 v b)

unfoldable pub cleaned_into : Volume → Block → List ℕ
cleaned_into v b = let f = cleaned_flash v b in f.words ++ f.contents

-- the slots that steps store or blank, in their order
unfoldable pub step_slots : List Step → List ℕ
step_slots [] = []
step_slots (Step.Store k r bytes ∷ steps) = k ∷ step_slots steps
step_slots (Step.Blank k ∷ steps) = k ∷ step_slots steps

-- Two twins in slots 2 and 3, of a committed version; page 0's first record, obsolete, in 0, and page 1's in 1
unfoldable pub pair : Volume
pair = volume8 (formatted_records 2 ++ given 0 1 0 0 1 ∷ given 0 1 0 0 1 ∷ []) (5 ∷ 6 ∷ 7 ∷ 7 ∷ []) page
  where
    page : ℕ → PageState
    page zero = at_rest 1 1
    page (suc p) = at_rest 0 0

-- Page 0's version 1 is obsolete and straddles the link of page 1's exposed record, in the same block: slots 2 and 3. Page 0 is committed at 2, in slot 4.
unfoldable pub straddled : Volume
straddled = volume8 (formatted_records 2 ++ given 0 3 1 0 3 ∷ given 1 1 0 0 2 ∷ given 0 4 3 0 4 ∷ []) (5 ∷ 6 ∷ 7 ∷ 8 ∷ 9 ∷ []) page
  where
    page : ℕ → PageState
    page zero = at_rest 4 4
    page (suc p) = at_rest 0 1

-- Twins in slots 0 and 1, and one blank slot, 7, outside the block 0 to 6: the other slots hold records of page 1 that are obsolete
unfoldable pub one_free : Volume
one_free =
    volume8 (given 0 0 0 0 0 ∷ given 0 0 0 0 0 ∷ given 1 0 0 1 0 ∷ given 1 1 0 1 1 ∷ given 1 2 1 1 2 ∷ given 1 3 2 1 3 ∷ given 1 4 3 1 4 ∷ []) (5 ∷ 5 ∷ 1 ∷ 2 ∷ 3 ∷ 4 ∷ 6 ∷ []) page
  where
    page : ℕ → PageState
    page zero = at_rest 0 0
    page (suc p) = at_rest 5 5

-- two records that must be copied, and one blank slot outside
unfoldable pub none_free : Volume
none_free =
    volume8 (given 0 0 0 0 0 ∷ given 1 4 3 1 4 ∷ given 1 0 0 1 0 ∷ given 1 1 0 1 1 ∷ given 1 2 1 1 2 ∷ given 1 3 2 1 3 ∷ given 0 0 0 0 0 ∷ []) (5 ∷ 5 ∷ 1 ∷ 2 ∷ 3 ∷ 4 ∷ 6 ∷ []) page
  where
    page : ℕ → PageState
    page zero = at_rest 0 0
    page (suc p) = at_rest 4 4

-- 1 where there are too few blank slots outside
unfoldable pub refused : Volume → Block → ℕ
refused v b = cond (too_few_blank sizes8 v b) 1 0

-- the whole call, on a block of a table
unfoldable pub clean_on : Volume → (starts : List ℕ) → (block : ℕ) → List ℕ
clean_on v starts block = let o = clean_outcome byte_wide sizes8 v (named starts block) in o.answer ∷ o.second ∷ o.left.words ++ o.left.contents

-- every page committed above its records: all are obsolete
unfoldable pub all_obsolete : Volume
all_obsolete = volume8 (formatted_records 2) (5 ∷ 6 ∷ []) (λ p. at_rest 1 1)

unfoldable pub clean_rows : List Row
clean_rows =
    -- slot 0 has a twin outside the block and is not copied, slot 1 goes to the lowest blank slot
    row 1 (clean_from sizes8 twin0 (slots_from 0 2) ++ clean_to sizes8 twin0 (slots_from 0 2)) (1 ∷ 3 ∷ 4 ∷ 5 ∷ 6 ∷ 7 ∷ [])
    ∷ row 1 (cleaned_into twin0 (slots_from 0 2)) (table_of 8 (blank_record ∷ blank_record ∷ given 0 0 0 0 0 ∷ given 1 0 0 1 0 ∷ []) ++ (255 ∷ 255 ∷ 5 ∷ 6 ∷ replicate 4 255))
    -- of twins within the block only the lowest is copied; an obsolete record is not
    ∷ row 1 (clean_from sizes8 pair (slots_from 2 4) ++ clean_to sizes8 pair (slots_from 2 4)) (2 ∷ 4 ∷ 5 ∷ 6 ∷ 7 ∷ [])
    ∷ row 1 (cleaned_into pair (slots_from 2 4)) (table_of 8 (formatted_records 2 ++ blank_record ∷ blank_record ∷ given 0 1 0 0 1 ∷ []) ++ (5 ∷ 6 ∷ 255 ∷ 255 ∷ 7 ∷ replicate 3 255))
    ∷ row 1 (clean_from sizes8 pair (slots_from 0 2)) (1 ∷ [])
    -- the steps in their order: slot 3 is stored, then slots 0 and 1 are blanked; the copy is a stage by itself, the blankings are one
    ∷ row 1 (step_slots (clean_steps sizes8 twin0 (slots_from 0 2))) (3 ∷ 0 ∷ 1 ∷ [])
    ∷ row 1 (map length (clean_stages sizes8 twin0 (slots_from 0 2)) ++ map length (clean_stages sizes8 pair (slots_from 1 3))) (1 ∷ 2 ∷ 1 ∷ 2 ∷ [])
    -- rising, to the lowest
    ∷ row 1 (cleaned_into pair (slots_from 1 3)) (table_of 8 (given 0 0 0 0 0 ∷ blank_record ∷ blank_record ∷ given 0 1 0 0 1 ∷ given 1 0 0 1 0 ∷ []) ++ (5 ∷ 255 ∷ 255 ∷ 7 ∷ 6 ∷ replicate 3 255))
    -- a needed straddler is copied even where the exposed record that needs it leaves with the block
    ∷ row 1 (clean_from sizes8 straddled (slots_from 2 4)) (2 ∷ [])
    -- of twins one blank slot outside is enough; of two other records it is not
    ∷ row 1 (refused one_free (slots_from 0 7) ∷ refused none_free (slots_from 0 7) ∷ []) (0 ∷ 1 ∷ [])
    -- a block of all slots has none outside: refused, nothing is altered; where nothing is to be copied it is done
    ∷ row 1 (clean_on twin0 (0 ∷ []) 0) (15 ∷ 0 ∷ twin0.flash.words ++ twin0.flash.contents)
    ∷ row 1 (clean_on all_obsolete (0 ∷ []) 0) (0 ∷ 0 ∷ replicate 40 no_number ++ replicate 8 255)
    ∷ []

-- The answers of clean of a block of all slots, whose one record that must stay has no blank slot outside: at either width on a volume of it 15, at another, and on a volume of the other, 1.
unfoldable pub clean_at : (called w : ℕ) → ℕ
clean_at called w = (clean_outcome two_widths (sizes_of 1 2 called) (written1 w).left (named (0 ∷ []) 0)).answer

unfoldable pub clean_width_rows : List Row
clean_width_rows =
    row 10 (clean_at 32 32 ∷ clean_at 64 64 ∷ []) (15 ∷ 15 ∷ [])
    ∷ row 10 (clean_at 32 64 ∷ clean_at 64 32 ∷ clean_at 33 32 ∷ clean_at 0 64 ∷ clean_at no_number 64 ∷ []) (replicate 5 1)
    ∷ []
