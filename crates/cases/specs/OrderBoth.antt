-- Document 01, "Numbers back": "Conditions are tried from the top …, and the first that is met is returned", computed for the calls that both families have. A call is lent what meets all of its conditions at once,
-- as far as they go together, then the same without the condition that was told, and so on: the answers come in the document's order and end in 0. Each is followed by the second number.
use Rattle.std.specs.Prelude.{ℕ, suc, ◌*◌, refl, replicate, get_or}
use mathlib.Core.List.{List, [], ◌∷◌, ◌++◌, flatten}
use Rattle.bounded.specs.Limits.{no_number, highest_version, two_widths}
use Rattle.bounded.specs.Parts.{join_parts}
use Rattle.outcome.specs.Outcome.{Outcome}
use Rattle.outcome.specs.Row.{Row, row, RowsHold}
use Rattle.sizes.specs.declared.Layout.{Layout}
use Rattle.sizes.specs.declared.Layout.TheVariants.{FiveWords, FourWords}
use Rattle.sizes.specs.declared.Sizes.{Sizes}
use Rattle.sizes.specs.Sizes.{sizes_of}
use Rattle.record.specs.declared.Record.{Record}
use Rattle.record.specs.Flash.{Flash}
use Rattle.record.specs.Slot.{encoded, blank_record}
use Rattle.table.specs.Given.{given, formatted_records}
use Rattle.rules.specs.Volume.{Volume, volume}
use Rattle.rules.specs.Format.{format_outcome_in}
use Rattle.rules.specs.Launch.{launch_outcome}
use Rattle.rules.specs.Write.{write_outcome}
use Rattle.rules.specs.Withdraw.{withdraw_outcome}
use Rattle.rules.specs.Erase.{erase_outcome}
use Rattle.rules.specs.Recover.{recover_outcome}
use Rattle.rules.specs.Read.{read_outcome_in}
use Rattle.rules.specs.SimpleCalls.{simple_write_outcome, simple_erase_outcome, simple_recover_outcome}
use Rattle.rules.specs.cases.Computing.{computing}
use Rattle.rules.specs.cases.Simple.{rest}

-- ---- what is lent

-- S slots of 32 bytes that hold these records, in a layout, from slot 0 on; and a state
unfoldable pub volume_of : Layout → (S : ℕ) → List Record → (state : List ℕ) → Volume
volume_of layout S records state = volume (join_parts S (λ k. encoded layout (get_or records k blank_record))) (replicate (32 * S) 0) state

-- of two pages: the formatted records, and in slot 2 one of page 0 that is exposed
unfoldable pub sound : List Record
sound = formatted_records 2 ++ given 0 1 0 1 1 ∷ []

-- a record that is not sound: it links to page 2
unfoldable pub unsound : Record
unsound = given 1 0 0 2 0

unfoldable pub flawed : List Record
flawed = sound ++ unsound ∷ []

-- the words of a page whose used version is too high
unfoldable pub unsound_page : List ℕ
unsound_page = 0 ∷ no_number ∷ no_number ∷ 0 ∷ []

-- states: both pages at rest; page 0 not in flight and written all the same, which is not sound; both in flight together, page 0 written or not
unfoldable pub resting : List ℕ
resting = rest 0 2 ++ rest 0 2

unfoldable pub grounded : List ℕ
grounded = 0 ∷ 2 ∷ no_number ∷ 1 ∷ rest 0 2

unfoldable pub flying : (written : ℕ) → List ℕ
flying written = 0 ∷ 2 ∷ 1 ∷ written ∷ 0 ∷ 2 ∷ 0 ∷ 0 ∷ []

-- Of 5 pages: page 2 links to page 1, so that page 0's links run into a ring of the two, or to page 0; page 3's highest record is uncommitted, and there is no other of that page.
unfoldable pub five_pages : (second : ℕ) → (more : List Record) → List Record
five_pages second more = given 0 1 0 1 1 ∷ given 1 1 0 2 1 ∷ given 2 1 0 second 1 ∷ given 3 2 1 0 5 ∷ more

-- page 4's record, sound or not, and one more of page 3 at version 2
unfoldable pub fourth : Record
fourth = given 4 0 0 4 0

unfoldable pub fourth_unsound : Record
fourth_unsound = given 4 0 0 5 0

unfoldable pub clashing : Record
clashing = given 3 2 1 1 5

-- ---- what is found

-- the answer and the second number
module _ {B : Type 0} where
  unfoldable pub told : Outcome B → List ℕ
  told o = o.answer ∷ o.second ∷ []

-- so many refusals by 1
unfoldable pub ones : ℕ → List ℕ
ones n = flatten (replicate n (1 ∷ 0 ∷ []))

-- "P, S … is wrong", of document 02 the width, too: P is 0, S is below P, or the width is 33; every length is right by these
unfoldable pub wrong_sizes : (P S : ℕ) → Volume → (Sizes → Volume → List ℕ) → List ℕ
wrong_sizes P S v call =
    call (sizes_of 0 S 32) (record { flash = v.flash; state = [] })
    ++ (call (sizes_of (suc S) S 32) (record { flash = v.flash; state = replicate (4 * suc S) 7 })
    ++ call (sizes_of P S 33) (volume v.flash.words (replicate (33 * S) 0) v.state))

-- "or a lent slice's length": one entry more
unfoldable pub longer : List ℕ → List ℕ
longer list = list ++ 0 ∷ []

-- of a volume's words, of its contents, of its state
unfoldable pub longer_each : Volume → (Volume → List ℕ) → List ℕ
longer_each v call =
    call (volume (longer v.flash.words) v.flash.contents v.state)
    ++ (call (volume v.flash.words (longer v.flash.contents) v.state)
    ++ call (volume v.flash.words v.flash.contents (longer v.state)))

-- ---- the calls; `n` is the request that asks for the family, 0 for document 01

module _ (n : ℕ) (layout : Layout) where
  -- Format: 1.
  unfoldable pub format_order : List Row
  format_order =
      let v = volume_of layout 4 [] (replicate 8 7) in
      row n (wrong_sizes 2 4 v (λ z u. told (format_outcome_in layout two_widths z u)) ++ longer_each v (λ u. told (format_outcome_in layout two_widths (sizes_of 2 4 32) u))) (ones 6)
      ∷ row n (told (format_outcome_in layout two_widths (sizes_of 2 4 32) v)) (0 ∷ 0 ∷ [])
      ∷ []

  -- Write, of page 0 unless another is named: 1, 2, 5, 6, 9, 10, 11, and in the second family 16, where the exposed record would be buried.
  module _ (write : Sizes → Volume → (page slot : ℕ) (bytes : List ℕ) → Outcome Volume) where
    unfoldable pub write_on : (records : List Record) (state : List ℕ) (page slot bytes : ℕ) → List ℕ
    write_on records state page slot bytes = told (write (sizes_of 2 5 32) (volume_of layout 5 records state) page slot (replicate bytes 3))

    unfoldable pub write_order : (buried : ℕ) → List Row
    write_order buried =
        let v = volume_of layout 5 flawed grounded in
        row n
        (wrong_sizes 2 5 v (λ z u. told (write z u 0 5 (replicate z.width 3))) ++ (longer_each v (λ u. told (write (sizes_of 2 5 32) u 0 5 (replicate 32 3))) ++ write_on flawed grounded 0 5 33))
        (ones 7)
        ∷ row n (write_on flawed grounded 0 5 32) (2 ∷ 0 ∷ [])
        ∷ row n (write_on sound grounded 0 5 32) (5 ∷ 0 ∷ [])
        -- slot 5 is out of range, told before 9; page 2 is, told before 11. In a sound state, from here on, 9 and 10 exclude each other
        ∷ row n (write_on sound resting 0 5 32 ++ write_on sound resting 2 2 32) (6 ∷ 0 ∷ 6 ∷ 0 ∷ [])
        ∷ row n (write_on sound resting 0 2 32) (9 ∷ 0 ∷ [])
        ∷ row n (write_on sound (flying 1) 0 2 32) (10 ∷ 0 ∷ [])
        ∷ row n (write_on sound (flying 0) 0 2 32) (11 ∷ 0 ∷ [])
        ∷ row n (write_on sound (flying 0) 0 4 32) (buried ∷ 0 ∷ [])
        ∷ row n (write_on (formatted_records 2) (flying 0) 0 4 32) (0 ∷ 0 ∷ [])
        ∷ []

  -- Erase: 1, 2, 5, 6, 12. Slot 2 may be erased, slot 0 may not.
  module _ (erase : Sizes → Volume → (slots : List ℕ) → Outcome Flash) where
    unfoldable pub erase_on : (records : List Record) (state slots : List ℕ) → List ℕ
    erase_on records state slots = told (erase (sizes_of 2 5 32) (volume_of layout 5 records state) slots)

    unfoldable pub erase_order : List Row
    erase_order =
        let v = volume_of layout 5 flawed (rest 0 2 ++ unsound_page) in
        let list : List ℕ = 2 ∷ 0 ∷ 5 ∷ [] in
        row n (wrong_sizes 2 5 v (λ z u. told (erase z u list)) ++ longer_each v (λ u. told (erase (sizes_of 2 5 32) u list))) (ones 6)
        ∷ row n (erase_on flawed (rest 0 2 ++ unsound_page) list) (2 ∷ 0 ∷ [])
        ∷ row n (erase_on sound (rest 0 2 ++ unsound_page) list) (5 ∷ 0 ∷ [])
        -- slot 5 is out of range, slot 2 listed twice; an empty list lists no slot that may not be erased
        ∷ row n (erase_on sound resting list ++ (erase_on sound resting (2 ∷ 0 ∷ 2 ∷ []) ++ erase_on sound resting [])) (6 ∷ 0 ∷ 6 ∷ 0 ∷ 6 ∷ 0 ∷ [])
        ∷ row n (erase_on sound resting (2 ∷ 0 ∷ [])) (12 ∷ 0 ∷ [])
        ∷ row n (erase_on sound resting (2 ∷ [])) (0 ∷ 0 ∷ [])
        ∷ []

  -- Read: 1, 2, 5, 6, 14. Page 1 is committed at 1 and has no such record.
  unfoldable pub read_on : (records : List Record) (state : List ℕ) (page out : ℕ) → List ℕ
  read_on records state page out = told (read_outcome_in layout two_widths (sizes_of 2 5 32) (volume_of layout 5 records state) page (replicate out 7))

  unfoldable pub read_order : List Row
  read_order =
      let v = volume_of layout 5 flawed (unsound_page ++ rest 1 1) in
      row n
      (wrong_sizes 2 5 v (λ z u. told (read_outcome_in layout two_widths z u 2 (replicate z.width 7))) ++ (longer_each v (λ u. told (read_outcome_in layout two_widths (sizes_of 2 5 32) u 2 (replicate 32 7))) ++ read_on flawed (unsound_page ++ rest 1 1) 2 33))
      (ones 7)
      ∷ row n (read_on flawed (unsound_page ++ rest 1 1) 2 32) (2 ∷ 0 ∷ [])
      ∷ row n (read_on sound (unsound_page ++ rest 1 1) 2 32) (5 ∷ 0 ∷ [])
      -- of page 2, which there is not, there is no record either
      ∷ row n (read_on sound (rest 0 2 ++ rest 1 1) 2 32) (6 ∷ 0 ∷ [])
      ∷ row n (read_on sound (rest 0 2 ++ rest 1 1) 1 32) (14 ∷ 0 ∷ [])
      ∷ row n (read_on sound (rest 0 2 ++ rest 1 1) 0 32) (0 ∷ 0 ∷ [])
      ∷ []

  -- Recover: 1, 2, 3, 4, 14. The second family's takes no contents: with longer ones it answers 2 on this table.
  module _ (recover : Sizes → Volume → Outcome (List ℕ)) where
    unfoldable pub recover_on : (records : List Record) → List ℕ
    recover_on records = told (recover (sizes_of 5 7 32) (volume_of layout 7 records (replicate 20 7)))

    unfoldable pub recover_order : (contents_longer : ℕ) → List Row
    recover_order contents_longer =
        let v = volume_of layout 7 (five_pages 1 (fourth ∷ clashing ∷ fourth_unsound ∷ [])) (replicate 20 7) in
        row n (wrong_sizes 5 7 v (λ z u. told (recover z u)) ++ longer_each v (λ u. told (recover (sizes_of 5 7 32) u))) (ones 4 ++ contents_longer ∷ 0 ∷ ones 1)
        ∷ row n (recover_on (five_pages 1 (fourth ∷ clashing ∷ fourth_unsound ∷ []))) (2 ∷ 0 ∷ [])
        -- two records of equal page and version; page 4 without a record
        ∷ row n (recover_on (five_pages 1 (fourth ∷ clashing ∷ [])) ++ recover_on (five_pages 1 [])) (3 ∷ 0 ∷ 3 ∷ 0 ∷ [])
        ∷ row n (recover_on (five_pages 1 (fourth ∷ []))) (4 ∷ 0 ∷ [])
        ∷ row n (recover_on (five_pages 0 (fourth ∷ []))) (14 ∷ 0 ∷ [])
        -- with page 3's version 1: three links each of pages 0 to 2, one each of pages 3 and 4
        ∷ row n (recover_on (five_pages 0 (fourth ∷ given 3 1 0 3 1 ∷ []))) (0 ∷ 11 ∷ [])
        ∷ []

-- ---- launch and withdraw, which are the same calls in both families, as they see the state alone; 3 pages

-- launch: 1, 5, 6, 7, 8. Page 0 is in flight, page 1's used version is the highest there is; the third page is given
unfoldable pub launch_on : (third pages : List ℕ) → List ℕ
launch_on third pages = told (launch_outcome two_widths (sizes_of 3 3 32) (0 ∷ 1 ∷ 0 ∷ 0 ∷ rest 0 highest_version ++ third) pages)

unfoldable pub launch_order : List Row
launch_order =
    let state : List ℕ = 0 ∷ 1 ∷ 0 ∷ 0 ∷ rest 0 highest_version ++ unsound_page in
    let list : List ℕ = 0 ∷ 1 ∷ 3 ∷ [] in
    row 0 (wrong_sizes 3 3 (volume [] [] state) (λ z v. told (launch_outcome two_widths z v.state list)) ++ told (launch_outcome two_widths (sizes_of 3 3 32) (longer state) list)) (ones 4)
    ∷ row 0 (launch_on unsound_page list) (5 ∷ 0 ∷ [])
    -- page 3 is out of range, page 0 listed twice; an empty list lists no page in flight or used up
    ∷ row 0 (launch_on (rest 0 0) list ++ (launch_on (rest 0 0) (0 ∷ 1 ∷ 0 ∷ []) ++ launch_on (rest 0 0) [])) (6 ∷ 0 ∷ 6 ∷ 0 ∷ 6 ∷ 0 ∷ [])
    -- "each for all pages": though the page that is used up is listed first
    ∷ row 0 (launch_on (rest 0 0) (1 ∷ 0 ∷ [])) (7 ∷ 0 ∷ [])
    ∷ row 0 (launch_on (rest 0 0) (2 ∷ 1 ∷ [])) (8 ∷ 0 ∷ [])
    ∷ row 0 (launch_on (rest 0 0) (2 ∷ [])) (0 ∷ 0 ∷ [])
    ∷ []

-- withdraw: 1, 5, 6, 9. Page 0 is in flight, page 1 is not
unfoldable pub withdraw_on : (third : List ℕ) (page : ℕ) → List ℕ
withdraw_on third page = told (withdraw_outcome two_widths (sizes_of 3 3 32) (0 ∷ 1 ∷ 0 ∷ 0 ∷ rest 0 0 ++ third) page)

unfoldable pub withdraw_order : List Row
withdraw_order =
    let state : List ℕ = 0 ∷ 1 ∷ 0 ∷ 0 ∷ rest 0 0 ++ unsound_page in
    row 0 (wrong_sizes 3 3 (volume [] [] state) (λ z v. told (withdraw_outcome two_widths z v.state 1)) ++ told (withdraw_outcome two_widths (sizes_of 3 3 32) (longer state) 1)) (ones 4)
    -- 6 and 9 exclude each other, as 9 is of a page that there is: each of the two behind 5
    ∷ row 0 (withdraw_on unsound_page 3 ++ withdraw_on unsound_page 1) (5 ∷ 0 ∷ 5 ∷ 0 ∷ [])
    ∷ row 0 (withdraw_on (rest 0 0) 3) (6 ∷ 0 ∷ [])
    ∷ row 0 (withdraw_on (rest 0 0) 1) (9 ∷ 0 ∷ [])
    ∷ row 0 (withdraw_on (rest 0 0) 0) (0 ∷ 0 ∷ [])
    ∷ []

-- ---- the table

unfoldable pub both_rows : List Row
both_rows =
    format_order 0 FiveWords
    ++ (write_order 0 FiveWords (write_outcome two_widths) 0
    ++ (erase_order 0 FiveWords (erase_outcome two_widths)
    ++ (read_order 0 FiveWords
    ++ (recover_order 0 FiveWords (recover_outcome two_widths) 1
    ++ (format_order 5 FourWords
    ++ (write_order 5 FourWords (simple_write_outcome two_widths) 16
    ++ (erase_order 5 FourWords (simple_erase_outcome two_widths)
    ++ (read_order 5 FourWords
    ++ (recover_order 5 FourWords (λ z v. simple_recover_outcome two_widths z v.flash.words v.state) 2
    ++ (launch_order ++ withdraw_order))))))))))

pub both_rows_lem : RowsHold both_rows
unfolding both_rows volume_of sound unsound flawed unsound_page resting grounded flying five_pages fourth fourth_unsound clashing told ones wrong_sizes longer longer_each format_order write_on write_order erase_on erase_order read_on read_order recover_on recover_order launch_on launch_order withdraw_on withdraw_order rest computing
both_rows_lem = refl
