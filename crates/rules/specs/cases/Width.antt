-- Document 02, wish 10: "A volume's contents are 32 or 64 bytes per slot … Other widths, or contents of another length, are 1", by the calls' outcome
-- definitions, on a volume of 1 page and 2 slots.
use Rattle.std.specs.Prelude.{ℕ, ◌*◌, replicate}
use mathlib.Core.List.{List, [], ◌∷◌, ◌++◌, map, flatten}
use Rattle.bounded.specs.Limits.{no_number, two_widths}
use Rattle.bounded.specs.Parts.{join_parts}
use Rattle.outcome.specs.Outcome.{Outcome}
use Rattle.outcome.specs.Row.{Row, row}
use Rattle.sizes.specs.Sizes.{sizes_of}
use Rattle.rules.specs.Volume.{Volume}
use Rattle.rules.specs.Format.{formatted, format_outcome}
use Rattle.rules.specs.Launch.{launch_outcome}
use Rattle.rules.specs.Write.{write_outcome}
use Rattle.rules.specs.Withdraw.{withdraw_outcome}
use Rattle.rules.specs.Erase.{erase_outcome}
use Rattle.rules.specs.CheckBlocks.{check_blocks_outcome}
use Rattle.rules.specs.Suggest.{suggest_outcome}
use Rattle.rules.specs.Recover.{recover_outcome}
use Rattle.rules.specs.Read.{read_outcome}

-- w different bytes
unfoldable pub bytes_of : ℕ → List ℕ
bytes_of w = join_parts w (λ i. i ∷ [])

-- format's answer at this width, on contents of so many bytes
unfoldable pub format_at : (w bytes : ℕ) → ℕ
format_at w bytes = (format_outcome two_widths (sizes_of 1 2 w) (record { flash = record { words = replicate 10 7; contents = replicate bytes 7 }; state = replicate 4 7 })).answer

-- the formatted volume; and with page 0 launched and its w different bytes written into slot 1
unfoldable pub fresh1 : ℕ → Volume
fresh1 w = formatted (sizes_of 1 2 w)

unfoldable pub written1 : ℕ → Outcome Volume
written1 w =
    let z = sizes_of 1 2 w in
    write_outcome two_widths z (record { flash = (fresh1 w).flash; state = (launch_outcome two_widths z (fresh1 w).state (0 ∷ [])).left }) 0 1 (bytes_of w)

-- The answers of every other call at width `called`, on that volume with w bytes a slot and slices of as many: launch, write, withdraw, erase of slot 0,
-- suggest, recover and read; and check_blocks of a table with one block.
unfoldable pub answers_at : (called w : ℕ) → List ℕ
answers_at called w =
    let z = sizes_of 1 2 called in
    let v = (written1 w).left in
    (launch_outcome two_widths z v.state (0 ∷ [])).answer
    ∷ (write_outcome two_widths z v 0 1 (bytes_of w)).answer
    ∷ (withdraw_outcome two_widths z v.state 0).answer
    ∷ (erase_outcome two_widths z v (0 ∷ [])).answer
    ∷ (suggest_outcome two_widths z v).answer
    ∷ (recover_outcome two_widths z v).answer
    ∷ (read_outcome two_widths z v 0 (replicate w 7)).answer
    ∷ (check_blocks_outcome two_widths z (0 ∷ [])).answer
    ∷ []

-- The answers of write and read on that volume, at its own width w, with slices of so many bytes: write of page 0 behind another launch.
unfoldable pub slice_answers : (w bytes : ℕ) → List ℕ
slice_answers w bytes =
    let z = sizes_of 1 2 w in
    let v = (written1 w).left in
    (write_outcome two_widths z (record { flash = (fresh1 w).flash; state = (launch_outcome two_widths z (fresh1 w).state (0 ∷ [])).left }) 0 1 (bytes_of bytes)).answer
    ∷ (read_outcome two_widths z v 0 (replicate bytes 7)).answer
    ∷ []

-- The contents of that volume formatted, written, and with slot 0 erased; then what read copies.
unfoldable pub contents_at : ℕ → List (List ℕ)
contents_at w =
    let z = sizes_of 1 2 w in
    let v = (written1 w).left in
    (fresh1 w).flash.contents
    ∷ v.flash.contents
    ∷ (erase_outcome two_widths z v (0 ∷ [])).left.contents
    ∷ (read_outcome two_widths z v 0 (replicate w 7)).left
    ∷ []

-- … as they should be: all bytes of a slot, and of no other
unfoldable pub contents_stated : ℕ → List (List ℕ)
contents_stated w =
    (replicate w 0 ++ replicate w 255)
    ∷ (replicate w 0 ++ bytes_of w)
    ∷ (replicate w 255 ++ bytes_of w)
    ∷ bytes_of w
    ∷ []

-- Format takes 32 and 64 alone, and contents of that many bytes a slot; of either width it takes 1,024 slots. On a volume of either width every call is
-- accepted, or refused for another reason than 1 (9: nothing is in flight); at another width than 32 or 64 every call answers 1, and at the other of the
-- two those that take contents. Slices of another length than the width are 1.
unfoldable pub width_rows : List Row
width_rows =
    row 10 (map (λ (w : ℕ). format_at w (w * 2)) (0 ∷ 16 ∷ 31 ∷ 33 ∷ 63 ∷ 65 ∷ 96 ∷ 128 ∷ 256 ∷ 512 ∷ [])) (replicate 10 1)
    ∷ row 10 (map (λ (w : ℕ). format_at w (w * 2)) (32 ∷ 64 ∷ [])) (0 ∷ 0 ∷ [])
    ∷ row 10 ((format_outcome two_widths (sizes_of 256 1024 64) (record { flash = record { words = replicate 5120 7; contents = replicate 65536 7 }; state = replicate 1024 7 })).answer ∷ []) (0 ∷ [])
    ∷ row 10 (map (format_at 32) (63 ∷ 64 ∷ 65 ∷ 128 ∷ [])) (1 ∷ 0 ∷ 1 ∷ 1 ∷ [])
    ∷ row 10 (map (format_at 64) (64 ∷ 127 ∷ 128 ∷ 129 ∷ [])) (1 ∷ 1 ∷ 0 ∷ 1 ∷ [])
    ∷ row 10 (format_at no_number 64 ∷ format_at no_number 128 ∷ []) (1 ∷ 1 ∷ [])
    ∷ row 10 (answers_at 32 32) (0 ∷ 9 ∷ 9 ∷ 0 ∷ 0 ∷ 0 ∷ 0 ∷ 0 ∷ [])
    ∷ row 10 (answers_at 64 64) (0 ∷ 9 ∷ 9 ∷ 0 ∷ 0 ∷ 0 ∷ 0 ∷ 0 ∷ [])
    ∷ row 10 (answers_at 32 64) (0 ∷ 1 ∷ 9 ∷ 1 ∷ 1 ∷ 1 ∷ 1 ∷ 0 ∷ [])
    ∷ row 10 (answers_at 64 32) (0 ∷ 1 ∷ 9 ∷ 1 ∷ 1 ∷ 1 ∷ 1 ∷ 0 ∷ [])
    ∷ row 10 (answers_at 33 32) (replicate 8 1)
    ∷ row 10 (answers_at 0 64) (replicate 8 1)
    ∷ row 10 (answers_at no_number 64) (replicate 8 1)
    ∷ row 10 (slice_answers 32 32 ++ (slice_answers 32 31 ++ (slice_answers 32 33 ++ slice_answers 32 64))) (0 ∷ 0 ∷ replicate 6 1)
    ∷ row 10 (slice_answers 64 64 ++ (slice_answers 64 63 ++ (slice_answers 64 65 ++ slice_answers 64 32))) (0 ∷ 0 ∷ replicate 6 1)
    ∷ row 10 (flatten (contents_at 32)) (flatten (contents_stated 32))
    ∷ row 10 (flatten (contents_at 64)) (flatten (contents_stated 64))
    ∷ []
