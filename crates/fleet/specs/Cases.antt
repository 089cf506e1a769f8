-- Pages, computed: of volumes with 1 byte of contents a slot or none, and of small ones of the two widths; and which sizes are taken.
use Rattle.std.specs.Prelude.{ℕ, zero, suc, ◌*◌, ◌≡◌, List, [], ◌∷◌, ◌++◌, true, false, length, take, replicate}
use Rattle.bounded.specs.Limits.{Widths, two_widths, no_number}
use Rattle.sizes.specs.Sizes.{sizes_of}
use Rattle.text.specs.Scan.{bytes}
use Rattle.record.specs.Flash.{flash}
use Rattle.fleet.specs.Input.{sizes_taken}
use Rattle.fleet.specs.Page.{van_page}
use Rattle.fleet.specs.Shown.{sizes_bytes, volume_bytes}

unfoldable pub any_width : Widths
any_width w = true

-- a volume of these pages and slots, 1 byte each, with these records' words and bytes
unfoldable pub volume_of : (P S : ℕ) (words contents : List ℕ) → List ℕ
volume_of P S words contents = volume_bytes (sizes_of P S 1) (flash words contents)

-- document 01's case 6: slots 1, 2 and 4 hold obsolete records, slot 3 an exposed one, whose link the record in slot 4 straddles; pages 1 and 2 are set
unfoldable pub case6 : List ℕ
case6 =
    volume_of 3 7
    (0 ∷ 0 ∷ 0 ∷ 0 ∷ 0 ∷ 1 ∷ 0 ∷ 0 ∷ 1 ∷ 0 ∷ 2 ∷ 0 ∷ 0 ∷ 2 ∷ 0 ∷ 0 ∷ 1 ∷ 0 ∷ 1 ∷ 1 ∷ 1 ∷ 2 ∷ 0 ∷ 2 ∷ 1 ∷ 2 ∷ 1 ∷ 0 ∷ 1 ∷ 2 ∷ 1 ∷ 3 ∷ 2 ∷ 1 ∷ 3 ∷ [])
    (0 ∷ 0 ∷ 0 ∷ 1 ∷ 2 ∷ 3 ∷ 4 ∷ [])

-- page 1 has no record: recovery answers 3
unfoldable pub record_of_none : List ℕ
record_of_none = volume_of 2 2 (0 ∷ 0 ∷ 0 ∷ 0 ∷ 0 ∷ 0 ∷ 1 ∷ 0 ∷ 0 ∷ 1 ∷ []) (0 ∷ 0 ∷ [])

-- one page, its first record twice, its second, and a blank slot
unfoldable pub two_twins : List ℕ
two_twins = volume_of 1 4 (0 ∷ 0 ∷ 0 ∷ 0 ∷ 0 ∷ 0 ∷ 0 ∷ 0 ∷ 0 ∷ 0 ∷ 0 ∷ 1 ∷ 0 ∷ 0 ∷ 1 ∷ replicate 5 no_number) (7 ∷ 7 ∷ 0 ∷ 255 ∷ [])

-- one page and one slot, no bytes: n volumes
unfoldable pub smallest : (n : ℕ) → List ℕ
smallest zero = []
smallest (suc n) = volume_bytes (sizes_of 1 1 0) (flash (0 ∷ 0 ∷ 0 ∷ 0 ∷ 0 ∷ []) []) ++ smallest n

pub record PagesComputed : Type 0 where
  -- "neither kind adds anything, and the mean counts only the others": of four volumes the second does not recover and the fourth is cut short
  pub four :
      van_page any_width (case6 ++ (record_of_none ++ (two_twins ++ take 5 case6)))
      ≡ bytes "       1               2               3               1               1\n"
      ++ (bytes "       2               3                                                \n"
      ++ (bytes "       3               1               2               0               0\n"
      ++ (bytes "       4               1                                                \n"
      ++ (bytes "                       3               5               1               1\n"
      ++ bytes "                       1               1                                \n"))))
  -- "with none it is 0 and 0"
  pub none :
      van_page any_width []
      ≡ bytes "                       0               0               0               0\n"
      ++ bytes "                       0               0                                \n"
  -- "all 32 bits lowest byte first, then the contents", byte by byte: one page of 32 bytes at version 67,108,864, behind 67,108,863
  pub each_byte :
      van_page two_widths (1 ∷ 0 ∷ 0 ∷ 0 ∷ 1 ∷ 0 ∷ 0 ∷ 0 ∷ 32 ∷ 0 ∷ 0 ∷ 0 ∷ 0 ∷ 0 ∷ 0 ∷ 0 ∷ 0 ∷ 0 ∷ 0 ∷ 4 ∷ 255 ∷ 255 ∷ 255 ∷ 3 ∷ 0 ∷ 0 ∷ 0 ∷ 0 ∷ 0 ∷ 0 ∷ 0 ∷ 4 ∷ replicate 32 9)
      ≡ bytes "       1               1               0               0               0\n"
      ++ (bytes "                       1               0               0               0\n"
      ++ bytes "                       1               0                                \n")
  -- "wrong sizes … ends the reading": behind one 64 wide comes one without a page, and then one that is not read
  pub wide :
      van_page two_widths (volume_bytes (sizes_of 1 1 64) (flash (0 ∷ 1 ∷ 0 ∷ 0 ∷ 1 ∷ []) (replicate 64 9)) ++ (sizes_bytes (sizes_of 0 1 32) ++ volume_bytes (sizes_of 1 1 32) (flash (0 ∷ 1 ∷ 0 ∷ 0 ∷ 1 ∷ []) (replicate 32 9))))
      ≡ bytes "       1               1               0               0               0\n"
      ++ (bytes "       2               1                                                \n"
      ++ (bytes "                       1               0               0               0\n"
      ++ bytes "                       1               0                                \n"))
  -- "a 33rd is not read"
  pub last : length (van_page any_width (smallest 33)) ≡ 73 * 34
  pub not_read : van_page any_width (smallest 33) ≡ van_page any_width (smallest 32)
  -- "64 wide with over 512 slots included"
  pub wide_most : sizes_taken two_widths (sizes_of 256 512 64) ≡ true
  pub wide_more : sizes_taken two_widths (sizes_of 256 513 64) ≡ false
  pub narrow_most : sizes_taken two_widths (sizes_of 256 1024 32) ≡ true
  pub narrow_more : sizes_taken two_widths (sizes_of 256 1025 32) ≡ false
  pub other_width : sizes_taken two_widths (sizes_of 1 1 33) ≡ false
