-- Scripts cut everywhere, computed: on 3 pages and 7 slots of 1 byte, and on smaller volumes.
use Rattle.std.specs.Prelude.{ℕ, ◌*◌, ◌≡◌, List, [], ◌∷◌, ◌++◌, Bool, true, false, not, replicate}
use Rattle.bounded.specs.Limits.{Widths}
use Rattle.sizes.specs.Sizes.{sizes_of}
use Rattle.rules.specs.Volume.{Volume}
use Rattle.atomicity.specs.Call.{Call}
use Rattle.atomicity.specs.Promise.{told}
use Rattle.everywhere.specs.Cuts.{Recorded, Makes, Cut, cuts_of, erasing}

unfoldable pub any_width : Widths
any_width w = true

-- the buffers that are formatted
unfoldable pub buffers : (pages slots w : ℕ) → Volume
buffers pages slots w = record { flash = record { words = replicate (5 * slots) 7; contents = replicate (w * slots) 7 }; state = replicate (4 * pages) 7 }

-- what is found with cuts everywhere, by our own calls or the trial
unfoldable pub found : (trial : Bool) (pages slots w : ℕ) → List Recorded → List Bool
found trial pages slots w script = cuts_of (erasing trial) any_width (sizes_of pages slots w) (buffers pages slots w) script

-- "case 6's script", up to its erase, with these fills: page 0's record of a ring that a cut closed, in slot 3, links to version 1 of page 1, which the record in slot 4 straddles
unfoldable pub case6 : (a b c d : ℕ) → List Recorded
case6 a b c d =
    Makes (Call.Launch (0 ∷ 1 ∷ []))
    ∷ Makes (Call.Write 0 3 (a ∷ []))
    ∷ Cut
    ∷ Makes Call.Recover
    ∷ Makes (Call.Launch (1 ∷ 2 ∷ []))
    ∷ Makes (Call.Write 1 4 (b ∷ []))
    ∷ Makes (Call.Write 2 5 (c ∷ []))
    ∷ Makes Call.Recover
    ∷ Makes (Call.Launch (1 ∷ []))
    ∷ Makes (Call.Write 1 6 (d ∷ []))
    ∷ []

-- what is found where an erase of these slots follows, and then page 2 is stored in the slot
unfoldable pub case6_then : (trial : Bool) → (slots : List ℕ) → (slot : ℕ) → List Bool
case6_then trial slots slot = found trial 3 7 1 (case6 1 2 3 4 ++ Makes (Call.Erase slots) ∷ Makes (Call.Launch (2 ∷ [])) ∷ Makes (Call.Write 2 slot (5 ∷ [])) ∷ [])

-- In each the first four are those of the stores above, and those of an erase stand as its slots are listed. A write to a slot that was not blanked is refused, and so is one past the last slot, 6: it has no cut.
pub record CutsComputed : Type 0 where
  -- our own erase refuses the straddler by 12, and it stays
  pub own : case6_then false (4 ∷ []) 4 ≡ true ∷ true ∷ true ∷ true ∷ []
  -- it blanks what may go: the exposed record and an obsolete one
  pub own_erases : case6_then false (3 ∷ 1 ∷ []) 1 ≡ true ∷ true ∷ true ∷ true ∷ true ∷ true ∷ true ∷ []
  -- "A trial erase that never answers 12 must give differ above 0 on case 6's script": page 0 comes back with the contents of a ring that was never completed, at every cut from then on
  pub trial : case6_then true (4 ∷ []) 4 ≡ true ∷ true ∷ true ∷ true ∷ false ∷ false ∷ []
  -- "fills not 0": with every other; it is page 0's that counts; were it 0, what was never completed could not be told from the zeros that are kept
  pub every_fill : (a b c d : ℕ) → ¬ (a ≡ 0) → found true 3 7 1 (case6 a b c d ++ Makes (Call.Erase (4 ∷ [])) ∷ []) ≡ true ∷ true ∷ true ∷ true ∷ false ∷ []
  pub untold : (b c d : ℕ) → found true 3 7 1 (case6 0 b c d ++ Makes (Call.Erase (4 ∷ [])) ∷ []) ≡ true ∷ true ∷ true ∷ true ∷ true ∷ []
  -- "in rising slot order within an erase": in one call with the straddler the exposed record goes first, though it is listed last
  pub rising : case6_then true (4 ∷ 3 ∷ []) 3 ≡ true ∷ true ∷ true ∷ true ∷ true ∷ true ∷ true ∷ []
  pub rising_three : case6_then true (4 ∷ 1 ∷ 3 ∷ []) 3 ≡ true ∷ true ∷ true ∷ true ∷ true ∷ true ∷ true ∷ true ∷ []
  -- "contents": the record of page 2 goes, and that page alone comes back as it was before
  pub one_page : case6_then true (5 ∷ []) 7 ≡ true ∷ true ∷ true ∷ true ∷ false ∷ []
  -- … and all bytes of a page are compared
  pub last_byte : found true 1 2 2 (Makes (Call.Launch (0 ∷ [])) ∷ Makes (Call.Write 0 1 (0 ∷ 1 ∷ [])) ∷ Makes (Call.Erase (1 ∷ [])) ∷ []) ≡ true ∷ false ∷ []
  -- "whose recovery refuses": slot 2 holds page 2's other record; with both gone recovery answers 3
  pub refused : case6_then true (2 ∷ 5 ∷ []) 7 ≡ true ∷ true ∷ true ∷ true ∷ true ∷ false ∷ []
  -- after the one page's last record went, a write brings it back
  pub stored_again : found true 1 2 1 (Makes (Call.Erase (0 ∷ [])) ∷ Makes (Call.Launch (0 ∷ [])) ∷ Makes (Call.Write 0 1 (5 ∷ [])) ∷ []) ≡ false ∷ true ∷ []
  -- "those of the last completed rings": the ring is completed by its last record, though its first was erased, and what was kept before is no longer right
  pub completed : found true 2 4 1 (Makes (Call.Launch (0 ∷ 1 ∷ [])) ∷ Makes (Call.Write 0 2 (1 ∷ [])) ∷ Makes (Call.Erase (2 ∷ [])) ∷ Makes (Call.Write 1 3 (1 ∷ [])) ∷ []) ≡ true ∷ true ∷ false ∷ []
  -- what erase refuses else the trial refuses too: a slot listed twice, and one past the last
  pub refused_twice : case6_then true (4 ∷ 4 ∷ []) 4 ≡ true ∷ true ∷ true ∷ true ∷ []
  pub refused_past : case6_then true (7 ∷ []) 7 ≡ true ∷ true ∷ true ∷ true ∷ []
