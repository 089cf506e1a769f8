-- What a line of a script says. A line is its bytes without the line end.
use Rattle.std.specs.Prelude.{Option as Given, Some, None, ℕ, zero, suc, List, [], ◌∷◌, cond, ltb, eqb, length, take}
use Rattle.std.proofs.Math.Option.{Option, none, some, map}
use Rattle.sizes.specs.declared.Sizes.{Sizes}
use Rattle.sizes.specs.Sizes.{sizes_of}
use Rattle.text.specs.Scan.{bytes, behind, number, Scanned, scanned}
use Rattle.line.specs.declared.Line.{Line}
use Rattle.line.specs.declared.Line.TheVariants as lines

-- "one call a line": the call with its numbers, or none
pub data Said : Type 0 where
  Format : (sizes : Sizes) → Said
  Launch : (pages : List ℕ) → Said
  Write : (page slot fill : ℕ) → Said
  Withdraw : (page : ℕ) → Said
  Erase : (slots : List ℕ) → Said
  Recover : Said
  Cut : Said
  Listing : Said
  Malformed : Said

-- one thing of a format line, by its sizes, and another of every other line
unfoldable pub on_format : {A : Type 0} → Said → (Sizes → A) → A → A
on_format (Format z) f other = f z
on_format (Launch pages) f other = other
on_format (Write page slot fill) f other = other
on_format (Withdraw page) f other = other
on_format (Erase slots) f other = other
on_format Recover f other = other
on_format Cut f other = other
on_format Listing f other = other
on_format Malformed f other = other

-- what the program's enum says, with the list that stands beside it
unfoldable pub said : Line → List ℕ → Said
said (lines.Format sizes) list = Format sizes
said (lines.Launch count) list = Launch (take count list)
said (lines.Write page slot fill) list = Write page slot fill
said (lines.Withdraw page) list = Withdraw page
said (lines.Erase count) list = Erase (take count list)
said lines.Recover list = Recover
said lines.Cut list = Cut
said lines.List list = Listing

-- what the program gives back of a line says: none is malformed
abbrev pub said_of : Given Line → List ℕ → Said
said_of None list = Malformed
said_of (Some line) list = said line list

-- what is said behind a number, where there is one
unfoldable pub on_number : Option Scanned → (ℕ → List ℕ → Said) → Said
on_number none f = Malformed
on_number (some n) f = f n.value n.rest

-- a number with a field's name behind it: the number, and what is behind both
unfoldable pub number_then : (name : List ℕ) → Option Scanned → Option Scanned
number_then name none = none
number_then name (some n) = map (scanned n.value) (behind name n.rest)

-- what is said behind a text where it stands, and else
unfoldable pub on_text : Option (List ℕ) → (List ℕ → Said) → Said → Said
on_text none f other = other
on_text (some s) f other = f s

-- what is said by a list of numbers, where there is one
unfoldable pub on_numbers : Option (List ℕ) → (List ℕ → Said) → Said
on_numbers list f = on_text list f Malformed

-- what is said where the line ends
unfoldable pub at_end : List ℕ → Said → Said
at_end [] says = says
at_end (b ∷ s) says = Malformed

-- a list of numbers behind its first: the line's end, or a comma and more
unfoldable pub list_behind : (value : ℕ) (rest : List ℕ) → (List ℕ → Option (List ℕ)) → Option (List ℕ)
list_behind value [] more = some (value ∷ [])
list_behind value (b ∷ s) more = cond (eqb b 44) (map (λ (list : List ℕ). value ∷ list) (more s)) none

-- a list of numbers from its first on, where there is one
unfoldable pub list_from : Option Scanned → (List ℕ → Option (List ℕ)) → Option (List ℕ)
list_from none more = none
list_from (some n) more = list_behind n.value n.rest more

-- "lists 1 to 64 entries", for at most k: the numbers that make up s, with one comma between
unfoldable pub numbers : ℕ → List ℕ → Option (List ℕ)
numbers zero s = none
numbers (suc k) s = list_from (number s) (numbers k)

-- the list that stands beside the program's count, where there is one
abbrev pub listed_of : Given ℕ → List ℕ → Option (List ℕ)
listed_of None list = none
listed_of (Some count) list = some (take count list)

-- "fields stand as shown, one space between": what each line says by what is behind its first field's name

-- Behind the number of slots. Document 02: "The script's format line may end in width=64, then with at most 512 slots (more prints answer=line); without
-- it the width is 32."
unfoldable pub sizes_means : (pages slots : ℕ) → List ℕ → Said
sizes_means pages slots s =
    on_text (behind (bytes " width=64") s)
    (λ s. cond (ltb 512 slots) Malformed (at_end s (Format (sizes_of pages slots 64))))
    (at_end s (Format (sizes_of pages slots 32)))

-- "op=format pages=2 slots=4"
unfoldable pub format_means : List ℕ → Said
format_means s =
    on_number (number_then (bytes " slots=") (number s)) (λ pages s.
    on_number (number s) (λ slots s.
    sizes_means pages slots s))

-- "fill at most 255"
unfoldable pub fill_means : (page slot : ℕ) → List ℕ → Said
fill_means page slot s =
    on_number (number s) (λ fill s.
    cond (ltb 255 fill) Malformed (at_end s (Write page slot fill)))

-- "op=write page=0 slot=2 fill=3"
unfoldable pub write_means : List ℕ → Said
write_means s =
    on_number (number_then (bytes " slot=") (number s)) (λ page s.
    on_number (number_then (bytes " fill=") (number s)) (λ slot s.
    fill_means page slot s))

-- "op=withdraw page="
unfoldable pub withdraw_means : List ℕ → Said
withdraw_means s = on_number (number s) (λ page s. at_end s (Withdraw page))

-- "op=launch pages=0,1"
unfoldable pub launch_means : ℕ → List ℕ → Said
launch_means k s = on_numbers (numbers k s) Launch

-- "op=erase slots="
unfoldable pub erase_means : ℕ → List ℕ → Said
erase_means k s = on_numbers (numbers k s) Erase

-- a line without numbers
unfoldable pub plain_means : List ℕ → Said
plain_means s =
    on_text (behind (bytes "op=recover") s) (λ s. at_end s Recover) (
    on_text (behind (bytes "op=cut") s) (λ s. at_end s Cut) (
    on_text (behind (bytes "op=list") s) (λ s. at_end s Listing) Malformed))

-- a line by the text that it begins with
unfoldable pub call_means : ℕ → List ℕ → Said
call_means k s =
    on_text (behind (bytes "op=format pages=") s) format_means (
    on_text (behind (bytes "op=launch pages=") s) (launch_means k) (
    on_text (behind (bytes "op=write page=") s) write_means (
    on_text (behind (bytes "op=withdraw page=") s) withdraw_means (
    on_text (behind (bytes "op=erase slots=") s) (erase_means k) (
    plain_means s)))))

-- "lists 1 to 64 entries"
abbrev pub max_entries : ℕ
max_entries = 64

-- What a line says, where lists have at most k entries. "Lines have at most 512 bytes".
unfoldable pub line_means : ℕ → List ℕ → Said
line_means k s = cond (ltb 512 (length s)) Malformed (call_means k s)
