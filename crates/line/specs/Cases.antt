-- Lines read: document 01's sample, the other calls, document 02's width, and lines that are not as shown.
use Prim.Native.String.{String}
use Rattle.std.specs.Prelude.{◌≡◌, refl, List, [], ◌∷◌, map}
use Rattle.sizes.specs.Sizes.{sizes_of}
use Rattle.text.specs.Scan.{bytes}
use Rattle.line.specs.Line.{Said, line_means}
use Rattle.line.specs.Computing.{computing}

pub record Case : Type 0 where
  pub line : String
  pub says : Said

abbrev pub case : String → Said → Case
case line says = record { line = line; says = says }

unfoldable pub cases : List Case
cases =
    case "op=format pages=2 slots=4" (Said.Format (sizes_of 2 4 32))
    ∷ case "op=launch pages=0,1" (Said.Launch (0 ∷ 1 ∷ []))
    ∷ case "op=write page=0 slot=2 fill=3" (Said.Write 0 2 3)
    ∷ case "op=cut" Said.Cut
    ∷ case "op=recover" Said.Recover
    ∷ case "op=launch pages=1" (Said.Launch (1 ∷ []))
    ∷ case "op=write page=1 slot=3 fill=3" (Said.Write 1 3 3)
    ∷ case "op=list" Said.Listing
    ∷ case "op=withdraw page=12" (Said.Withdraw 12)
    ∷ case "op=erase slots=3,0,4294967295" (Said.Erase (3 ∷ 0 ∷ 4294967295 ∷ []))
    ∷ case "op=format pages=002 slots=4" (Said.Format (sizes_of 2 4 32))
    ∷ case "op=format pages=2 slots=4 width=64" (Said.Format (sizes_of 2 4 64))
    ∷ case "op=format pages=256 slots=512 width=64" (Said.Format (sizes_of 256 512 64))
    ∷ case "op=format pages=256 slots=513 width=64" Said.Malformed
    ∷ case "op=format pages=256 slots=513" (Said.Format (sizes_of 256 513 32))
    ∷ case "op=format pages=0 slots=4 width=64" (Said.Format (sizes_of 0 4 64))
    ∷ case "op=format pages=2 slots=1025" (Said.Format (sizes_of 2 1025 32))
    ∷ case "op=format pages=2 slots=1025 width=64" Said.Malformed
    ∷ case "op=format pages=2 slots=4294967295 width=64" Said.Malformed
    ∷ case "op=format pages=2 slots=4 width=32" Said.Malformed
    ∷ case "op=format pages=2 slots=4 width=640" Said.Malformed
    ∷ case "op=format pages=2 slots=4 width=064" Said.Malformed
    ∷ case "op=format pages=2 slots=4 width=64 width=64" Said.Malformed
    ∷ case "op=format pages=2 width=64 slots=4" Said.Malformed
    ∷ case "op=list width=64" Said.Malformed
    ∷ case "op=format pages=2 slots=4 width=64 " Said.Malformed
    ∷ case "op=format pages=2 slots=4  width=64" Said.Malformed
    ∷ case "op=format pages=2 slots=4 width=" Said.Malformed
    ∷ case "op=format pages=2 slots=4 " Said.Malformed
    ∷ case "op=format pages=2  slots=4" Said.Malformed
    ∷ case "op=format pages=2 slots=4294967296" Said.Malformed
    ∷ case "op=format slots=4 pages=2" Said.Malformed
    ∷ case "op=launch pages=" Said.Malformed
    ∷ case "op=launch pages=0,,1" Said.Malformed
    ∷ case "op=launch pages=0,1," Said.Malformed
    ∷ case "op=write page=0 slot=2 fill=256" Said.Malformed
    ∷ case "op=write page=-1 slot=2 fill=3" Said.Malformed
    ∷ case "op=cuts" Said.Malformed
    ∷ case "" Said.Malformed
    ∷ []

pub cases_hold : map (λ (c : Case). line_means 64 (bytes c.line)) cases ≡ map (λ (c : Case). c.says) cases
unfolding cases computing
cases_hold = refl
