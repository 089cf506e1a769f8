-- Lists, computed: document 02's "A piston set to silence" and "Five hundred and twelve stops".
use Rattle.std.specs.Prelude.{ℕ, ◌≡◌, refl, List, [], ◌∷◌, replicate}
use Rattle.bounded.specs.Limits.{no_number, two_widths}
use Rattle.outcome.specs.Outcome.{Outcome}
use Rattle.sizes.specs.declared.Sizes.{Sizes}
use Rattle.sizes.specs.Sizes.{sizes_of}
use Rattle.text.specs.Scan.{bytes}
use Rattle.rules.specs.Volume.{Volume}
use Rattle.rules.specs.Format.{formatted}
use Rattle.rules.specs.Launch.{launch_outcome}
use Rattle.rules.specs.Write.{write_outcome}
use Rattle.rules.specs.Withdraw.{withdraw_outcome}
use Rattle.rules.specs.Recover.{recover_outcome}
use Rattle.listing.specs.Listing.{list_text}
use Rattle.listing.specs.Computing.{computing}

-- 2 pages and 4 slots, with w bytes a slot
abbrev two_pages : ℕ → Sizes
two_pages w = sizes_of 2 4 w

-- a formatted volume of these sizes on which page 0 is launched
unfoldable pub launched0 : ℕ → Volume
launched0 w = record { flash = (formatted (two_pages w)).flash; state = (launch_outcome two_widths (two_pages w) (formatted (two_pages w)).state (0 ∷ [])).left }

-- page 0 is stored in slot 2, with all bytes of this value
unfoldable pub stored0 : (w fill : ℕ) → Outcome Volume
stored0 w fill = write_outcome two_widths (two_pages w) (launched0 w) 0 2 (replicate w fill)

-- page 0 is stored with nothing drawn; both pages are launched again and withdrawn: their used versions are above their committed ones, and neither is in flight
unfoldable pub silence : ℕ → Volume
silence w = record { flash = (stored0 w 0).left.flash; state = (withdraw_outcome two_widths (two_pages w) (launch_outcome two_widths (two_pages w) (stored0 w 0).left.state (0 ∷ 1 ∷ [])).left 1).left }

-- the state is lost, and recovered
unfoldable pub silence_recovered : ℕ → Volume
silence_recovered w = record { flash = (silence w).flash; state = (recover_outcome two_widths (two_pages w) (record { flash = (silence w).flash; state = replicate 8 no_number })).left }

-- "a stored silence is set, with drawn 0"; a page with no committed version but the formatted one is empty
abbrev silence_text : List ℕ
silence_text = bytes "page=0 version=1 slot=2 drawn=0 state=set\npage=1 version=0 slot=1 drawn=0 state=empty\nanswer=0\n"

pub silence_listed : (list_text two_widths (two_pages 32) (silence 32) ≡ silence_text) × (list_text two_widths (two_pages 64) (silence 64) ≡ silence_text)
unfolding launched0 stored0 silence computing
silence_listed = (refl, refl)

pub silence_recovered_lem : (list_text two_widths (two_pages 32) (silence_recovered 32) ≡ silence_text) × (list_text two_widths (two_pages 64) (silence_recovered 64) ≡ silence_text)
unfolding launched0 stored0 silence silence_recovered computing
silence_recovered_lem = (refl, refl)

-- "drawn may reach 512"
pub all_drawn : list_text two_widths (two_pages 64) (stored0 64 255).left ≡ bytes "page=0 version=1 slot=2 drawn=512 state=set\npage=1 version=0 slot=1 drawn=0 state=empty\nanswer=0\n"
unfolding launched0 stored0 computing
all_drawn = refl
