-- The reference model ("ledger"): what the history of calls says is kept. It sees neither flash nor state nor the definitions of the calls.
use Rattle.std.specs.Prelude.{ℕ, zero, suc, List, [], ◌∷◌, ◌++◌, Bool, true, false, cond, ◌&&◌, ◌||◌, eqb, replicate}
use Rattle.atomicity.specs.Call.{Call}

-- "The ledger is told the calls' arguments, their numbers back and, for a cut write, whether its slot was stored."
pub data Told : Type 0 where
  Answered : Call → (answer : ℕ) → Told
  CrashedWrite : (page : ℕ) (bytes : List ℕ) (stored : Bool) → Told
  Crashed : Told

-- a page of an open ring: no bytes entered, or these
pub data Entry : Type 0 where
  Empty : (page : ℕ) → Entry
  Entered : (page : ℕ) (bytes : List ℕ) → Entry

-- "It keeps contents for each page, at first all zero, and open rings, at first none: lists of pages, some with bytes entered."
pub record Model : Type 0 where
  pub kept : ℕ → List ℕ
  pub rings : List (List Entry)

unfoldable pub fresh_model : ℕ → Model
fresh_model w = record { kept = λ p. replicate w 0; rings = [] }

unfoldable pub entry_page : Entry → ℕ
entry_page (Empty page) = page
entry_page (Entered page bytes) = page

unfoldable pub has_bytes : Entry → Bool
has_bytes (Empty page) = false
has_bytes (Entered page bytes) = true

-- the page stands in the ring
unfoldable pub in_ring : ℕ → List Entry → Bool
in_ring page [] = false
in_ring page (e ∷ ring) = eqb (entry_page e) page || in_ring page ring

-- "all pages of that ring now have bytes"
unfoldable pub all_entered : List Entry → Bool
all_entered [] = true
all_entered (e ∷ ring) = has_bytes e && all_entered ring

-- a new ring of these pages "with no bytes entered"
unfoldable pub new_ring : List ℕ → List Entry
new_ring [] = []
new_ring (p ∷ pages) = Empty p ∷ new_ring pages

-- the ring with the bytes entered for the page
unfoldable pub enter_in : ℕ → List ℕ → List Entry → List Entry
enter_in page bytes [] = []
enter_in page bytes (e ∷ ring) = cond (eqb (entry_page e) page) (Entered page bytes) e ∷ enter_in page bytes ring

-- "they become the kept contents of its pages"
unfoldable pub keep : List Entry → (ℕ → List ℕ) → ℕ → List ℕ
keep [] kept q = kept q
keep (Empty page ∷ ring) kept q = keep ring kept q
keep (Entered page bytes ∷ ring) kept q = cond (eqb page q) bytes (keep ring kept q)

-- the model with the rest of its open rings put back behind this one
unfoldable pub with_ring : List Entry → Model → Model
with_ring ring m = record { kept = m.kept; rings = ring ∷ m.rings }

-- the ring in which bytes were entered: completed, it closes and its contents are kept; else it stays open
unfoldable pub settle_ring : List Entry → (ℕ → List ℕ) → List (List Entry) → Model
settle_ring ring kept rings =
    cond (all_entered ring) (record { kept = keep ring kept; rings = rings }) (record { kept = kept; rings = ring ∷ rings })

-- "Write, 0: the bytes are entered for the page in its open ring. If all pages of that ring now have bytes, it is completed: they become the
-- kept contents of its pages, and the ring closes." A page in no open ring: nothing.
unfoldable pub enter : ℕ → List ℕ → (ℕ → List ℕ) → List (List Entry) → Model
enter page bytes kept [] = record { kept = kept; rings = [] }
enter page bytes kept (ring ∷ rings) =
    cond (in_ring page ring) (settle_ring (enter_in page bytes ring) kept rings) (with_ring ring (enter page bytes kept rings))

-- "Withdraw, 0: the page's ring closes."
unfoldable pub close_ring : ℕ → List (List Entry) → List (List Entry)
close_ring page [] = []
close_ring page (ring ∷ rings) = cond (in_ring page ring) rings (ring ∷ close_ring page rings)

-- "every open ring closes"
unfoldable pub close_all : Model → Model
close_all m = record { kept = m.kept; rings = [] }

-- an accepted call, one clause for each bullet
unfoldable pub accept : Model → Call → Model
-- "Launch, 0: its list is a new open ring with no bytes entered." It comes behind the others.
accept m (Call.Launch pages) = record { kept = m.kept; rings = m.rings ++ new_ring pages ∷ [] }
accept m (Call.Write page slot bytes) = enter page bytes m.kept m.rings
accept m (Call.Withdraw page) = record { kept = m.kept; rings = close_ring page m.rings }
-- "any other: nothing"
accept m (Call.Erase slots) = m
-- "Recover, 0: every open ring closes."
accept m Call.Recover = close_all m
-- "any other: nothing"
accept m (Call.Clean block) = m
accept m Call.Sweep = m

unfoldable pub learns : Model → Told → Model
-- "Any refused call …: nothing."
learns m (Answered call zero) = accept m call
learns m (Answered call (suc n)) = m
-- "A cut: a write whose slot it left stored is entered as if it had answered 0. Then every open ring closes."
learns m (CrashedWrite page bytes stored) = close_all (cond stored (enter page bytes m.kept m.rings) m)
learns m Crashed = close_all m
