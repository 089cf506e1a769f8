-- Records, slots and the slot table's words: document 01, "The volume and the sheet".
use Rattle.std.specs.Prelude.{ℕ, List, [], ◌∷◌, Bool, true, false, cond, not, ◌&&◌, ◌||◌, ltb, leb, eqb, get_or}
use Rattle.bounded.specs.Limits.{no_number, highest_version}
use Rattle.bounded.specs.Below.{all_below, some_below}
use Rattle.bounded.specs.Parts.{part}
use Rattle.sizes.specs.declared.Layout.{Layout}
use Rattle.sizes.specs.declared.Layout.TheVariants.{FiveWords, FourWords}
use Rattle.sizes.specs.Sizes.{stride_of}
use Rattle.record.specs.declared.Record.{Record}
use Rattle.std.specs.Prelude.{Option, None, Some}

-- what stands in a slot: a record, or none where it is blank
abbrev pub Slot : Type 0
Slot = Option Record

-- the words of a record in a layout: its five, in their order, or all but the back pointer
unfoldable pub encoded : Layout → Record → List ℕ
encoded FiveWords r = r.p ∷ r.v ∷ r.c ∷ r.np ∷ r.nv ∷ []
encoded FourWords r = r.p ∷ r.v ∷ r.np ∷ r.nv ∷ []

-- the record that words are in a layout; of four, its back pointer is 0
unfoldable pub decoded : Layout → List ℕ → Record
decoded FiveWords ws = record { p = get_or ws 0 no_number; v = get_or ws 1 no_number; c = get_or ws 2 no_number; np = get_or ws 3 no_number; nv = get_or ws 4 no_number }
decoded FourWords ws = record { p = get_or ws 0 no_number; v = get_or ws 1 no_number; c = 0; np = get_or ws 2 no_number; nv = get_or ws 3 no_number }

-- "A blank slot has 4,294,967,295 in all five words", or in all four.
unfoldable pub blank_in : Layout → List ℕ → Bool
blank_in layout ws = all_below (stride_of layout) (λ i. eqb (get_or ws i no_number) no_number)

-- "Any other slot is a record."
unfoldable pub slot_from : Layout → List ℕ → Slot
slot_from layout ws = cond (blank_in layout ws) None (Some (decoded layout ws))

-- "Slot k has words 5k to 5k+4 …", or as many as the layout says
unfoldable pub slot_in : Layout → List ℕ → ℕ → Slot
slot_in layout words k = slot_from layout (part (stride_of layout) k words)

-- the same of five words
abbrev pub words_of : Record → List ℕ
words_of r = encoded FiveWords r

abbrev pub record_of : List ℕ → Record
record_of ws = decoded FiveWords ws

abbrev pub all_blank : List ℕ → Bool
all_blank ws = blank_in FiveWords ws

abbrev pub slot_of : List ℕ → Slot
slot_of ws = slot_from FiveWords ws

abbrev pub slot_at : List ℕ → ℕ → Slot
slot_at words = slot_in FiveWords words

-- "… and bytes 32k to 32k+31", for contents of w bytes a slot
unfoldable pub bytes_at : ℕ → List ℕ → ℕ → List ℕ
bytes_at w contents k = part w k contents

-- the words of a blank slot, as a record
unfoldable pub blank_record : Record
blank_record = record { p = no_number; v = no_number; c = no_number; np = no_number; nv = no_number }

-- "slot i below P holds (i, 0, 0, i, 0)"
unfoldable pub formatted_record : ℕ → Record
formatted_record i = record { p = i; v = 0; c = 0; np = i; nv = 0 }

-- "the planned record has v = used of p, c = committed of p, np = next, nv = used of np"
unfoldable pub planned_record : (page used committed next used_of_next : ℕ) → Record
planned_record page used committed next used_of_next = record { p = page; v = used; c = committed; np = next; nv = used_of_next }

-- A record "is sound if p and np are below P, v, c and nv are at most 4,294,967,294, c is below v (or both are 0), and nv equals v where np equals p."
unfoldable pub record_sound : ℕ → Record → Bool
record_sound P r =
    ltb r.p P
    && (ltb r.np P
    && (leb r.v highest_version
    && (leb r.c highest_version
    && (leb r.nv highest_version
    && ((ltb r.c r.v || (eqb r.c 0 && eqb r.v 0))
    && (not (eqb r.np r.p) || eqb r.nv r.v))))))

-- a slot is blank or holds a sound record
unfoldable pub slot_sound : ℕ → Slot → Bool
slot_sound P None = true
slot_sound P (Some r) = record_sound P r

unfoldable pub is_blank : Slot → Bool
is_blank None = true
is_blank (Some r) = false

-- the slot holds a record that passes
unfoldable pub holds : (Record → Bool) → Slot → Bool
holds f None = false
holds f (Some r) = f r

-- some record in the S slots of the table t passes
unfoldable pub some_record : ℕ → (ℕ → Slot) → (Record → Bool) → Bool
some_record S t f = some_below S (λ k. holds f (t k))

-- "K straddles I's link if K.p = I.np and K.c < I.nv < K.v."
unfoldable pub straddles : (K I : Record) → Bool
straddles K I = eqb K.p I.np && (ltb K.c I.nv && ltb I.nv K.v)
