-- What is shown of doubtful, document 02, wish 11, stated.
use Rattle.std.specs.Prelude.{ℕ, suc, ◌+◌, ◌*◌, ◌<◌, ◌≤◌, ◌^◌, ◌≡◌, List, [], ◌∷◌, ◌⊎◌, Bool, true, false, cond, ltb, length, get_or}
use Rattle.bounded.specs.Limits.{Widths}
use Rattle.bounded.specs.Parts.{join_parts}
use Rattle.outcome.specs.Outcome.{Outcome}
use Rattle.sizes.specs.declared.Sizes.{Sizes}
use Rattle.sizes.specs.Sizes.{listed}
use Rattle.std.specs.Prelude.{None}
use Rattle.record.specs.Slot.{slot_at, bytes_at}
use Rattle.record.specs.Flash.{Flash}
use Rattle.state.specs.State.{state_at}
use Rattle.table.specs.Table.{table_sound}
use Rattle.rules.specs.Recover.{recover_outcome}
use Rattle.upkeep.specs.Doubtful.{absent_in, filled_with, doubtful_list_ok, doubtful_fits, doubtful_outcome}

-- ---- fillings

-- those of the list that pass
unfoldable pub passing : (ℕ → Bool) → List ℕ → List ℕ
passing q [] = []
passing q (k ∷ slots) = cond (q k) (k ∷ passing q slots) (passing q slots)

-- The fillings, numbered, are all ways to leave listed slots blank, each once: whichever are chosen, a number below 2^d, and no other below it, leaves just those.
pub record EachFilling (slots : List ℕ) : Type 0 where
  pub each : (q : ℕ → Bool) → (m : ℕ) × (m < 2 ^ length slots) × (absent_in slots m ≡ passing q slots)
  pub chosen : (m : ℕ) → (q : ℕ → Bool) × (absent_in slots m ≡ passing q slots)
  pub once : (m n : ℕ) → m < 2 ^ length slots → n < 2 ^ length slots → absent_in slots m ≡ absent_in slots n → m ≡ n

-- In a filling the chosen slots are blank, and every other slot is as it was.
pub record Fills (sizes : Sizes) (f : Flash) (slots : List ℕ) (q : ℕ → Bool) (k : ℕ) : Type 0 where
  pub absent : listed slots k ≡ true → q k ≡ true → slot_at (filled_with sizes.width f (passing q slots)).words k ≡ None
  pub present :
      (listed slots k ≡ false) ⊎ (q k ≡ false)
      → (slot_at (filled_with sizes.width f (passing q slots)).words k ≡ slot_at f.words k)
      × (bytes_at sizes.width (filled_with sizes.width f (passing q slots)).contents k ≡ bytes_at sizes.width f.contents k)

-- both, of every flash and list that no length or entry is wrong of
abbrev pub Fillings : Type 0
Fillings =
    (widths : Widths) (sizes : Sizes) (f : Flash) (slots out : List ℕ)
    → doubtful_fits widths sizes f out ≡ true
    → doubtful_list_ok sizes.slots f.words slots ≡ true
    → EachFilling slots × ((q : ℕ → Bool) (k : ℕ) → k < sizes.slots → Fills sizes f slots q k)

-- ---- the two ends, and the number

-- recovery is lent any sheet, of the right length
module _ (widths : Widths) (sizes : Sizes) (f : Flash) (slots state : List ℕ) where
  -- the recovery of the filling in which the listed slots that pass are blank
  abbrev pub filled_recovery : (q : ℕ → Bool) → Outcome (List ℕ)
  filled_recovery q = recover_outcome widths sizes (record { flash = filled_with sizes.width f (passing q slots); state = state })

  -- it succeeds, and page p's committed version is this
  pub record Commits (q : ℕ → Bool) (p version : ℕ) : Type 0 where
    pub succeeds : (filled_recovery q).answer ≡ 0
    pub commits : (state_at (filled_recovery q).left p).committed ≡ version

  -- "Each end is reached by some filling", and every filling whose recovery succeeds lies between
  pub record Between (p low high : ℕ) : Type 0 where
    pub low_reached : (q : ℕ → Bool) × Commits q p low
    pub high_reached : (q : ℕ → Bool) × Commits q p high
    pub between : (q : ℕ → Bool) (version : ℕ) → Commits q p version → (low ≤ version) × (version ≤ high)

  -- "the number of those fillings": they can be told over, each once, and so many they are
  pub record Counts (number : ℕ) : Type 0 where
    pub nth : ℕ → ℕ → Bool
    pub succeed : (i : ℕ) → i < number → (filled_recovery (nth i)).answer ≡ 0
    pub apart : (i j : ℕ) → i < number → j < number → passing (nth i) slots ≡ passing (nth j) slots → i ≡ j
    pub all : (q : ℕ → Bool) → (filled_recovery q).answer ≡ 0 → (i : ℕ) × (i < number) × (passing (nth i) slots ≡ passing q slots)

-- of the number and the words that every call that answers 0 returns, of any flash and list and with any widths allowed
abbrev pub Doubted : Type 0
Doubted =
    (widths : Widths) (sizes : Sizes) (f : Flash) (slots out state : List ℕ)
    → length state ≡ 4 * sizes.pages
    → let o = doubtful_outcome widths sizes f slots out in
    o.answer ≡ 0
    → (o.second ≤ 2 ^ length slots)
    × Counts widths sizes f slots state o.second
    × (length o.left ≡ 2 * sizes.pages)
    × ((p : ℕ) → p < sizes.pages → Between widths sizes f slots state p (get_or o.left (2 * p) 0) (get_or o.left (2 * p + 1) 0))

-- "20, no filling recovers": where 1, 2, 6 and 19 do not hold, the answer is 20 exactly then, and else 0
abbrev pub NoneRecovers : Type 0
NoneRecovers =
    (widths : Widths) (sizes : Sizes) (f : Flash) (slots out state : List ℕ)
    → length state ≡ 4 * sizes.pages
    → doubtful_fits widths sizes f out ≡ true
    → table_sound sizes.pages sizes.slots (slot_at f.words) ≡ true
    → doubtful_list_ok sizes.slots f.words slots ≡ true
    → length slots ≤ 8
    → let answer = (doubtful_outcome widths sizes f slots out).answer in
    ((answer ≡ 20) × ((q : ℕ → Bool) → ¬ ((filled_recovery widths sizes f slots state q).answer ≡ 0)))
    ⊎ ((answer ≡ 0) × ((q : ℕ → Bool) × ((filled_recovery widths sizes f slots state q).answer ≡ 0)))

-- ---- no slot in doubt

-- "An empty list gives recovery's own versions": where recovery succeeds, by whatever sheet, there is one filling, and both ends are the version that it commits; where it refuses by 1 or 2 so does this, and else by 20
pub record EmptyList (widths : Widths) (sizes : Sizes) (f : Flash) (state out : List ℕ) : Type 0 where
  pub recovered :
      (recover_outcome widths sizes (record { flash = f; state = state })).answer ≡ 0
      → let version : ℕ → ℕ = λ p. (state_at (recover_outcome widths sizes (record { flash = f; state = state })).left p).committed in
      doubtful_outcome widths sizes f [] out ≡ record { answer = 0; second = 1; left = join_parts sizes.pages (λ p. version p ∷ version p ∷ []) }
  pub refused :
      (n : ℕ)
      → (recover_outcome widths sizes (record { flash = f; state = state })).answer ≡ suc n
      → doubtful_outcome widths sizes f [] out ≡ record { answer = cond (ltb n 2) (suc n) 20; second = 0; left = out }

abbrev pub EmptyListRecovers : Type 0
EmptyListRecovers =
    (widths : Widths) (sizes : Sizes) (f : Flash) (state out : List ℕ)
    → length state ≡ 4 * sizes.pages
    → length out ≡ 2 * sizes.pages
    → EmptyList widths sizes f state out
