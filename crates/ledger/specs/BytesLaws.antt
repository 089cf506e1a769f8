-- Laws of a ledger whose fills are bytes: they are bytes behind a byte that is entered, and behind every call.
use Rattle.std.specs.Prelude.{ℕ, zero, suc, ◌<◌, refl, List, Bool, true, false, not, ◌&&◌, cond, eqb, length, get_or, set}
use Rattle.std.proofs.Math.Seq.{get_or-set_same, get_or-set_other, set_out}
use Rattle.bounded.specs.Limits.{no_number}
use Rattle.bounded.specs.Choice.{on_lt, on_eq, on_test}
use Rattle.bounded.specs.Entries.{stored}
use Rattle.state.specs.declared.PageState.{PageState}
use Rattle.state.specs.State.{in_flight}
use Rattle.ledger.specs.Ledger.{entered_then, kept_then, settled_entered, settled_kept}
use Rattle.ledger.specs.Bytes.{IsByte, IsByteOrNone, KeptBytes, EnteredBytes}

-- ---- what all entries of a list have, they have with one stored, and with many

module _ (P : ℕ → Type 0) where
  set_each : (l : List ℕ) (n x : ℕ) → ((i : ℕ) → P (get_or l i 0)) → P x → (i : ℕ) → P (get_or (set l n x) i 0)
  set_each l n x each own i =
      on_lt n (length l)
      (λ inside. on_eq i n (λ e. rw (e, get_or-set_same l n x 0 inside) own) (λ d. rw (get_or-set_other l n i x 0 d) (each i)))
      (λ outside. rw (set_out l n x outside) (each i))

  stored_each : (f : ℕ → ℕ) (l : List ℕ) → ((i : ℕ) → P (f i)) → ((i : ℕ) → P (get_or l i 0)) → (n : ℕ) (i : ℕ) → P (get_or (stored f n l) i 0)
  unfolding stored
  stored_each f l own each zero i = each i
  stored_each f l own each (suc n) i = set_each (stored f n l) n (f n) (stored_each f l own each n) (own n) i

-- ---- one page: what is entered then, and what is kept then

entered_byte : (s : PageState) (e : ℕ) → IsByteOrNone e → IsByteOrNone (entered_then s e)
unfolding entered_then
entered_byte s e byte = on_test (in_flight s) (λ y. rw y byte) (λ n. rw n (λ z. absurd (z refl)))

kept_byte : (done : Bool) (s : PageState) (e k : ℕ) → IsByteOrNone e → IsByte k → IsByte (kept_then done s e k)
unfolding kept_then
kept_byte done s e k e_byte k_byte =
    on_eq e no_number
    (λ none. rw none (by done (in_flight s)))
    (λ some. on_test (done && (not (in_flight s) && not (eqb e no_number))) (λ y. rw y (e_byte some)) (λ n. rw n k_byte))
  where
    by : (done flies : Bool) → IsByte (cond (done && (not flies && not (eqb no_number no_number))) no_number k)
    by false flies = k_byte
    by true true = k_byte
    by true false = k_byte

-- ---- all pages

-- where a byte is entered
pub bytes_entered : (entered : List ℕ) (page fill : ℕ) → EnteredBytes entered → fill < 256 → EnteredBytes (set entered page fill)
bytes_entered entered page fill each byte = set_each IsByteOrNone entered page fill each (λ _. byte)

-- what is entered behind a call
pub bytes_settled : (P : ℕ) (st : ℕ → PageState) (entered : List ℕ) → EnteredBytes entered → EnteredBytes (settled_entered P st entered)
unfolding settled_entered
bytes_settled P st entered each = stored_each IsByteOrNone _ entered (λ p. entered_byte (st p) (get_or entered p 0) (each p)) each P

-- what is kept behind it
pub bytes_kept :
    (P : ℕ) (done : Bool) (st : ℕ → PageState) (entered kept : List ℕ) → EnteredBytes entered → KeptBytes kept → KeptBytes (settled_kept P done st entered kept)
unfolding settled_kept
bytes_kept P done st entered kept each own =
    stored_each IsByte _ kept (λ p. kept_byte done (st p) (get_or entered p 0) (get_or kept p 0) (each p) (own p)) own P
