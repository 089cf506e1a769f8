-- Laws of the fills entered for pages.
use Rattle.std.specs.Prelude.{ℕ, zero, suc, ◌+◌, ◌≤◌, ◌<◌, ◌≡◌, refl, List, ◌∷◌, Option, None, Some, Bool, true, false, not, ◌&&◌, cond, eqb, length, get_or, set, replicate}
use Rattle.std.specs.Option.{unwrap_or}
use Rattle.std.proofs.Common.{arith, sym, ap, ◌∙◌}
use borrow.Author.Tests.{ne_eqb}
use Rattle.bounded.specs.Limits.{no_number}
use Rattle.std.proofs.lemmas.List.{map-set, length-map, get_or-map}
use Rattle.state.specs.declared.PageState.{PageState}
use Rattle.state.specs.State.{in_flight}
use Rattle.ledger.specs.Ledger.{entered_then, kept_then, settled_entered, settled_kept}
use Rattle.ledger.specs.LedgerLaws.{entered_more, kept_more}
use Rattle.ledger.specs.Fills.{fill_of, fills_of}

-- as many as there are pages
pub fills_length : (entered : List (Option ℕ)) → length (fills_of entered) ≡ length entered
unfolding fills_of
fills_length entered = length-map entered fill_of

pub same_fills : (entered then : List (Option ℕ)) → length then ≡ length entered → length (fills_of then) ≡ length (fills_of entered)
same_fills entered then e = fills_length then ∙ e ∙ sym (fills_length entered)

pub fills_same : (entered then : List (Option ℕ)) → length (fills_of then) ≡ length (fills_of entered) → length then ≡ length entered
fills_same entered then e = sym (fills_length then) ∙ e ∙ fills_length entered

-- room for as many
pub fills_room : (n : ℕ) (entered : List (Option ℕ)) → n ≤ length (fills_of entered) → n ≤ length entered
fills_room n entered h = rw (fills_length entered) at h

-- a page's
pub fills_at : (entered : List (Option ℕ)) (p : ℕ) (d : Option ℕ) → p < length entered → get_or (fills_of entered) p 0 ≡ fill_of (get_or entered p d)
unfolding fills_of
fills_at entered p d h = get_or-map fill_of entered p d 0 h

-- one stored
pub fills_set : (entered : List (Option ℕ)) (p : ℕ) (e : Option ℕ) → fills_of (set entered p e) ≡ set (fills_of entered) p (fill_of e)
unfolding fills_of
fills_set entered p e = map-set fill_of entered p e

-- a byte is no no_number, so that what is entered is told from nothing by its number
pub fill_or : (e : Option ℕ) (kept : ℕ) {r : ℕ} → r < 256 → r ≡ unwrap_or e kept → r ≡ cond (not (eqb (fill_of e) no_number)) (fill_of e) kept
unfolding fill_of
fill_or None kept h q = q
fill_or (Some fill) kept {r} h q = rw (ne_eqb fill no_number (λ z. omega arith)) q

-- where nothing is entered, what is kept stays
pub none_kept : (done : Bool) (s : PageState) (kept : ℕ) → kept ≡ kept_then done s no_number kept
unfolding kept_then
none_kept false s kept = refl
none_kept true s kept = by (in_flight s)
  where
    by : (flies : Bool) → kept ≡ cond (not flies && not (eqb no_number no_number)) no_number kept
    by true = refl
    by false = refl

-- nothing entered for any of n pages
pub fills_none : (n : ℕ) → fills_of (replicate n None) ≡ replicate n no_number
unfolding fills_of fill_of
fills_none zero = refl
fills_none (suc n) = ap (λ (l : List ℕ). no_number ∷ l) (fills_none n)

-- one page more is settled in both tables, by what is entered and what is kept of it then
pub page_settled :
    (st : ℕ → PageState) (done : Bool) (first first_kept : List ℕ) (entered : List (Option ℕ)) (kept : List ℕ) (P : ℕ) (d e : Option ℕ) {s : PageState} {k : ℕ}
    → P < length entered → s ≡ st P
    → fills_of entered ≡ settled_entered P st first → kept ≡ settled_kept P done st first first_kept
    → fill_of e ≡ entered_then s (fill_of (get_or entered P d)) → k ≡ kept_then done s (fill_of (get_or entered P d)) (get_or kept P 0)
    → (fills_of (set entered P e) ≡ settled_entered (P + 1) st first) × (set kept P k ≡ settled_kept (P + 1) done st first first_kept)
page_settled st done first first_kept entered kept P d e {s} {k} inside at entered_is kept_is e_is k_is =
    let fill = sym (fills_at entered P d inside) in (
      fills_set entered P e ∙ entered_more st first P at entered_is (e_is ∙ ap (entered_then s) fill),
      kept_more st first done first_kept P at entered_is kept_is (k_is ∙ ap (λ (f : ℕ). kept_then done s f (get_or kept P 0)) fill),
    )
