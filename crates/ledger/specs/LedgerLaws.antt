-- Laws of the ledger behind a call: its pages settled one by one.
use Rattle.std.specs.Prelude.{ℕ, ◌+◌, ◌≡◌, List, Bool, length, get_or, set}
use Rattle.std.proofs.Common.{arith}
use Rattle.bounded.specs.Entries.{stored_none, stored_more, stored_after, stored_length}
use Rattle.state.specs.declared.PageState.{PageState}
use Rattle.ledger.specs.Ledger.{entered_then, kept_then, settled_entered, settled_kept}

module _ (st : ℕ → PageState) (entered : List ℕ) where
  -- what is entered, with no page settled, with one more, and its length
  pub entered_none : entered ≡ settled_entered 0 st entered
  unfolding settled_entered
  entered_none = stored_none _ entered

  pub entered_length : (P : ℕ) → length (settled_entered P st entered) ≡ length entered
  unfolding settled_entered
  entered_length P = stored_length _ entered P

  -- a page that is not settled yet has what was entered for it
  pub entered_still : (P : ℕ) → get_or (settled_entered P st entered) P 0 ≡ get_or entered P 0
  unfolding settled_entered
  entered_still P = stored_after _ entered P P (omega arith)

  entered_last : (P : ℕ) → set (settled_entered P st entered) P (entered_then (st P) (get_or entered P 0)) ≡ settled_entered (P + 1) st entered
  unfolding settled_entered
  entered_last P = stored_more _ entered P

  pub entered_more :
      (P : ℕ) {s : PageState} {now : List ℕ} {e : ℕ}
      → s ≡ st P → now ≡ settled_entered P st entered → e ≡ entered_then s (get_or now P 0)
      → set now P e ≡ settled_entered (P + 1) st entered
  entered_more P {s} {now} {e} hs hn he = rw (he, hs, hn, entered_still P) (entered_last P)

  module _ (done : Bool) (kept : List ℕ) where
    -- the same of what is kept
    pub kept_none : kept ≡ settled_kept 0 done st entered kept
    unfolding settled_kept
    kept_none = stored_none _ kept

    pub kept_length : (P : ℕ) → length (settled_kept P done st entered kept) ≡ length kept
    unfolding settled_kept
    kept_length P = stored_length _ kept P

    pub kept_still : (P : ℕ) → get_or (settled_kept P done st entered kept) P 0 ≡ get_or kept P 0
    unfolding settled_kept
    kept_still P = stored_after _ kept P P (omega arith)

    kept_last : (P : ℕ) → set (settled_kept P done st entered kept) P (kept_then done (st P) (get_or entered P 0) (get_or kept P 0)) ≡ settled_kept (P + 1) done st entered kept
    unfolding settled_kept
    kept_last P = stored_more _ kept P

    pub kept_more :
        (P : ℕ) {s : PageState} {now kept_now : List ℕ} {k : ℕ}
        → s ≡ st P → now ≡ settled_entered P st entered → kept_now ≡ settled_kept P done st entered kept
        → k ≡ kept_then done s (get_or now P 0) (get_or kept_now P 0)
        → set kept_now P k ≡ settled_kept (P + 1) done st entered kept
    kept_more P {s} {now} {kept_now} {k} hs hn hk he = rw (he, hs, hn, hk, entered_still P, kept_still P) (kept_last P)
