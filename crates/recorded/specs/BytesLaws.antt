-- Laws of a desk whose fills are bytes: a write of a byte, an erase and any other line leave bytes.
use Rattle.std.specs.Prelude.{ℕ, ◌<◌, ◌≡◌, List, Bool, false, eqb, set, replicate}
use Rattle.bounded.specs.Limits.{Widths}
use Rattle.bounded.specs.Choice.{on_test}
use Rattle.outcome.specs.Outcome.{Outcome}
use Rattle.sizes.specs.declared.Sizes.{Sizes}
use Rattle.line.specs.Line.{Said}
use Rattle.state.specs.State.{state_at}
use Rattle.rules.specs.Volume.{Volume}
use Rattle.rules.specs.Write.{write_outcome}
use Rattle.dispatch.specs.Dispatch.{line_outcome}
use Rattle.ledger.specs.Bytes.{EnteredBytes, KeptBytes}
use Rattle.ledger.specs.BytesLaws.{bytes_entered, bytes_settled, bytes_kept}
use Rattle.recorded.specs.Desk.{Desk, settled_desk, wrote_desk, write_desk, erase_desk, other_desk}
use Rattle.recorded.specs.Bytes.{InBytes}

module _ (widths : Widths) (sizes : Sizes) where
  settled_bytes : (done : Bool) (v : Volume) (entered kept : List ℕ) → EnteredBytes entered → KeptBytes kept → InBytes (settled_desk widths sizes done v entered kept)
  unfolding settled_desk
  settled_bytes done v entered kept e k = record {
    entered_bytes = bytes_settled sizes.pages (state_at v.state) entered e;
    kept_bytes = bytes_kept sizes.pages done (state_at v.state) entered kept e k;
  }

  wrote_bytes : (d : Desk) → InBytes d → (page fill : ℕ) (o : Outcome Volume) → fill < 256 → InBytes (wrote_desk widths sizes d page fill o)
  unfolding wrote_desk
  wrote_bytes d held page fill o byte =
      on_test (eqb o.answer 0)
      (λ y. rw y (settled_bytes (eqb o.second 1) o.left (set d.entered page fill) d.kept (bytes_entered d.entered page fill held.entered_bytes byte) held.kept_bytes))
      (λ n. rw n (record { entered_bytes = held.entered_bytes; kept_bytes = held.kept_bytes }))

  module _ {left : Desk} (d : Desk) where
    -- what a write leaves
    pub write_bytes : (page slot fill : ℕ) → fill < 256 → left ≡ write_desk widths sizes d page slot fill → InBytes d → InBytes left
    unfolding write_desk
    write_bytes page slot fill byte is held = rw is (wrote_bytes d held page fill (write_outcome widths sizes d.volume page slot (replicate sizes.width fill)) byte)

    -- what an erase leaves
    pub erase_bytes : (trial : Bool) (slots : List ℕ) → left ≡ erase_desk widths sizes trial d slots → InBytes d → InBytes left
    unfolding erase_desk
    erase_bytes trial slots is held = rw is (record { entered_bytes = held.entered_bytes; kept_bytes = held.kept_bytes })

    -- what any other line leaves
    pub other_bytes : (says : Said) → left ≡ other_desk widths sizes d says → InBytes d → InBytes left
    unfolding other_desk
    other_bytes says is held = rw is (settled_bytes false (line_outcome widths sizes d.volume says).left d.entered d.kept held.entered_bytes held.kept_bytes)
