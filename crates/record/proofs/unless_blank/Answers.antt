-- A record equals the blank one where its five words are a blank slot's.
use Rattle.std.specs.Prelude.{◌≡◌, refl, Bool, true, false, ◌&&◌, eqb}
use Rattle.std.proofs.Common.{sym, ◌∙◌}
use borrow.Author.Tests.{ne_eqb}
use Rattle.bounded.specs.Limits.{no_number}
use Rattle.bounded.specs.Below.{all_below}
use Rattle.record.specs.declared.Record.{Record}
use Rattle.record.specs.contracts.RecordPartialEq.TheImpl.{eq-value}
use Rattle.record.specs.Slot.{blank_in, encoded, words_of, all_blank, blank_record}
use Rattle.record.proofs.unless_blank.Goals as goal

five : (a b c d e : Bool) → (a && (b && (c && (d && e)))) ≡ (((((true && a) && b) && c) && d) && e)
five true true true true e = refl
five true true true false e = refl
five true true false d e = refl
five true false c d e = refl
five false b c d e = refl

tested : (r : Record) → eq-value.it r blank_record ≡ all_blank (words_of r)
unfolding blank_in all_below encoded blank_record
tested r = five (eqb r.p no_number) (eqb r.v no_number) (eqb r.c no_number) (eqb r.np no_number) (eqb r.nv no_number)

pub returns-then-record : goal.returns-then-record
unfolding blank_in all_below encoded
returns-then-record c = rw (ne_eqb c.args.record.p no_number c.if-record.true) refl

pub returns-then-eq : goal.returns-then-eq
unfolding blank_record
returns-then-eq c = rw (sym (tested c.args.record) ∙ sym c.eq.ensures ∙ c.if-eq.true) refl

pub returns : goal.returns
unfolding blank_record
returns c = rw (sym (tested c.args.record) ∙ sym c.eq.ensures ∙ c.if-eq.false) refl
