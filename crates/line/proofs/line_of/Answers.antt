use borrow.Author.Tests.{lt-ltb, le-ltb}
use Rattle.text.specs.Scan.{bytes}
use Rattle.text.specs.ScanLaws.{stripped, not_stripped}
use Rattle.line.specs.Line.{said, line_means, call_means, launch_means, erase_means, on_text, on_numbers}
use Rattle.line.proofs.line_of.Goals as goal

pub returns-then-line-gt512 : goal.returns-then-line-gt512
unfolding line_means
returns-then-line-gt512 c = rw (lt-ltb _ _ c.if-line-gt512.true)

pub returns-in-Some : goal.returns-in-Some
unfolding bytes said line_means call_means launch_means erase_means on_text on_numbers
returns-in-Some c = let line = c.args.line.now in
    rw (
      le-ltb _ _ c.if-line-gt512.false,
      stripped (bytes "op=format pages=") line c.in-Some.ensures.cases,
    )
    (c.format_of.ensures _)

pub returns-in_err-count : goal.returns-in_err-count
unfolding bytes said line_means call_means launch_means erase_means on_text on_numbers
returns-in_err-count c = let line = c.args.line.now in
    rw (
      le-ltb _ _ c.if-line-gt512.false,
      not_stripped (bytes "op=format pages=") line c.in_default.ensures.cases,
      stripped (bytes "op=launch pages=") line c.in-Some-strip_prefix.ensures.cases,
      c.from_residual.ensures,
      ← c.in_err-count.ensures,
    )

pub returns-in-Some-strip_prefix : goal.returns-in-Some-strip_prefix
unfolding bytes said line_means call_means launch_means erase_means on_text on_numbers
returns-in-Some-strip_prefix c = let line = c.args.line.now in
    rw (
      le-ltb _ _ c.if-line-gt512.false,
      not_stripped (bytes "op=format pages=") line c.in_default.ensures.cases,
      stripped (bytes "op=launch pages=") line c.in-Some-strip_prefix.ensures.cases,
      ← c.in_ok-count.ensures,
    )

pub returns-in-Some-strip_prefix-2 : goal.returns-in-Some-strip_prefix-2
unfolding bytes said line_means call_means launch_means erase_means on_text on_numbers
returns-in-Some-strip_prefix-2 c = let line = c.args.line.now in
    rw (
      le-ltb _ _ c.if-line-gt512.false,
      not_stripped (bytes "op=format pages=") line c.in_default.ensures.cases,
      not_stripped (bytes "op=launch pages=") line c.in_default-strip_prefix.ensures.cases,
      stripped (bytes "op=write page=") line c.in-Some-strip_prefix-2.ensures.cases,
    )
    (c.write_of.ensures _)

pub returns-in-Some-strip_prefix-3 : goal.returns-in-Some-strip_prefix-3
unfolding bytes said line_means call_means launch_means erase_means on_text on_numbers
returns-in-Some-strip_prefix-3 c = let line = c.args.line.now in
    rw (
      le-ltb _ _ c.if-line-gt512.false,
      not_stripped (bytes "op=format pages=") line c.in_default.ensures.cases,
      not_stripped (bytes "op=launch pages=") line c.in_default-strip_prefix.ensures.cases,
      not_stripped (bytes "op=write page=") line c.in_default-strip_prefix-2.ensures.cases,
      stripped (bytes "op=withdraw page=") line c.in-Some-strip_prefix-3.ensures.cases,
    )
    (c.withdraw_of.ensures _)

pub returns-in_err-count-2 : goal.returns-in_err-count-2
unfolding bytes said line_means call_means launch_means erase_means on_text on_numbers
returns-in_err-count-2 c = let line = c.args.line.now in
    rw (
      le-ltb _ _ c.if-line-gt512.false,
      not_stripped (bytes "op=format pages=") line c.in_default.ensures.cases,
      not_stripped (bytes "op=launch pages=") line c.in_default-strip_prefix.ensures.cases,
      not_stripped (bytes "op=write page=") line c.in_default-strip_prefix-2.ensures.cases,
      not_stripped (bytes "op=withdraw page=") line c.in_default-strip_prefix-3.ensures.cases,
      stripped (bytes "op=erase slots=") line c.in-Some-strip_prefix-4.ensures.cases,
      c.from_residual-in_err-count-2.ensures,
      ← c.in_err-count-2.ensures,
    )

pub returns-in-Some-strip_prefix-4 : goal.returns-in-Some-strip_prefix-4
unfolding bytes said line_means call_means launch_means erase_means on_text on_numbers
returns-in-Some-strip_prefix-4 c = let line = c.args.line.now in
    rw (
      le-ltb _ _ c.if-line-gt512.false,
      not_stripped (bytes "op=format pages=") line c.in_default.ensures.cases,
      not_stripped (bytes "op=launch pages=") line c.in_default-strip_prefix.ensures.cases,
      not_stripped (bytes "op=write page=") line c.in_default-strip_prefix-2.ensures.cases,
      not_stripped (bytes "op=withdraw page=") line c.in_default-strip_prefix-3.ensures.cases,
      stripped (bytes "op=erase slots=") line c.in-Some-strip_prefix-4.ensures.cases,
      ← c.in_ok-count-2.ensures,
    )

pub returns : goal.returns
unfolding bytes said line_means call_means launch_means erase_means on_text on_numbers
returns c = let line = c.args.line.now in
    rw (
      le-ltb _ _ c.if-line-gt512.false,
      not_stripped (bytes "op=format pages=") line c.in_default.ensures.cases,
      not_stripped (bytes "op=launch pages=") line c.in_default-strip_prefix.ensures.cases,
      not_stripped (bytes "op=write page=") line c.in_default-strip_prefix-2.ensures.cases,
      not_stripped (bytes "op=withdraw page=") line c.in_default-strip_prefix-3.ensures.cases,
      not_stripped (bytes "op=erase slots=") line c.in_default-strip_prefix-4.ensures.cases,
    )
    (c.plain.ensures _)
