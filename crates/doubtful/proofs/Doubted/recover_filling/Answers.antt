-- What recovery gives back of the words is what it says of the filling.
use mathlib.Core.Path.{◌∙◌}
use Rattle.bounded.specs.Choice.{told}
use Rattle.doubtful.specs.Fillable.{words_in}
use Rattle.doubtful.specs.Recoveries.{filling_fails, filling_succeeds}
use Rattle.doubtful.proofs.Doubted.recover_filling.Goals as goal

pub fill-requires : goal.fill-requires
fill-requires c = record { filled_len = c.requires.filled_len; by_index = words_in _ _ _ _ c.args.self.now.fillable }

pub returns-then-is_err : goal.returns-then-is_err
returns-then-is_err c = let a = c.args in
    let w = filling_fails _ _ _ _ _ a.self.now.fillable a.m a.state.now c.fill.ensures c.requires.state_len c.recover.result _ c.recover.ensures a.first a.out.now (told c.is_err.ensures.value c.if-is_err.true) in
    record { value = w.0; out_after = w.1 }

pub returns : goal.returns
returns c = let a = c.args in
    let w = filling_succeeds _ _ _ _ _ a.self.now.fillable a.m a.state.now c.fill.ensures c.requires.state_len c.recover.result _ c.recover.ensures a.first a.out.now (told c.is_err.ensures.value c.if-is_err.false) in
    record { value = w.0; out_after = c.note.ensures ∙ w.1 }
