use Rattle.std.proofs.Common.{refl}
use Rattle.std.proofs.lemmas.Result.{err_from_is_err_and}
use Rattle.wire.specs.declared.order.Phase.TheVariants.{Draft}
use Rattle.interpreter.specs.Lines.{Spells, not_read}
use Rattle.interpreter.proofs.Lines.{line_refused}
use Rattle.interpreter.proofs.read.draft_line.Goals as goal

pub returns-in_err-frame : goal.returns-in_err-frame
returns-in_err-frame c =
    let p = err_from_is_err_and c.from_residual.result c.from_residual.ensures.1 in
    rw (p.1, p.2) (refl, not_read _ c.in_err-frame.ensures)

pub returns-in_err-take : goal.returns-in_err-take
returns-in_err-take c =
    let p = err_from_is_err_and c.from_residual-in_err-take.result c.from_residual-in_err-take.ensures.1 in
    let e = c.in_err-take.ensures in
    let r = c.in_ok-frame.ensures in
    let spells : Spells Draft _ _ _ = record { spelt = r.0; after = _; reads = r.1 } in
    rw (p.1, p.2) (e.0, line_refused _ _ _ _ spells _ e.1)
