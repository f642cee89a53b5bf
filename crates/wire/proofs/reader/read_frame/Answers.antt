use Rattle.std.proofs.Common.{arith, rules}
use Rattle.std.proofs.lemmas.List.{take_rest}
use Rattle.std.proofs.lemmas.Result.{err_from_is_err_and}
use Rattle.wire.specs.Reading.{no_kind, out_of_order, body}
use Rattle.wire.proofs.reader.read_frame.Goals as goal

pub returns-in_default : goal.returns-in_default
returns-in_default c = no_kind (λ k b. omega (arith, b.some))

pub returns-in_err-kind : goal.returns-in_err-kind
returns-in_err-kind c =
    let p = err_from_is_err_and c.from_residual.result c.from_residual.ensures.1 in
    rw (p.1, p.2, c.in_err-kind.ensures.1) (no_kind (λ k b. c.in_err-kind.ensures.0 k b.first))

pub returns-in_err-after : goal.returns-in_err-after
returns-in_err-after c =
    let p = err_from_is_err_and c.from_residual-in_err-after.result c.from_residual-in_err-after.ensures.1 in
    rw (p.1, p.2, c.in_err-after.ensures.1) (out_of_order c.in_ok-kind.kind (search rules) c.in_err-after.ensures.0)

pub returns-in_err-frame : goal.returns-in_err-frame
returns-in_err-frame c =
    let p = err_from_is_err_and c.from_residual-in_err-frame.result c.from_residual-in_err-frame.ensures.1 in
    rw (p.1, p.2)
    (body c.in_ok-kind.kind c.in_ok-after.after (search rules) c.in_ok-after.ensures c.in_err-frame.field-0.0 (rw take_rest at c.in_err-frame.ensures))
