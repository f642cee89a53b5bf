use Rattle.std.proofs.Common.{◌∙◌}
use Rattle.std.proofs.lemmas.Result.{err_from_is_err_and}
use Rattle.wire.specs.Reading.{by_text, by_frame}
use Rattle.wire.proofs.reader.read_line.Goals as goal

pub returns-in_err-decode : goal.returns-in_err-decode
returns-in_err-decode c =
    let p = err_from_is_err_and c.from_residual.result c.from_residual.ensures.1 in
    rw (p.1, p.2) (by_text c.in_err-decode.field-0.0 c.in_err-decode.ensures)

pub returns-in_err-read : goal.returns-in_err-read
returns-in_err-read c =
    let p = err_from_is_err_and c.from_residual-in_err-read.result c.from_residual-in_err-read.ensures.1 in
    let spelt = c.in_ok-decode.ensures in
    rw (p.1, p.2) (by_frame spelt.0 c.in_err-read.field-0.0 (rw (c.bytes.ensures ∙ spelt.1) at c.in_err-read.ensures))
