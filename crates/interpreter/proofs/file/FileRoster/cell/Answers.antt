use Rattle.std.proofs.Common.{refl, sym, ap, ◌∙◌, arith}
use Rattle.std.specs.Result.{is_ok}
use Rattle.interpreter.proofs.Asking.{cell_answer}
use Rattle.interpreter.proofs.file.FileRoster.cell.Goals as goal

pub unwrap-mask-requires : goal.unwrap-mask-requires
unwrap-mask-requires c = ap is_ok (cell_answer _ _ c.args.cell 0 c.cell.result (omega (arith, c.args.self.now.size.within)) (c.cell.ensures 0).step)

pub returns : goal.returns
returns c =
    let answer = cell_answer _ _ c.args.cell 0 c.cell.result (omega (arith, c.args.self.now.size.within)) (c.cell.ensures 0).step in
    (omega arith, refl, cc (sym c.unwrap-mask.ensures ∙ answer))
