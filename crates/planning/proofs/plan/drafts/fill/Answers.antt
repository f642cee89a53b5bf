use Rattle.std.proofs.Common.{arith, ap, ◌∙◌, replicate}
use Rattle.std.proofs.lemmas.List.{places}
use Rattle.planning.proofs.Ranges.{range_filled}
use Rattle.planning.proofs.plan.drafts.fill.Goals as goal

pub returns : goal.returns
returns c = range_filled c.args.first c.args.number c.args.mask _ c.args.cells.now c.fill.new.self (omega arith) (omega arith) (c.fill.ensures.after (λ y k. k) ∙ ap (λ n. replicate n c.args.mask) (grind (arith, places)))
