use Rattle.histories.proofs.Logs.{called}
use Rattle.planning.specs.Views.{shown}
use Rattle.planning.proofs.Asking.{no_cell, cell_held}
use Rattle.planning.proofs.plan.Held.cell.Goals as goal

pub returns-then-cell-lt192 : goal.returns-then-cell-lt192
returns-then-cell-lt192 g c below w = called _ (g.F.Family.lawful c.args.self.now.family) _ _ _ _ (cell_held _ (shown c.args.self.now below) c.args.cell w c.if-cell-lt192.true)

pub returns-else-cell-lt192 : goal.returns-else-cell-lt192
returns-else-cell-lt192 g c below w = called _ (g.F.Family.lawful c.args.self.now.family) _ _ _ _ (no_cell _ (shown c.args.self.now below) c.args.cell w c.if-cell-lt192.false)
