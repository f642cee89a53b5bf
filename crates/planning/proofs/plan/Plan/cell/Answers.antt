use Rattle.planning.specs.Views.{view}
use Rattle.planning.proofs.plan.Plan.cell.Goals as goal

pub returns : goal.returns
returns g c w = c.cell.ensures (view c.args.self.now).below w
