use Rattle.planning.specs.Views.{view}
use Rattle.planning.proofs.plan.Plan.tally.Goals as goal

pub returns : goal.returns
returns g c w = c.tally.ensures (view c.args.self.now).below w
