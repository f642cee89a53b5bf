use Rattle.planning.specs.Views.{view}
use Rattle.planning.proofs.plan.Plan.figures.Goals as goal

pub returns-clause-called : goal.returns-clause-called
returns-clause-called g c = c.figures.ensures.called (view c.args.self.now).below
