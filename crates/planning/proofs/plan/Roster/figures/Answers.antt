use Rattle.std.proofs.Common.{[]}
use Rattle.planning.proofs.plan.Roster.figures.Goals as goal

pub returns-clause-called : goal.returns-clause-called
returns-clause-called g c = c.figures.ensures.called []
