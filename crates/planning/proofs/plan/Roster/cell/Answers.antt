use Rattle.std.proofs.Common.{[]}
use Rattle.planning.proofs.plan.Roster.cell.Goals as goal

pub returns : goal.returns
returns g c w = c.cell.ensures [] w
