use Rattle.settling.proofs.Spots.{lowest_named}
use Rattle.settling.proofs.empty_spot.Goals as goal

pub returns : goal.returns
returns c = rw c.or.ensures (lowest_named _ _ c.empty_cell.result c.map.result c.empty_tally.result c.empty_cell.ensures c.map.ensures.cases c.empty_tally.ensures)
