use Rattle.std.proofs.Common.{◌≡◌, take, vec_items}
use Rattle.runs.specs.Run.{along}
use Rattle.runs.proofs.gather.Given as goal

abbrev pub invariant-loop-cell : goal.invariant-loop-cell
invariant-loop-cell l = l.masks.items ≡ along (take l.cell-index (vec_items l.row.cells)) l.cells
