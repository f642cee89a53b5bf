use Rattle.std.proofs.Common.{ℕ, ◌<◌}
use Rattle.rules.specs.Rows.{StoodBefore}
use Rattle.rules.proofs.first_repeat.Given as goal

abbrev pub invariant-loop-i : goal.invariant-loop-i
invariant-loop-i l = (k : ℕ) → k < l.i → StoodBefore l.cells k → ⊥
