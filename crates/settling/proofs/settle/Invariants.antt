use Rattle.std.proofs.Common.{◌≡◌, ℕ, ◌+◌, ◌-◌, ◌*◌, ◌<◌, ◌≤◌, get_or}
use Rattle.settling.specs.Masks.{of, Sized}
use Rattle.settling.proofs.Order.{room}
use Rattle.settling.proofs.Halfway.{Carries}
use Rattle.settling.proofs.settle.Given as goal

abbrev pub invariant-loop-rule : goal.invariant-loop-rule
invariant-loop-rule g l =
    Carries (g.F.Family.meaning l.family) l.rule (l.removed - l.before) (of l.masks) (of l.initial.masks) l.rule (l.removed - l.before)
    × (l.before ≤ l.removed)
    × (l.runs ≡ l.initial.runs + l.rule)
    × (room (of l.masks) + l.removed ≡ room (of l.initial.masks) + l.before)
    × Sized (of l.masks)
    × (0 < l.runs → (j : ℕ) → j < 192 → 0 < get_or l.masks.cells j 0)

abbrev pub invariant-rounds : goal.invariant-rounds
invariant-rounds g l =
    Carries (g.F.Family.meaning l.family) 0 0 (of l.masks) (of l.initial.masks) l.runs l.removed
    × (l.runs ≤ l.count * l.removed)
    × (room (of l.masks) + l.removed ≡ room (of l.initial.masks))
    × Sized (of l.masks)
    × (0 < l.runs → (j : ℕ) → j < 192 → 0 < get_or l.masks.cells j 0)
    × Sized (of l.initial.masks)

abbrev pub decreases-rounds : goal.decreases-rounds
decreases-rounds g l = room (of l.masks)
