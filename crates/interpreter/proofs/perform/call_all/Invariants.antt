use Rattle.std.proofs.Common.{◌≡◌, ℕ, ◌≤◌, length, get_or, take}
use Rattle.interpreter.specs.declared.file.Told.{Told}
use Rattle.planning.specs.Views.{view}
use Rattle.posting.specs.Families.{rules_meaning}
use Rattle.interpreter.specs.Performing.{Makes}
use Rattle.interpreter.proofs.perform.call_all.Given as goal

abbrev pub invariant-loop-i : goal.invariant-loop-i
invariant-loop-i l =
    (l.plan.size ≡ l.initial.plan.size)
    × (l.plan.plan.held.family ≡ l.initial.plan.plan.held.family)
    × Makes (rules_meaning l.initial.plan.plan.held.family) l.initial.plan.size.cells (length l.initial.workspace) (view l.initial.plan.plan) (take l.i l.calls) (take l.i l.told) (view l.plan.plan)
    × ((k : ℕ) (d : Told) → l.i ≤ k → get_or l.told k d ≡ get_or l.initial.told k d)
