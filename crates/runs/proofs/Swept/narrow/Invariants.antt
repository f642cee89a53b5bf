use Rattle.std.proofs.Common.{◌≡◌, ◌*◌, ◌≤◌, take, vec_items}
use Rattle.families.specs.Masks.{values_lost}
use Rattle.runs.specs.Run.{put, kept}
use Rattle.runs.proofs.Swept.narrow.Given as goal

-- the first cells have what stays, and what went is counted
abbrev pub invariant-loop-i : goal.invariant-loop-i
invariant-loop-i g l =
    (l.cells ≡ put (take l.i (vec_items l.row.cells)) (kept (g.C.CounterAutomaton.meaning l.self.automaton.now) l.self.sense l.tally l.self.masks.now) l.initial.cells)
    × (l.removed ≡ values_lost l.initial.cells l.cells)
    × (l.removed ≤ 64 * l.i)
