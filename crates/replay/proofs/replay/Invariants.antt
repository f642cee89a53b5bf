use Rattle.std.proofs.Common.{◌≡◌, ℕ, ◌<◌, ◌≤◌, map, length, get_or, take}
use Rattle.families.specs.Meaning.{workspace_needed}
use Rattle.histories.specs.Calls.{Answer}
use Rattle.histories.specs.Plans.{Ran}
use Rattle.planning.specs.Views.{view}
use Rattle.replay.specs.Requests.{call_of, answer_of}
use Rattle.replay.proofs.replay.Given as goal

abbrev pub invariant-loop-i : goal.invariant-loop-i
invariant-loop-i g l =
    (l.plan.held.family ≡ l.initial.plan.held.family)
    × Ran (g.F.Family.meaning l.initial.plan.held.family) (view l.initial.plan) (map (call_of (length l.initial.workspace)) (take l.i l.calls)) (map answer_of (take l.i l.answers)) (view l.plan)
    × (length l.initial.workspace < workspace_needed → l.workspace ≡ l.initial.workspace)
    × ((k : ℕ) (d : Answer) → l.i ≤ k → get_or (map answer_of l.answers) k d ≡ get_or (map answer_of l.initial.answers) k d)
