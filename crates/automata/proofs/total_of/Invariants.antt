use Rattle.std.proofs.Common.{◌≡◌, ◌+◌, ◌-◌, ◌^◌, ◌<◌, min, drop}
use Rattle.automata.specs.Reading.{total}
use Rattle.automata.proofs.total_of.Given as goal

-- the sum and the total of what is left give the total of the whole
abbrev pub invariant-loop-duty : goal.invariant-loop-duty
invariant-loop-duty g l =
    (l.sum < 2 ^ 64)
    × (min (l.sum + total (g.C.CounterAutomaton.meaning l.automaton) l.state (drop l.duty-index l.duties)) (2 ^ 64 - 1)
    ≡ min (total (g.C.CounterAutomaton.meaning l.automaton) 0 l.duties) (2 ^ 64 - 1))
