use Rattle.std.proofs.Common.{get_or}
use Rattle.runs.specs.Stays.{duty_stays}
use Rattle.runs.proofs.Listed.{Sifted}
use Rattle.runs.proofs.Swept.kept_duties.Given as goal

-- of the duties looked at, those that stay are kept
abbrev pub invariant-loop-duty : goal.invariant-loop-duty
invariant-loop-duty g l =
    (goal.iterator-loop-duty g).can_next l.duty-iterator
    × (goal.iterator-loop-duty g).is_finite l.duty-iterator
    × Sifted (get_or l.self.masks.now l.place 0) (duty_stays (g.C.CounterAutomaton.meaning l.self.automaton.now) l.self.masks.now l.self.sense l.tally l.place) l.duty-iterator.rest l.staying
