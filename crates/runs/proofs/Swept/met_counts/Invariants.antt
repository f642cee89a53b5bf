use Rattle.std.proofs.Common.{ℕ, ◌<◌, Decides}
use Rattle.masks.specs.Bit.{has}
use Rattle.runs.specs.Codes.{MetAtEnd}
use Rattle.runs.proofs.Swept.met_counts.Given as goal

-- the counts so far are those that the states so far meet
abbrev pub invariant-loop-state : goal.invariant-loop-state
invariant-loop-state g l =
    (k : ℕ) → k < 64 → Decides (has l.met k) ((q : ℕ) × (q < l.state) × MetAtEnd l.self.sense (g.C.CounterAutomaton.meaning l.self.automaton.now) l.self.masks.now q k)
