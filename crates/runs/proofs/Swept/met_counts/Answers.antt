use Rattle.std.proofs.Common.{◌≡◌, ℕ, ◌<◌, Decides, subst, arith}
use Rattle.masks.specs.Bit.{has}
use Rattle.runs.specs.Codes.{MetAtEnd}
use Rattle.runs.proofs.Spans.{decides_same, or_decided}
use Rattle.runs.proofs.Judged.{count_met}
use Rattle.runs.proofs.Swept.met_counts.Goals as goal

pub loop-state-preserved : goal.loop-state-preserved
loop-state-preserved g c k h =
    let a = g.C.CounterAutomaton.meaning c.args.self.now.automaton.now in
    let s = c.args.self.now in
    or_decided (λ (q : ℕ). MetAtEnd s.sense a s.masks.now q k) c.loop-state.met c.met_at_end-met.result c.loop-state.state k (c.loop-state.invariant k h) (c.met_at_end-met.ensures k h)

pub returns : goal.returns
returns g c k h =
    let a = g.C.CounterAutomaton.meaning c.args.self.now.automaton.now in
    let lawful = g.C.CounterAutomaton.lawful c.args.self.now.automaton.now in
    let s = c.args.self.now in
    let all : c.loop-state.state ≡ a.states = omega (arith, c.states-state-end.ensures, c.loop-state-test.false, c.loop-state.auto.state-end) in
    let met : Decides (has c.loop-state.met k) ((q : ℕ) × (q < a.states) × MetAtEnd s.sense a s.masks.now q k) =
    subst (λ (n : ℕ). Decides (has c.loop-state.met k) ((q : ℕ) × (q < n) × MetAtEnd s.sense a s.masks.now q k)) all (c.loop-state.invariant k h) in
    decides_same c.loop-state.met k met (count_met a lawful s.masks.now s.sense k)
