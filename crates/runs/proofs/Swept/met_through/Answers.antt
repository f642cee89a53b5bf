use Rattle.std.proofs.Common.{ℕ, ◌<◌, ◌≤◌, Decides, sym, subst, arith}
use Rattle.masks.specs.Bit.{has}
use Rattle.rules.specs.declared.Sense.{Sense}
use lib.Bits.{bit_and}
use Rattle.runs.specs.Codes.{MetThrough}
use Rattle.runs.proofs.Spans.{decides_same, and_decided}
use Rattle.runs.proofs.Meeting.{needed_at, ways_long, least_through, greatest_through}
use Rattle.runs.proofs.Swept.met_through.Goals as goal

pub overflow_add-behind-2 : goal.overflow_add-behind-2
overflow_add-behind-2 g c =
    let lawful = g.C.CounterAutomaton.lawful c.args.self.now.automaton.now in
    omega (arith, lawful.next_below c.args.state c.args.duty, lawful.few, c.requires.place, c.args.self.now.few, c.step-next.ensures.next)

pub least_total-requires : goal.least_total-requires
least_total-requires g c =
    let a = g.C.CounterAutomaton.meaning c.args.self.now.automaton.now in
    let s = c.args.self.now in
    let masks = s.masks.now in
    let w = needed_at a masks s.least s.greatest c.in-AtMost.is c.args.self.now.swept in
    let long = ways_long a (g.C.CounterAutomaton.lawful c.args.self.now.automaton.now) masks c.args.place c.args.state c.args.duty c.step-next.result.0 w c.requires.place c.requires.state c.step-next.ensures.next in
    record { before = omega (arith, long.0); behind = omega (arith, long.1) }

pub greatest_total-requires : goal.greatest_total-requires
greatest_total-requires g c =
    let a = g.C.CounterAutomaton.meaning c.args.self.now.automaton.now in
    let s = c.args.self.now in
    let masks = s.masks.now in
    let w = needed_at a masks s.least s.greatest c.in-AtLeast.is c.args.self.now.swept in
    let long = ways_long a (g.C.CounterAutomaton.lawful c.args.self.now.automaton.now) masks c.args.place c.args.state c.args.duty c.step-next.result.0 w c.requires.place c.requires.state c.step-next.ensures.next in
    record { before = omega (arith, long.0); behind = omega (arith, long.1) }

pub least_total-requires-in-Exactly : goal.least_total-requires-in-Exactly
least_total-requires-in-Exactly g c =
    let a = g.C.CounterAutomaton.meaning c.args.self.now.automaton.now in
    let s = c.args.self.now in
    let masks = s.masks.now in
    let w = needed_at a masks s.least s.greatest c.in-Exactly.is c.args.self.now.swept in
    let long = ways_long a (g.C.CounterAutomaton.lawful c.args.self.now.automaton.now) masks c.args.place c.args.state c.args.duty c.step-next.result.0 w.0 c.requires.place c.requires.state c.step-next.ensures.next in
    record { before = omega (arith, long.0); behind = omega (arith, long.1) }

pub greatest_total-requires-in-Exactly : goal.greatest_total-requires-in-Exactly
greatest_total-requires-in-Exactly g c =
    let a = g.C.CounterAutomaton.meaning c.args.self.now.automaton.now in
    let s = c.args.self.now in
    let masks = s.masks.now in
    let w = needed_at a masks s.least s.greatest c.in-Exactly.is c.args.self.now.swept in
    let long = ways_long a (g.C.CounterAutomaton.lawful c.args.self.now.automaton.now) masks c.args.place c.args.state c.args.duty c.step-next.result.0 w.1 c.requires.place c.requires.state c.step-next.ensures.next in
    record { before = omega (arith, long.0); behind = omega (arith, long.1) }

pub returns-in-AtMost : goal.returns-in-AtMost
returns-in-AtMost g c k h =
    let a = g.C.CounterAutomaton.meaning c.args.self.now.automaton.now in
    let lawful = g.C.CounterAutomaton.lawful c.args.self.now.automaton.now in
    let s = c.args.self.now in
    let masks = s.masks.now in
    let is = c.in-AtMost.is in
    let r = c.counts_from.result in
    let w = needed_at a masks s.least s.greatest is c.args.self.now.swept in
    subst (λ (t : Sense). Decides (has r k) (MetThrough t a masks c.args.place c.args.state c.args.duty k)) (sym is)
    (decides_same r k (subst (λ (n : ℕ). Decides (has r k) (n ≤ k)) c.least_total.ensures (c.counts_from.ensures k h))
    (least_through a lawful masks c.args.place c.args.state c.args.duty k c.step-next.result.0 c.step-next.result.1 c.requires.place c.requires.state h c.step-next.ensures.next c.step-next.ensures.increase w))

pub returns-in-AtLeast : goal.returns-in-AtLeast
returns-in-AtLeast g c k h =
    let a = g.C.CounterAutomaton.meaning c.args.self.now.automaton.now in
    let lawful = g.C.CounterAutomaton.lawful c.args.self.now.automaton.now in
    let s = c.args.self.now in
    let masks = s.masks.now in
    let is = c.in-AtLeast.is in
    let r = c.counts_up_to.result in
    let w = needed_at a masks s.least s.greatest is c.args.self.now.swept in
    subst (λ (t : Sense). Decides (has r k) (MetThrough t a masks c.args.place c.args.state c.args.duty k)) (sym is)
    (decides_same r k (subst (λ (n : ℕ). Decides (has r k) (k < n)) c.greatest_total.ensures (c.counts_up_to.ensures k h))
    (greatest_through a lawful masks c.args.place c.args.state c.args.duty k c.step-next.result.0 c.step-next.result.1 c.requires.place c.requires.state h c.step-next.ensures.next c.step-next.ensures.increase w))

pub returns-in-Exactly : goal.returns-in-Exactly
returns-in-Exactly g c k h =
    let a = g.C.CounterAutomaton.meaning c.args.self.now.automaton.now in
    let lawful = g.C.CounterAutomaton.lawful c.args.self.now.automaton.now in
    let s = c.args.self.now in
    let masks = s.masks.now in
    let is = c.in-Exactly.is in
    let x = c.counts_from-in-Exactly.result in
    let y = c.counts_up_to-in-Exactly.result in
    let w = needed_at a masks s.least s.greatest is c.args.self.now.swept in
    subst (λ (t : Sense). Decides (has (bit_and x y) k) (MetThrough t a masks c.args.place c.args.state c.args.duty k)) (sym is)
    (and_decided x y k
    (decides_same x k (subst (λ (n : ℕ). Decides (has x k) (n ≤ k)) c.least_total-in-Exactly.ensures (c.counts_from-in-Exactly.ensures k h))
    (least_through a lawful masks c.args.place c.args.state c.args.duty k c.step-next.result.0 c.step-next.result.1 c.requires.place c.requires.state h c.step-next.ensures.next c.step-next.ensures.increase w.0))
    (decides_same y k (subst (λ (n : ℕ). Decides (has y k) (k < n)) c.greatest_total-in-Exactly.ensures (c.counts_up_to-in-Exactly.ensures k h))
    (greatest_through a lawful masks c.args.place c.args.state c.args.duty k c.step-next.result.0 c.step-next.result.1 c.requires.place c.requires.state h c.step-next.ensures.next c.step-next.ensures.increase w.1)))
