use Rattle.std.proofs.Common.{◌≡◌, ℕ, get_or, ap, ◌∙◌, arith}
use lib.Bits.{bit_or}
use Rattle.std.proofs.lemmas.Nat.{one_shl}
use Rattle.runs.specs.Stays.{duty_stays}
use Rattle.runs.proofs.Decided.{duty_decided}
use Rattle.runs.proofs.Listed.{sifted_none, sifted_next, sifted_hit, sifted_miss, sifted_all}
use Rattle.runs.proofs.Spans.{same_tests}
use Rattle.runs.proofs.Swept.kept_duties.Goals as goal

pub loop-duty-init : goal.loop-duty-init
loop-duty-init g c =
    let a = g.C.CounterAutomaton.meaning c.args.self.now.automaton.now in
    let s = c.args.self.now in
    let mask = get_or s.masks.now c.args.place 0 in
    let whole : c.into_iter-duty-iterator.result.rest ≡ mask = cc in
    (tt, tt, sifted_none mask (duty_stays a s.masks.now s.sense c.args.tally c.args.place) c.into_iter-duty-iterator.result.rest (omega arith) whole)

pub duty_stays-requires : goal.duty_stays-requires
duty_stays-requires g c =
    let p = sifted_next c.next.new.self.rest c.in-Some.duty c.in-Some.ensures.steps c.loop-duty.invariant.2 in
    record { place = c.requires.place; duty = p.0; held = p.1 }

pub overflow_cast-staying : goal.overflow_cast-staying
overflow_cast-staying g c = omega (arith, (sifted_next c.next.new.self.rest c.in-Some.duty c.in-Some.ensures.steps c.loop-duty.invariant.2).0)

pub overflow_shl-staying : goal.overflow_shl-staying
overflow_shl-staying g c = (sifted_next c.next.new.self.rest c.in-Some.duty c.in-Some.ensures.steps c.loop-duty.invariant.2).0

pub loop-duty-preserved-then-duty_stays : goal.loop-duty-preserved-then-duty_stays
loop-duty-preserved-then-duty_stays g c =
    let a = g.C.CounterAutomaton.meaning c.args.self.now.automaton.now in
    let s = c.args.self.now in
    let d : ℕ = c.in-Some.duty in
    let same = same_tests (duty_stays a s.masks.now s.sense c.args.tally c.args.place d) c.duty_stays.result (duty_decided a s.masks.now s.sense c.args.tally c.args.place d) c.duty_stays.ensures in
    let is = c.in-Some.ensures.steps in
    let inv = c.loop-duty.invariant.2 in
    let small = (sifted_next c.next.new.self.rest d is inv).0 in
    (tt, tt, sifted_hit c.next.new.self.rest _ d is (same ∙ c.if-duty_stays.true) (ap (bit_or c.loop-duty.staying) (one_shl d 16 small)) inv)

pub loop-duty-preserved : goal.loop-duty-preserved
loop-duty-preserved g c =
    let a = g.C.CounterAutomaton.meaning c.args.self.now.automaton.now in
    let s = c.args.self.now in
    let d : ℕ = c.in-Some.duty in
    let same = same_tests (duty_stays a s.masks.now s.sense c.args.tally c.args.place d) c.duty_stays.result (duty_decided a s.masks.now s.sense c.args.tally c.args.place d) c.duty_stays.ensures in
    (tt, tt, sifted_miss c.next.new.self.rest d c.in-Some.ensures.steps (same ∙ c.if-duty_stays.false) c.loop-duty.invariant.2)

pub returns : goal.returns
returns g c = sifted_all c.in-None.ensures.steps c.loop-duty.invariant.2
