use Rattle.std.proofs.Common.{Decides, sym, subst}
use lib.Bits.{bit_and}
use Rattle.masks.specs.Bit.{has}
use Rattle.rules.specs.declared.Sense.{Sense}
use Rattle.runs.specs.Codes.{MetAtEnd}
use Rattle.runs.proofs.Spans.{decides_same, and_decided}
use Rattle.runs.proofs.Meeting.{needed_at, least_at_end, greatest_at_end}
use Rattle.runs.proofs.Swept.met_at_end.Goals as goal

pub returns-in-AtMost : goal.returns-in-AtMost
returns-in-AtMost g c k h =
    let a = g.C.CounterAutomaton.meaning c.args.self.now.automaton.now in
    let s = c.args.self.now in
    let masks = s.masks.now in
    let is = c.in-AtMost.is in
    let r = c.counts_from.result in
    let w = needed_at a masks s.least s.greatest is c.args.self.now.swept in
    subst (λ (t : Sense). Decides (has r k) (MetAtEnd t a masks c.args.state k)) (sym is)
    (decides_same r k (c.counts_from.ensures k h) (least_at_end a masks c.args.state k c.requires.state h w))

pub returns-in-AtLeast : goal.returns-in-AtLeast
returns-in-AtLeast g c k h =
    let a = g.C.CounterAutomaton.meaning c.args.self.now.automaton.now in
    let s = c.args.self.now in
    let masks = s.masks.now in
    let is = c.in-AtLeast.is in
    let r = c.counts_up_to.result in
    let w = needed_at a masks s.least s.greatest is c.args.self.now.swept in
    subst (λ (t : Sense). Decides (has r k) (MetAtEnd t a masks c.args.state k)) (sym is)
    (decides_same r k (c.counts_up_to.ensures k h) (greatest_at_end a masks c.args.state k c.requires.state h w))

pub returns-in-Exactly : goal.returns-in-Exactly
returns-in-Exactly g c k h =
    let a = g.C.CounterAutomaton.meaning c.args.self.now.automaton.now in
    let s = c.args.self.now in
    let masks = s.masks.now in
    let is = c.in-Exactly.is in
    let x = c.counts_from-in-Exactly.result in
    let y = c.counts_up_to-in-Exactly.result in
    let w = needed_at a masks s.least s.greatest is c.args.self.now.swept in
    subst (λ (t : Sense). Decides (has (bit_and x y) k) (MetAtEnd t a masks c.args.state k)) (sym is)
    (and_decided x y k
    (decides_same x k (c.counts_from-in-Exactly.ensures k h) (least_at_end a masks c.args.state k c.requires.state h w.0))
    (decides_same y k (c.counts_up_to-in-Exactly.ensures k h) (greatest_at_end a masks c.args.state k c.requires.state h w.1)))
