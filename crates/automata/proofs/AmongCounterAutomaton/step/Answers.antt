use Rattle.std.proofs.Common.{◌∙◌, ◌/◌, ◌^◌, refl, arith}
use lib.Bits.{and_mask}
use Rattle.std.proofs.lemmas.Bool.{lt-ltb}
use Rattle.automata.proofs.AmongCounterAutomaton.step.Goals as goal

pub returns-then-duty-lt16 : goal.returns-then-duty-lt16
returns-then-duty-lt16 c =
    let d = lt-ltb c.args.duty 16 (omega arith) in
    let q = lt-ltb c.args.state 1 (omega arith) in
    record { next = refl; increase = c.from.ensures ∙ simp (d, q) (and_mask (c.args.self.now.set / 2 ^ c.args.duty) 1) }
