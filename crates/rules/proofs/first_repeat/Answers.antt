use Rattle.std.proofs.Common.{◌≡◌, ◌<◌, length, get_or, take, ◌∙◌, arith, length-take, below_more}
use Rattle.std.proofs.lemmas.List.{get_or-take}
use Rattle.std.proofs.lemmas.Bool.{eqb-false}
use Rattle.rules.proofs.first_repeat.Goals as goal

pub loop-i-preserved : goal.loop-i-preserved
loop-i-preserved c =
    let cells = c.args.cells.now in
    below_more _ _ c.loop-i.invariant (λ s.
    let inside : s.0 < length (take c.loop-i.i cells) = omega (arith, s.1, length-take c.loop-i.i cells) in
    let same : get_or (take c.loop-i.i cells) s.0 0 ≡ get_or cells s.0 0 = get_or-take c.loop-i.i cells s.0 0 (omega (arith, s.1)) in
    eqb-false _ _ (c.if-contains.ensures.cases s.0 0 (omega arith) inside) (same ∙ s.2))

pub returns : goal.returns
returns c k h s = c.loop-i.invariant k (omega arith) s
