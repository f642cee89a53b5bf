use Rattle.std.proofs.Common.{◌-◌, ◌<◌, sym, ◌∙◌, arith}
use Rattle.words.proofs.Searches.{search_found, search_passed, search_none}
use Rattle.words.proofs.longest.Goals as goal

pub returns-then-ends-clause-is : goal.returns-then-ends-clause-is
returns-then-ends-clause-is c =
    let j = c.loop-j.j - 1 in
    let pos : 0 < j = omega arith in
    sym (c.loop-j.invariant ∙ search_found c.args.word.now c.args.text.now j pos (sym c.ends.ensures ∙ c.if-ends.true))

pub loop-j-preserved : goal.loop-j-preserved
loop-j-preserved c =
    let j = c.loop-j.j - 1 in
    let pos : 0 < j = omega arith in
    c.loop-j.invariant ∙ search_passed c.args.word.now c.args.text.now j pos (sym c.ends.ensures ∙ c.if-ends.false)

pub returns-clause-is : goal.returns-clause-is
returns-clause-is c = sym (c.loop-j.invariant ∙ search_none c.args.word.now c.args.text.now (c.loop-j.j - 1) (omega arith))
