use Rattle.std.proofs.Common.{◌*◌, ◌<◌, length, sym, ◌∙◌, arith}
use Rattle.measures.specs.Kinds.{top}
use Rattle.sweeps.proofs.Shown.{figures_none, figures_some, some_greatest}
use Rattle.sweeps.proofs.row_figures.Goals as goal

pub returns-then-least : goal.returns-then-least
returns-then-least g c =
    let a = g.C.CounterAutomaton.meaning c.args.automaton.now in
    let ms = c.args.masks.now in
    let found = c.in_ok-least.ensures in
    let short : 15 * length ms < top = omega (arith, found.0) in
    let shown = figures_none a (g.C.CounterAutomaton.lawful c.args.automaton.now) ms short (sym found.1 ∙ c.if-least.true) in
    record { figures = (found.0, shown.0, shown.1); beyond = found.2 }

pub overflow_sub-greatest : goal.overflow_sub-greatest
overflow_sub-greatest g c =
    let a = g.C.CounterAutomaton.meaning c.args.automaton.now in
    let ms = c.args.masks.now in
    let found = c.in_ok-least.ensures in
    let short : 15 * length ms < top = omega (arith, found.0) in
    let some : c.in_ok-least.least < top = omega (arith, c.if-least.false) in
    omega (arith, c.in_ok-greatest.ensures.1, some_greatest a (g.C.CounterAutomaton.lawful c.args.automaton.now) ms short (omega (arith, found.1)))

pub returns : goal.returns
returns g c =
    let a = g.C.CounterAutomaton.meaning c.args.automaton.now in
    let ms = c.args.masks.now in
    let found = c.in_ok-least.ensures in
    let then = c.in_ok-greatest.ensures in
    let last = c.in_ok-totals.ensures in
    let short : 15 * length ms < top = omega (arith, found.0) in
    let some : c.in_ok-least.least < top = omega (arith, c.if-least.false) in
    let shown =
    figures_some a (g.C.CounterAutomaton.lawful c.args.automaton.now) ms c.in_ok-least.least c.in_ok-greatest.field-0 c.in_ok-totals.totals short some
    found.1 then.1 last.1 in
    record { figures = (found.0, shown.0, shown.1); beyond = λ k h. last.2 k h ∙ then.2 k h ∙ found.2 k h }
