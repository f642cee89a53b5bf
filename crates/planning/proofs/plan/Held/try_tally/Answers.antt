use Rattle.std.proofs.Common.{◌<◌, get_or, arith}
use lib.Bits.{bit_and}
use Rattle.settling.specs.Masks.{of}
use Rattle.histories.specs.Decisions.{on_tally}
use Rattle.planning.specs.Views.{shown}
use Rattle.planning.proofs.Trying.{named_tally, try_empties, try_settles}
use Rattle.planning.proofs.plan.Held.try_tally.Goals as goal

pub returns-then-kept-eq0-clause-step : goal.returns-then-kept-eq0-clause-step
returns-then-kept-eq0-clause-step g c below w free =
    let p = shown c.args.self.now below in
    try_empties _ p (on_tally c.args.rule c.args.tally) w free _ (named_tally p.now c.args.rule c.args.tally) c.if-kept-eq0.true

pub returns-clause-step : goal.returns-clause-step
returns-clause-step g c below w free =
    let p = shown c.args.self.now below in
    let v = bit_and (get_or p.now.tallies c.args.rule 0) c.args.tally in
    let o : 0 < v = omega (arith, c.if-kept-eq0.false) in
    let t = c.settle_or_restore.new.self in
    try_settles _ p (on_tally c.args.rule c.args.tally) w free v (of t.masks) c.settle_or_restore.result t.void (named_tally p.now c.args.rule c.args.tally) o c.settle_or_restore.ensures.tried c.settle_or_restore.ensures.void
