use Rattle.runs.proofs.Spans.{from_decided}
use Rattle.runs.proofs.counts_from.Goals as goal

pub returns-then-least-lt64 : goal.returns-then-least-lt64
returns-then-least-lt64 c k h = from_decided c.args.least k c.if-least-lt64.true h
