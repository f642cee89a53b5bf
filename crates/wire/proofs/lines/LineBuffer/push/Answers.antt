use Rattle.std.proofs.Common.{arith}
use Rattle.wire.proofs.Buffers.{kept_more, kept_full}
use Rattle.wire.proofs.lines.LineBuffer.push.Goals as goal

pub returns-then-self-lt-KEPT : goal.returns-then-self-lt-KEPT
returns-then-self-lt-KEPT c = kept_more c.args.self.now.text c.args.self.now.len c.args.character (omega arith) c.if-self-lt-KEPT.true

pub returns-else-self-lt-KEPT : goal.returns-else-self-lt-KEPT
returns-else-self-lt-KEPT c = kept_full c.args.self.now.text c.args.self.now.len c.args.character (omega arith) c.if-self-lt-KEPT.false
