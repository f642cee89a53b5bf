use Rattle.std.proofs.Common.{arith}
use Rattle.histories.proofs.Logs.{called}
use Rattle.planning.specs.Views.{shown}
use Rattle.planning.proofs.Asking.{no_tally, tally_held}
use Rattle.planning.proofs.plan.Held.tally.Goals as goal

pub returns-then-rule-rule_count : goal.returns-then-rule-rule_count
returns-then-rule-rule_count g c below w = called _ (g.F.Family.lawful c.args.self.now.family) _ _ _ _ (tally_held _ (shown c.args.self.now below) c.args.rule w (omega arith))

pub returns-else-rule-rule_count : goal.returns-else-rule-rule_count
returns-else-rule-rule_count g c below w = called _ (g.F.Family.lawful c.args.self.now.family) _ _ _ _ (no_tally _ (shown c.args.self.now below) c.args.rule w (omega arith))
