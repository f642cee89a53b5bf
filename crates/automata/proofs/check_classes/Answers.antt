use Rattle.std.proofs.Common.{rules}
use Rattle.automata.specs.Faults.{no_class}
use Rattle.automata.proofs.check_classes.Goals as goal

pub returns-in-Some : goal.returns-in-Some
returns-in-Some c = no_class c.in-Some.place (search rules)
