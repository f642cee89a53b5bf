use Rattle.std.proofs.Common.{◌≡◌, arith}
use Rattle.posting.specs.Counters.{counter_number, no_automaton}
use Rattle.posting.specs.declared.counters.Counter.{Counter}
use Rattle.posting.specs.declared.counters.Counter.TheVariants.{Among, Word, Table}
use Rattle.posting.proofs.counters.CounterTryFromU8.try_from.Goals as goal

pub returns-in_default : goal.returns-in_default
returns-in_default c = no_automaton none
  where
    none : (k : Counter) → counter_number k ≡ c.args.number → ⊥
    none Among e = omega (arith, e)
    none Word e = omega (arith, e)
    none Table e = omega (arith, e)
