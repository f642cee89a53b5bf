-- The numbers of the kinds of automaton.
use Rattle.std.specs.Prelude.{ℕ, ◌≢◌}
use Rattle.refusals.specs.declared.PostFault.{PostFault}
use Rattle.refusals.specs.declared.PostFault.TheVariants as fault
use Rattle.posting.specs.declared.counters.Counter.{Counter}
use Rattle.posting.specs.declared.counters.Counter.TheVariants.{Among, Word, Table}

-- the first byte of the frame that gives an automaton of this kind
abbrev pub counter_number : Counter → ℕ
counter_number Among = 0x03
counter_number Word = 0x04
counter_number Table = 0x05

-- a number that stands for none
pub data CounterFault (n : ℕ) : PostFault → Type 0 where
  no_automaton : ((k : Counter) → counter_number k ≢ n) → CounterFault n fault.Automaton
