use Rattle.std.proofs.Common.{refl}
use Rattle.masks.specs.Members.{members}
use Rattle.words.specs.Search.{longest_of}
use Rattle.runs.specs.Choosing.{sieve}
use Rattle.worked.proofs.worked_examples.Goals as goal

pub returns : goal.returns
unfolding members longest_of sieve
returns c = record { count = refl; all_hold = (refl, (refl, (refl, (refl, (refl, (refl, (refl, (refl, tt)))))))) }
