use Rattle.std.proofs.Common.{List, ℕ, subst, rules}
use Rattle.words.specs.Search.{counting}
use Rattle.words.specs.Occurrences.{Counts}
use Rattle.words.proofs.Accounts.{counts}
use Rattle.words.proofs.Word.new.Goals as goal

pub returns-clause-made : goal.returns-clause-made
returns-clause-made c =
    let good = c.in_ok-check.ensures in
    (good, subst (λ (w : List ℕ). Counts c.args.duties.now (counting w)) (search rules) (counts c.args.duties.now good.some))
