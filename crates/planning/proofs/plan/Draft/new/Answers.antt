use Rattle.std.proofs.Common.{ℕ, ◌<◌, sym, subst, lit<}
use lib.ListN.{get_or-replicate}
use Rattle.planning.proofs.plan.Draft.new.Goals as goal

pub invariant_of-result : goal.invariant_of-result
invariant_of-result c = record { some = λ i h. subst (λ (x : ℕ). 0 < x) (sym (get_or-replicate 192 i _ 0 h)) (lit< tt) }
