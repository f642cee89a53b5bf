use Rattle.std.proofs.Common.{ap₂, List, ℕ, [], true}
use Rattle.settling.specs.Masks.{masks}
use Rattle.planning.proofs.Starting.{zeros}
use Rattle.planning.proofs.plan.drafts.void_plan.Goals as goal

pub returns-clause-view : goal.returns-clause-view
returns-clause-view g c =
    let blank = c.default.ensures in
    rw c.new.ensures (ap₂ (λ (xs ys : List ℕ). record { now = masks xs ys; below = []; void = true }) (zeros _ 192 blank.0) (zeros _ 72 blank.1))
