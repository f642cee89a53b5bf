use Rattle.std.proofs.Common.{refl, inl, inr, ⊎_elim, arith, rules}
use Rattle.wire.specs.Frames.{wrong_length, no_size}
use Rattle.wire.proofs.frame.size.Goals as goal

pub returns-in_default : goal.returns-in_default
returns-in_default c = wrong_length (search rules)

pub returns-then-cells-lt1 : goal.returns-then-cells-lt1
returns-then-cells-lt1 c = no_size refl (search rules) (⊎_elim (λ h. inl (omega arith)) (λ h. inr (omega arith)) c.then-cells-lt1.either)
