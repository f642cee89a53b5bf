-- A table that is one has no fault.
use Rattle.std.proofs.Common.{ℕ, List, ⊎_elim, arith}
use Rattle.refusals.specs.declared.PostFault.{PostFault}
use Rattle.automata.specs.Faults.{TableFault, wrong_length, no_such_number, no_such_state}
use Rattle.automata.specs.Kinds.{GoodTable}

pub good_has_no_fault : (s : ℕ) (steps : List ℕ) (e : PostFault) → GoodTable s steps → TableFault s steps e → ⊥
good_has_no_fault s steps e g (wrong_length f) = f g.whole
good_has_no_fault s steps e g (no_such_number l n) = ⊎_elim (λ h. omega (arith, g.some)) (λ h. omega (arith, g.few)) n
good_has_no_fault s steps e g (no_such_state l a b k f) = omega (arith, f.here, g.below k f.inside)
