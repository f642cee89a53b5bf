-- What posting a rule beside its automaton does.
use Rattle.std.specs.Prelude.{◌≡◌, ℕ, ◌<◌, ◌≤◌, Bool, true, false, List, [], ◌∷◌, ◌++◌, length}
use Rattle.refusals.specs.Posting.{PostError}
use Rattle.refusals.specs.declared.PostFault.{PostFault}
use Rattle.refusals.specs.declared.PostFault.TheVariants.{NotGiven, FamilyFull}
use Rattle.refusals.specs.Posting.{Refusing}
use Rattle.rules.specs.declared.Rule.{Rule}

-- the automaton is given, and the rule is there, behind the others
abbrev pub PostedIn : Bool → Rule → List Rule → List Rule → Type 0
PostedIn given rule old new = (given ≡ true) × (length old < 24) × (new ≡ old ++ (rule ∷ []))

-- whether a rule finds its automaton, and then whether there is room for it
pub data SlotFault (given : Bool) (rules : ℕ) : PostFault → Type 0 where
  not_given : given ≡ false → SlotFault given rules NotGiven
  full : given ≡ true → 24 ≤ rules → SlotFault given rules FamilyFull

-- the rules are as they were
abbrev pub NotPostedIn : Bool → List Rule → List Rule → PostError → Type 0
NotPostedIn given old new e = (new ≡ old) × Refusing (SlotFault given (length old)) ((given ≡ true) × (length old < 24)) e
