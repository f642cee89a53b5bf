-- What `inside` is at a state and a duty that there are.
use Rattle.std.proofs.Common.{◌≡◌, ℕ, ◌<◌}
use Rattle.std.proofs.lemmas.Bool.{lt-ltb}
use Rattle.automata.specs.Kinds.{inside}

pub inside_in : (s q d x : ℕ) → q < s → d < 16 → inside s q d x ≡ x
inside_in s q d x h k = simp (lt-ltb q s h, lt-ltb d 16 k)
