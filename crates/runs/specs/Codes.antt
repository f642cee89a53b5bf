-- What the codes of the sweeps of a run hold, and the counts that they say are met.
use Rattle.std.specs.Prelude.{◌≡◌, ℕ, ◌+◌, ◌*◌, ◌<◌, ◌≤◌, List, length, slice_index}
use Rattle.std.proofs.Props.{props}
use Rattle.automata.specs.Automaton.{Automaton}
use Rattle.measures.specs.Measuring.{Measuring}
use Rattle.measures.specs.Kinds.{least, greatest}
use Rattle.automata.specs.Reading.{end, total}
use Rattle.sweeps.specs.Sequences.{From}
use Rattle.sweeps.specs.Sweep.{forward_at, backward_at}
use Rattle.rules.specs.declared.Sense.{Sense}
use Rattle.rules.specs.declared.Sense.TheVariants.{AtMost, AtLeast, Exactly}
use Rattle.runs.specs.declared.Ways.{Ways}
use Rattle.runs.specs.Stays.{Around, joined, Between, EndsBetween}

-- both sweeps of one measure over the masks
pub record BothWays (m : Measuring) (a : Automaton) (masks forth back : List ℕ) : Type 0 where
  pub forth_long : 16 * length masks + 16 ≤ length forth
  pub back_long : 16 * length masks + 16 ≤ length back
  pub forward : (i q : ℕ) → i ≤ length masks → q < a.states → slice_index forth (16 * i + q) ≡ forward_at m a masks i q
  pub backward : (i q : ℕ) → i ≤ length masks → q < a.states → slice_index back (16 * i + q) ≡ backward_at m a masks i q

-- What a run has at hand, for a row of at most 64 masks: the sweeps of the least totals for at most, of the greatest for at least, and both for
-- exactly.
abbrev pub Needed : Sense → Automaton → List ℕ → Ways → Ways → Type 0
Needed AtMost a masks l g = BothWays least a masks l.forth.now l.back.now
Needed AtLeast a masks l g = BothWays greatest a masks g.forth.now g.back.now
Needed Exactly a masks l g = BothWays least a masks l.forth.now l.back.now × BothWays greatest a masks g.forth.now g.back.now

pub needed_prop : (s : Sense) (a : Automaton) (masks : List ℕ) (l g : Ways) → IsProp (Needed s a masks l g)
needed_prop AtMost a masks l g = hlevel props
needed_prop AtLeast a masks l g = hlevel props
needed_prop Exactly a masks l g = hlevel props

-- count k is met by way of state q and duty d at place i
abbrev pub MetThrough : Sense → Automaton → List ℕ → ℕ → ℕ → ℕ → ℕ → Type 0
MetThrough AtMost a masks i q d k = (pre : List ℕ) × (post : List ℕ) × Around a masks i q pre post × (joined a masks q d pre post ≤ k)
MetThrough AtLeast a masks i q d k = (pre : List ℕ) × (post : List ℕ) × Around a masks i q pre post × (k ≤ joined a masks q d pre post)
MetThrough Exactly a masks i q d k = Between a masks i q d k

-- count k is met by sequences that end in state q
abbrev pub MetAtEnd : Sense → Automaton → List ℕ → ℕ → ℕ → Type 0
MetAtEnd AtMost a masks q k = (ds : List ℕ) × From masks ds × (end a 0 ds ≡ q) × (total a 0 ds ≤ k)
MetAtEnd AtLeast a masks q k = (ds : List ℕ) × From masks ds × (end a 0 ds ≡ q) × (k ≤ total a 0 ds)
MetAtEnd Exactly a masks q k = EndsBetween a masks q k
