-- Worked examples, a row each, and that they all hold.
use Rattle.std.specs.Prelude.{◌≡◌, ℕ, List, [], ◌∷◌, length, replicate, Some}
use Rattle.automata.specs.Automaton.{Automaton}
use Rattle.automata.specs.Reading.{total}
use Rattle.automata.specs.Kinds.{table}
use Rattle.words.specs.Search.{counting}
use Rattle.sweeps.specs.Figures.{figures_of}
use Rattle.sweeps.specs.Place.{up_to}
use Rattle.rules.specs.declared.Sense.{Sense}
use Rattle.rules.specs.declared.Sense.TheVariants.{AtMost, AtLeast, Exactly}
use Rattle.runs.specs.Run.{leaves}

pub data Example : Type 0 where
  -- a word, what is read, and how often the word occurs there
  occurrences : List ℕ → List ℕ → ℕ → Example
  -- an automaton, a row of masks, and its least total, greatest total and set of totals
  figures : Automaton → List ℕ → ℕ → ℕ → ℕ → Example
  -- an automaton, a sense, the masks of the first cells, a tally; and what one run of a rule over these cells leaves of them and of the tally
  leaving : Automaton → Sense → List ℕ → ℕ → List ℕ → ℕ → Example

abbrev pub Holds : Example → Type 0
Holds (occurrences word text n) = total (counting word) 0 text ≡ n
Holds (figures a masks least greatest totals) = figures_of a masks ≡ Some (record { least = least; greatest = greatest; totals = totals })
Holds (leaving a sense masks tally after left) = leaves a sense (up_to (length masks)) masks tally ≡ record { cells = after; tally = left }

abbrev pub AllHold : List Example → Type 0
AllHold [] = Unit {0}
AllHold (x ∷ xs) = Holds x × AllHold xs

-- one state; adds 3 for duty 1, 5 for duty 2 and nothing for another
abbrev pub three_or_five : Automaton
three_or_five = table 1 (0 ∷ 3 ∷ 5 ∷ replicate 13 0)

abbrev pub examples : List Example
examples =
    occurrences (0 ∷ 0 ∷ 1 ∷ []) (0 ∷ 0 ∷ 1 ∷ 0 ∷ 0 ∷ 1 ∷ []) 2
    ∷ occurrences (0 ∷ 1 ∷ 0 ∷ 1 ∷ []) (0 ∷ 1 ∷ 0 ∷ 1 ∷ 0 ∷ 1 ∷ []) 1
    ∷ figures three_or_five (3 ∷ 5 ∷ []) 0 8 297
    -- at most 2: only nothing and nothing is left; at least 6: only 3 and 5
    ∷ leaving three_or_five AtMost (3 ∷ 5 ∷ []) 4 (1 ∷ 1 ∷ []) 4
    ∷ leaving three_or_five AtLeast (3 ∷ 5 ∷ []) 64 (2 ∷ 4 ∷ []) 64
    -- exactly 4 of threes: the interval from 0 to 9 has 4, so nothing goes, though no filling makes it
    ∷ leaving three_or_five Exactly (3 ∷ 3 ∷ 3 ∷ []) 16 (3 ∷ 3 ∷ 3 ∷ []) 16
    -- exactly 0 or 5 of one three: the hole between them counts, and all goes
    ∷ leaving three_or_five Exactly (2 ∷ []) 33 (0 ∷ []) 0
    -- the word 0 0 1 at least once in three cells
    ∷ leaving (counting (0 ∷ 0 ∷ 1 ∷ [])) AtLeast (3 ∷ 3 ∷ 3 ∷ []) 2 (1 ∷ 1 ∷ 2 ∷ []) 2
    ∷ []
