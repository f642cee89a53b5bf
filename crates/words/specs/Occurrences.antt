-- Occurrences of a word in what is read, counted so that no two share a duty.
use Rattle.std.specs.Prelude.{◌≡◌, ℕ, suc, ◌<◌, ◌≤◌, List, [], ◌∷◌, ◌++◌, length, take, slice_index}
use Rattle.automata.specs.Automaton.{Automaton}
use Rattle.automata.specs.Reading.{end, total}

-- p ends what was read
abbrev pub Ends : List ℕ → List ℕ → Type 0
Ends p text = (front : List ℕ) × (text ≡ front ++ p)

-- j is the length of the longest proper prefix of the word that is a suffix of the text
pub record Longest (word text : List ℕ) (j : ℕ) : Type 0 where
  pub short : j < length word
  pub ends : Ends (take j word) text
  pub longest : (k : ℕ) → k < length word → Ends (take k word) text → k ≤ j

-- After reading ds, s is what was read since the last occurrence of the word, and n is the number of occurrences.
pub data Read (word : List ℕ) : List ℕ → List ℕ → ℕ → Type 0 where
  start : Read word [] [] 0
  occurs : {ds s : List ℕ} {n : ℕ} (d : ℕ) → d < 16 → Read word ds s n → Ends word (s ++ (d ∷ [])) → Read word (ds ++ (d ∷ [])) [] (suc n)
  goes_on : {ds s : List ℕ} {n : ℕ} (d : ℕ) → d < 16 → Read word ds s n → (Ends word (s ++ (d ∷ [])) → ⊥) → Read word (ds ++ (d ∷ [])) (s ++ (d ∷ [])) n

-- The automaton counts the word: any duties that are read can be accounted for so, the state is the longest proper prefix that the part after the
-- latest occurrence ends in, and the total is the number of occurrences.
pub record Counts (word : List ℕ) (a : Automaton) : Type 0 where
  pub states : a.states ≡ length word
  pub accounted : (ds : List ℕ) → ((k : ℕ) → k < length ds → slice_index ds k < 16) → (s : List ℕ) × (n : ℕ) × Read word ds s n
  pub state_is_longest : (ds s : List ℕ) (n : ℕ) → Read word ds s n → Longest word s (end a 0 ds)
  pub total_is_occurrences : (ds s : List ℕ) (n : ℕ) → Read word ds s n → total a 0 ds ≡ n
