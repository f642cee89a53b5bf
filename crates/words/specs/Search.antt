-- The automaton of a word: state q stands for the beginning of q duties, and each step searches for the longest beginning anew.
use Rattle.std.specs.Prelude.{ℕ, zero, suc, ◌-◌, Bool, cond, List, [], ◌∷◌, ◌++◌, length, take, drop}
use Rattle.std.specs.Str.{bytes_eq}
use Rattle.automata.specs.Automaton.{Automaton}
use Rattle.automata.specs.Kinds.{inside}

-- the test that p ends a text
abbrev pub ends_with : List ℕ → List ℕ → Bool
ends_with p text = bytes_eq p (drop (length text - length p) text)

-- the longest beginning of at most j duties that ends a text
unfoldable pub longest_of : List ℕ → List ℕ → ℕ → ℕ
longest_of word text zero = 0
longest_of word text (suc j) = cond (ends_with (take (suc j) word) text) (suc j) (longest_of word text j)

-- what is read where duty d follows the beginning of q duties
abbrev pub text_at : List ℕ → ℕ → ℕ → List ℕ
text_at word q d = take q word ++ (d ∷ [])

-- the state after a text that an occurrence may end
abbrev pub state_after : List ℕ → List ℕ → ℕ
state_after word text = cond (ends_with word text) 0 (longest_of word text (length word - 1))

abbrev pub counting : List ℕ → Automaton
counting word = record {
  states = length word;
  next = λ q d. inside (length word) q d (state_after word (text_at word q d));
  increase = λ q d. inside (length word) q d (cond (ends_with word (text_at word q d)) 1 0);
}
