-- Sequences of duties that masks allow: one open duty from each mask.
use Rattle.std.specs.Prelude.{ℕ, ◌<◌, cond, List, [], ◌∷◌, ◌++◌, map, ◌==◌}
use Rattle.masks.specs.Bit.{In}
use Rattle.masks.specs.Members.{members}
use Rattle.automata.specs.Automaton.{Automaton}
use Rattle.automata.specs.Reading.{end}

-- ds takes one open duty from each of the masks
pub data From : List ℕ → List ℕ → Type 0 where
  ends : From [] []
  takes : {m d : ℕ} {ms ds : List ℕ} → d < 16 → In m d → From ms ds → From (m ∷ ms) (d ∷ ds)

-- the duties open in a mask, in order
abbrev pub duties : ℕ → List ℕ
duties mask = members 16 mask

-- the lists f x, for each x in turn, one after the other
abbrev pub flat : {X Y : Type 0} → (X → List Y) → List X → List Y
flat f [] = []
flat f (x ∷ xs) = f x ++ flat f xs

-- the list of all those sequences, each once
abbrev pub sequences : List ℕ → List (List ℕ)
sequences [] = [] ∷ []
sequences (m ∷ ms) = flat (λ d. map (λ ds. d ∷ ds) (sequences ms)) (duties m)

-- those of a list that lead from state 0 to q
abbrev pub leading : Automaton → ℕ → List (List ℕ) → List (List ℕ)
leading a q [] = []
leading a q (ds ∷ rest) = cond (end a 0 ds == q) (ds ∷ leading a q rest) (leading a q rest)
