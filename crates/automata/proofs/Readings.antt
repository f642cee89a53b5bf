-- The state and the total of a sequence that is read: one duty more, two sequences one after the other, and that the state stays one of the states.
use Rattle.std.proofs.Common.{◌≡◌, ℕ, ◌+◌, ◌<◌, List, [], ◌∷◌, ◌++◌, refl, arith}
use Rattle.automata.specs.Automaton.{Automaton, Lawful}
use Rattle.automata.specs.Reading.{end, total}

pub end_more : (a : Automaton) (q : ℕ) (ds : List ℕ) (d : ℕ) → end a q (ds ++ (d ∷ [])) ≡ a.next (end a q ds) d
end_more a q [] d = refl
end_more a q (e ∷ ds) d = end_more a (a.next q e) ds d

pub total_more : (a : Automaton) (q : ℕ) (ds : List ℕ) (d : ℕ) → total a q (ds ++ (d ∷ [])) ≡ total a q ds + a.increase (end a q ds) d
total_more a q [] d = omega arith
total_more a q (e ∷ ds) d = let r = total_more a (a.next q e) ds d in omega arith

pub end_append : (a : Automaton) (q : ℕ) (xs ys : List ℕ) → end a q (xs ++ ys) ≡ end a (end a q xs) ys
end_append a q [] ys = refl
end_append a q (x ∷ xs) ys = end_append a (a.next q x) xs ys

pub total_append : (a : Automaton) (q : ℕ) (xs ys : List ℕ) → total a q (xs ++ ys) ≡ total a q xs + total a (end a q xs) ys
total_append a q [] ys = omega arith
total_append a q (x ∷ xs) ys = let r = total_append a (a.next q x) xs ys in omega arith

pub end_below : (a : Automaton) → Lawful a → (q : ℕ) (ds : List ℕ) → q < a.states → end a q ds < a.states
end_below a l q [] h = h
end_below a l q (d ∷ ds) h = end_below a l (a.next q d) ds (l.next_below q d)
