-- A word's automaton keeps the laws of an automaton.
use Rattle.std.specs.Prelude.{◌≡◌, ℕ, zero, suc, ◌-◌, ◌<◌, ◌≤◌, Bool, true, false, cond, List, length, take}
use Rattle.std.proofs.Common.{arith}
use Rattle.automata.specs.Automaton.{Lawful}
use Rattle.automata.specs.Laws.{inside_all, inside_none}
use Rattle.words.specs.Search.{ends_with, longest_of, text_at, state_after, counting}

pub longest_small : (w t : List ℕ) (j : ℕ) → longest_of w t j ≤ j
unfolding longest_of
longest_small w t zero = omega arith
longest_small w t (suc j) = at (ends_with (take (suc j) w) t) (longest_small w t j)
  where
    at : (b : Bool) → longest_of w t j ≤ j → cond b (suc j) (longest_of w t j) ≤ suc j
    at true h = omega arith
    at false h = omega arith

pub counting_lawful : (w : List ℕ) (n : ℕ) → length w ≡ n → 1 ≤ n → n ≤ 16 → Lawful (counting w)
counting_lawful w n long some few = record {
  some = omega arith;
  few = omega arith;
  next_below = λ q d. inside_all (λ y. y < length w) (length w) q d (state_after w (text_at w q d)) (omega arith) (λ _ _. next (ends_with w (text_at w q d)) (text_at w q d));
  increase_small = λ q d. inside_all (λ y. y ≤ 15) (length w) q d (cond (ends_with w (text_at w q d)) 1 0) (omega arith) (λ _ _. one (ends_with w (text_at w q d)));
  outside = λ q d out. (inside_none (length w) q d (state_after w (text_at w q d)) out, inside_none (length w) q d (cond (ends_with w (text_at w q d)) 1 0) out);
}
  where
    next : (b : Bool) (t : List ℕ) → cond b 0 (longest_of w t (length w - 1)) < length w
    next true t = omega arith
    next false t = omega (arith, longest_small w t (length w - 1))

    one : (b : Bool) → cond b 1 0 ≤ 15
    one true = omega arith
    one false = omega arith
