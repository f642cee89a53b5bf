-- The search for the longest beginning that ends a text: its turns, and what it finds.
use Rattle.std.proofs.Common.{◌≡◌, ℕ, zero, suc, ◌-◌, ◌<◌, ◌≤◌, Bool, true, false, cond, List, length, take, sym, refl, ap, ◌∙◌, subst, ⊎_elim, append-nil, arith}
use Rattle.std.proofs.lemmas.Bool.{cases_lt, cases_Bool}
use Rattle.words.specs.Occurrences.{Ends}
use Rattle.words.specs.Search.{ends_with, longest_of, state_after}
use Rattle.words.specs.Laws.{longest_small}
use Rattle.words.proofs.Suffixes.{ends_decided, not_ends}

pub search_found : (w t : List ℕ) (j : ℕ) → 0 < j → ends_with (take j w) t ≡ true → longest_of w t j ≡ j
unfolding longest_of
search_found w t zero h e = absurd (omega arith)
search_found w t (suc j) h e = ap (λ b. cond b (suc j) (longest_of w t j)) e

pub search_passed : (w t : List ℕ) (j : ℕ) → 0 < j → ends_with (take j w) t ≡ false → longest_of w t j ≡ longest_of w t (j - 1)
unfolding longest_of
search_passed w t zero h e = absurd (omega arith)
search_passed w t (suc j) h e = let down : j ≡ suc j - 1 = omega arith in ap (λ b. cond b (suc j) (longest_of w t j)) e ∙ ap (longest_of w t) down

pub search_none : (w t : List ℕ) (j : ℕ) → j ≤ 0 → longest_of w t j ≡ 0
unfolding longest_of
search_none w t zero h = refl
search_none w t (suc j) h = absurd (omega arith)

-- what is found ends the text
pub search_ends : (w t : List ℕ) (j : ℕ) → Ends (take (longest_of w t j) w) t
unfolding longest_of
search_ends w t zero = (t, sym (append-nil t))
search_ends w t (suc j) = ⊎_elim
    (λ (e : ends_with (take (suc j) w) t ≡ true). subst (λ b. Ends (take (cond b (suc j) (longest_of w t j)) w) t) (sym e) ((ends_decided (take (suc j) w) t).0 e))
    (λ (e : ends_with (take (suc j) w) t ≡ false). subst (λ b. Ends (take (cond b (suc j) (longest_of w t j)) w) t) (sym e) (search_ends w t j))
    (cases_Bool (ends_with (take (suc j) w) t))

-- nothing longer does
pub search_longest : (w t : List ℕ) (j k : ℕ) → k ≤ j → Ends (take k w) t → k ≤ longest_of w t j
unfolding longest_of
search_longest w t zero k h e = omega arith
search_longest w t (suc j) k h e = ⊎_elim
    (λ (b : ends_with (take (suc j) w) t ≡ true). subst (λ b. k ≤ cond b (suc j) (longest_of w t j)) (sym b) h)
    (λ (b : ends_with (take (suc j) w) t ≡ false). subst (λ b. k ≤ cond b (suc j) (longest_of w t j)) (sym b)
    (⊎_elim (λ (l : k < suc j). search_longest w t j k (omega arith) e)
    (λ (g : suc j ≤ k). let same : k ≡ suc j = omega arith in absurd (not_ends (take (suc j) w) t b (subst (λ n. Ends (take n w) t) same e)))
    (cases_lt k (suc j))))
    (cases_Bool (ends_with (take (suc j) w) t))

-- the state after any text is one of the states
pub state_below : (w t : List ℕ) → 1 ≤ length w → state_after w t < length w
state_below w t some = at (ends_with w t)
  where
    at : (b : Bool) → cond b 0 (longest_of w t (length w - 1)) < length w
    at true = some
    at false = omega (arith, longest_small w t (length w - 1))
