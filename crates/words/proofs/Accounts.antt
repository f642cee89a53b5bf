-- Every sequence of duties has an account of the occurrences in it, and so a word's automaton counts the word.
use Rattle.std.proofs.Common.{◌≡◌, ℕ, suc, ◌<◌, ◌≤◌, true, false, List, [], ◌∷◌, ◌++◌, length, get_or, sym, refl, subst, ⊎_elim, append_assoc, append-nil, arith}
use Rattle.std.proofs.lemmas.Bool.{cases_Bool}
use Rattle.words.specs.Occurrences.{Read, start, occurs, goes_on, Counts}
use Rattle.words.specs.Search.{ends_with, counting}
use Rattle.words.proofs.Suffixes.{ends_decided, not_ends}
use Rattle.words.proofs.Counting.{counted}

-- one duty more
more : (w ds s : List ℕ) (n d : ℕ) → d < 16 → Read w ds s n → (t : List ℕ) × (m : ℕ) × Read w (ds ++ (d ∷ [])) t m
more w ds s n d h r = ⊎_elim
    (λ (e : ends_with w (s ++ (d ∷ [])) ≡ true). ([], suc n, occurs d h r ((ends_decided w (s ++ (d ∷ []))).0 e)))
    (λ (e : ends_with w (s ++ (d ∷ [])) ≡ false). (s ++ (d ∷ []), n, goes_on d h r (not_ends w (s ++ (d ∷ [])) e)))
    (cases_Bool (ends_with w (s ++ (d ∷ []))))

-- all the duties of a sequence more
all_more : (w done s : List ℕ) (n : ℕ) (ds : List ℕ) → Read w done s n → ((k : ℕ) → k < length ds → get_or ds k 0 < 16) → (t : List ℕ) × (m : ℕ) × Read w (done ++ ds) t m
all_more w done s n [] r small = (s, n, subst (λ x. Read w x s n) (sym (append-nil done)) r)
all_more w done s n (d ∷ ds) r small =
    let one = more w done s n d (small 0 (omega arith)) r in
    let rest = all_more w (done ++ (d ∷ [])) one.0 one.1 ds one.2 (λ k h. small (suc k) (omega arith)) in
    (rest.0, rest.1, subst (λ x. Read w x rest.0 rest.1) (append_assoc done (d ∷ []) ds) rest.2)

pub counts : (w : List ℕ) → 1 ≤ length w → Counts w (counting w)
counts w some = record {
  states = refl;
  accounted = λ ds small. all_more w [] [] 0 ds start small;
  state_is_longest = λ ds s n r. (counted w ds s n some r).0;
  total_is_occurrences = λ ds s n r. (counted w ds s n some r).1;
}
