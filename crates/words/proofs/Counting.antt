-- The automaton of a word counts its occurrences: the state is the longest beginning, and the total the number of occurrences.
use Rattle.std.proofs.Common.{◌≡◌, ℕ, zero, suc, ◌-◌, ◌<◌, ◌≤◌, Bool, true, false, cond, List, [], ◌∷◌, ◌++◌, length, get_or, take, sym, refl, ap, ◌∙◌, subst, ⊎_elim, append_assoc, append-nil, add-one, arith}
use Rattle.std.proofs.lemmas.List.{take_all, take_more, length-take-le, same_from_push}
use Rattle.std.proofs.lemmas.Bool.{cases_Bool}
use Rattle.automata.specs.Reading.{end, total}
use Rattle.automata.proofs.Readings.{end_more, total_more}
use Rattle.automata.proofs.Inside.{inside_in}
use Rattle.words.specs.Occurrences.{Ends, Longest, Read, start, occurs, goes_on}
use Rattle.words.specs.Search.{ends_with, longest_of, text_at, state_after, counting}
use Rattle.words.specs.Laws.{longest_small}
use Rattle.words.proofs.Suffixes.{ends_trans, ends_push, ends_length, ends_nest, ends_decided}
use Rattle.words.proofs.Searches.{search_ends, search_longest}

module _ (w : List ℕ) where
  -- A beginning that ends what was read with d after it ends the longest beginning so far with d after it,
  carried : (s : List ℕ) (q d k : ℕ) → Longest w s q → k ≤ length w → Ends (take k w) (s ++ (d ∷ [])) → Ends (take k w) (text_at w q d)
  carried s q d zero l h e = (text_at w q d, sym (append-nil (text_at w q d)))
  carried s q d (suc k) l h (v, e) =
      let x = get_or w k 0 in
      let more : take (suc k) w ≡ take k w ++ (x ∷ []) = subst (λ n. take n w ≡ take k w ++ (x ∷ [])) (add-one k) (take_more w k 0 (omega arith)) in
      let both = same_from_push s (v ++ take k w) d x (e ∙ ap (λ p. v ++ p) more ∙ sym (append_assoc v (take k w) (x ∷ []))) in
      let le : k ≤ q = l.longest k (omega arith) (v, both.0) in
      let short = l.short in
      let nk = length-take-le k w (omega arith) in
      let nq = length-take-le q w (omega arith) in
      let nest = ends_nest s l.ends.0 v (take q w) (take k w) l.ends.1 both.0 (omega arith) in
      let pushed = ends_push d nest in
      subst (λ p. Ends p (text_at w q d)) (ap (λ y. take k w ++ (y ∷ [])) both.1 ∙ sym more) pushed

  -- and the other way round.
  back_carried : (s : List ℕ) (q d : ℕ) (p : List ℕ) → Longest w s q → Ends p (text_at w q d) → Ends p (s ++ (d ∷ []))
  back_carried s q d p l e = ends_trans e (ends_push d l.ends)

  nothing_read : 1 ≤ length w → Longest w [] 0
  nothing_read some = record {
    short = some;
    ends = ([], refl);
    longest = λ k h e. omega (arith, ends_length e, length-take-le k w (omega arith));
  }

  module _ (some : 1 ≤ length w) (s : List ℕ) (q d : ℕ) (l : Longest w s q) (duty : d < 16) where
    abbrev text : List ℕ
    text = text_at w q d

    seen : Ends w (s ++ (d ∷ [])) → ends_with w text ≡ true
    seen e =
        let whole = take_all (length w) w (omega arith) in
        (ends_decided w text).1 (subst (λ p. Ends p text) whole (carried s q d (length w) l (omega arith) (subst (λ p. Ends p (s ++ (d ∷ []))) (sym whole) e)))

    unseen : (Ends w (s ++ (d ∷ [])) → ⊥) → ends_with w text ≡ false
    unseen n = ⊎_elim (λ (e : ends_with w text ≡ true). absurd (n (back_carried s q d w l ((ends_decided w text).0 e)))) (λ e. e) (cases_Bool (ends_with w text))

    stepped : (b : Bool) → ends_with w text ≡ b → ((counting w).next q d ≡ cond b 0 (longest_of w text (length w - 1))) × ((counting w).increase q d ≡ cond b 1 0)
    stepped b e = (
      inside_in (length w) q d (state_after w text) l.short duty ∙ ap (λ b. cond b 0 (longest_of w text (length w - 1))) e,
      inside_in (length w) q d (cond (ends_with w text) 1 0) l.short duty ∙ ap (λ b. cond b 1 0) e,
    )

    longer : Longest w (s ++ (d ∷ [])) (longest_of w text (length w - 1))
    longer = record {
      short = omega (arith, longest_small w text (length w - 1));
      ends = back_carried s q d (take (longest_of w text (length w - 1)) w) l (search_ends w text (length w - 1));
      longest = λ k h e. search_longest w text (length w - 1) k (omega arith) (carried s q d k l (omega arith) e);
    }

-- wherever reading has come
pub counted : (w ds s : List ℕ) (n : ℕ) → 1 ≤ length w → Read w ds s n → Longest w s (end (counting w) 0 ds) × (total (counting w) 0 ds ≡ n)
counted w ds s n some start = (nothing_read w some, refl)
counted w ds s n some (occurs {ds = es} {s = t} {n = m} d duty r e) =
    let before = counted w es t m some r in
    let q = end (counting w) 0 es in
    let step = stepped w some t q d before.0 duty true (seen w some t q d before.0 duty e) in (
      subst (λ j. Longest w [] j) (sym (end_more (counting w) 0 es d ∙ step.0)) (nothing_read w some),
      (let sum = total_more (counting w) 0 es d in omega (arith, before.1, step.1)),
    )
counted w ds s n some (goes_on {ds = es} {s = t} {n = m} d duty r e) =
    let before = counted w es t m some r in
    let q = end (counting w) 0 es in
    let step = stepped w some t q d before.0 duty false (unseen w some t q d before.0 duty e) in (
      subst (λ j. Longest w (t ++ (d ∷ [])) j) (sym (end_more (counting w) 0 es d ∙ step.0)) (longer w some t q d before.0 duty),
      (let sum = total_more (counting w) 0 es d in omega (arith, before.1, step.1)),
    )
