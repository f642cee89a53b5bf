-- A filling made of one sequence and one count for each rule, where no two rules share a cell.
use Rattle.std.proofs.Common.{◌≡◌, ℕ, zero, suc, ◌<◌, ◌≤◌, List, [], ◌∷◌, ◌++◌, length, get_or, sym, refl, ◌∙◌, subst, ⊎_elim, arith}
use Rattle.std.proofs.lemmas.List.{ext_get_or, length_push, get_or_push, get_or_append_left}
use Rattle.std.proofs.lemmas.Bool.{cases_eq}
use Rattle.automata.specs.Reading.{total}
use Rattle.families.specs.Masks.{OneOf}
use Rattle.families.specs.Meaning.{Meaning}
use Rattle.families.specs.Laws.{Lawful}
use Rattle.rules.specs.Senses.{Meets}
use Rattle.runs.specs.Run.{along, put}
use Rattle.runs.proofs.Rows.{each_cell, length_along, along_at, along_same, length_put, put_other, put_at}
use Rattle.counting.specs.Used.{KeepsOnlyUsed}

-- for rule r a sequence over its cells that meets a count, where D says which duties a cell may have and K which counts a rule
pub record Choice (m : Meaning) (D K : ℕ → ℕ → Type 0) (r : ℕ) : Type 0 where
  pub used : KeepsOnlyUsed (m.rule r)
  pub duties : List ℕ
  pub count : ℕ
  pub size : length duties ≡ length (m.rule r).scope
  pub fits : (j : ℕ) → j < length (m.rule r).scope → D (get_or (m.rule r).scope j 0) (get_or duties j 0)
  pub right : K r count
  pub met : Meets used.sense (total used.automaton 0 duties) count

-- a duty for each cell, and a count for each of the first n rules, which the duties along its cells meet
pub record Chosen (m : Meaning) (D K : ℕ → ℕ → Type 0) (n : ℕ) (duties counts : List ℕ) : Type 0 where
  pub size : length duties ≡ 192
  pub fits : (i : ℕ) → i < 192 → D i (get_or duties i 0)
  pub number : length counts ≡ n
  pub right : (r : ℕ) → r < n → K r (get_or counts r 0)
  pub met : (r : ℕ) → r < n → (used : KeepsOnlyUsed (m.rule r)) × Meets used.sense (total used.automaton 0 (along (m.rule r).scope duties)) (get_or counts r 0)

-- no two rules have a cell in common
abbrev pub NoneShared : Meaning → Type 0
NoneShared m = (r q i : ℕ) → r < m.rules → q < m.rules → OneOf (m.rule r).scope i → OneOf (m.rule q).scope i → r ≡ q

module _ (m : Meaning) (law : Lawful m) (none-shared : NoneShared m) (D K : ℕ → ℕ → Type 0) where
  -- the rule's sequence put into its cells, and its count put behind the others
  module _ (n : ℕ) (h : n < m.rules) (c : Choice m D K n) (duties counts : List ℕ) (b : Chosen m D K n duties counts) where
    abbrev new_duties : List ℕ
    new_duties = put (m.rule n).scope (λ j. get_or c.duties j 0) duties

    abbrev new_counts : List ℕ
    new_counts = counts ++ (c.count ∷ [])

    at_place : (j : ℕ) → j < length (m.rule n).scope → get_or new_duties (get_or (m.rule n).scope j 0) 0 ≡ get_or c.duties j 0
    at_place j l =
        let low : get_or (m.rule n).scope j 0 < 192 = (law.each n h).scope_inside (get_or (m.rule n).scope j 0) (j, l, refl) in
        put_at (m.rule n).scope (λ i. get_or c.duties i 0) duties j c.used.different l (omega (arith, b.size))

    beside : (i : ℕ) → (OneOf (m.rule n).scope i → ⊥) → get_or new_duties i 0 ≡ get_or duties i 0
    beside = put_other (m.rule n).scope (λ j. get_or c.duties j 0) duties

    new_fits : (i : ℕ) → i < 192 → D i (get_or new_duties i 0)
    new_fits =
        each_cell (λ i. i < 192 → D i (get_or new_duties i 0)) (m.rule n).scope
        (λ j l low. subst (D (get_or (m.rule n).scope j 0)) (sym (at_place j l)) (c.fits j l))
        (λ i o low. subst (D i) (sym (beside i o)) (b.fits i low))

    last : get_or new_counts n 0 ≡ c.count
    last = get_or_push counts c.count 0 n b.number

    earlier : (r : ℕ) → r < n → get_or new_counts r 0 ≡ get_or counts r 0
    earlier r l = get_or_append_left counts (c.count ∷ []) 0 r (omega (arith, b.number))

    own_along : along (m.rule n).scope new_duties ≡ c.duties
    own_along =
        ext_get_or 0 (along (m.rule n).scope new_duties) c.duties (length_along (m.rule n).scope new_duties ∙ sym c.size)
        (λ j l.
        let k : j < length (m.rule n).scope = omega (arith, length_along (m.rule n).scope new_duties) in
        along_at (m.rule n).scope new_duties j k ∙ at_place j k)

    other_along : (r : ℕ) → r < n → along (m.rule r).scope new_duties ≡ along (m.rule r).scope duties
    other_along r l =
        along_same (m.rule r).scope new_duties duties
        (λ i o. beside i (λ w. let e : r ≡ n = none-shared r n i (omega arith) h o w in absurd (omega arith)))

    abbrev Met : ℕ → Type 0
    Met r = (used : KeepsOnlyUsed (m.rule r)) × Meets used.sense (total used.automaton 0 (along (m.rule r).scope new_duties)) (get_or new_counts r 0)

    last_met : Met n
    last_met = (
      c.used,
      subst (λ (k : ℕ). Meets c.used.sense (total c.used.automaton 0 (along (m.rule n).scope new_duties)) k) (sym last)
          (subst (λ (ds : List ℕ). Meets c.used.sense (total c.used.automaton 0 ds) c.count) (sym own_along) c.met),
    )

    earlier_met : (r : ℕ) → r < n → Met r
    earlier_met r l =
        let w = b.met r l in (
          w.0,
          subst (λ (k : ℕ). Meets w.0.sense (total w.0.automaton 0 (along (m.rule r).scope new_duties)) k) (sym (earlier r l))
              (subst (λ (ds : List ℕ). Meets w.0.sense (total w.0.automaton 0 ds) (get_or counts r 0)) (sym (other_along r l)) w.1),
        )

    one_more : Chosen m D K (suc n) new_duties new_counts
    one_more =
        record {
          size = length_put (m.rule n).scope (λ j. get_or c.duties j 0) duties ∙ b.size;
          fits = new_fits;
          number = let e = length_push counts c.count in let f = b.number in omega arith;
          right = λ r l. ⊎_elim
              (λ (e : r ≡ n). subst (λ (q : ℕ). K q (get_or new_counts q 0)) (sym e) (subst (K n) (sym last) c.right))
              (λ (ne : r ≡ n → ⊥). let k : r < n = omega arith in subst (K r) (sym (earlier r k)) (b.right r k))
              (cases_eq r n);
          met = λ r l. ⊎_elim
              (λ (e : r ≡ n). subst Met (sym e) last_met)
              (λ (ne : r ≡ n → ⊥). earlier_met r (omega arith))
              (cases_eq r n);
        }

  -- with a duty for each cell to begin with, and a choice for each rule, there is such a filling
  module _ (base : List ℕ) (size : length base ≡ 192) (fits : (i : ℕ) → i < 192 → D i (get_or base i 0)) (pick : (r : ℕ) → r < m.rules → Choice m D K r) where
    chosen_below : (n : ℕ) → n ≤ m.rules → (duties : List ℕ) × (counts : List ℕ) × Chosen m D K n duties counts
    chosen_below zero h = (base, [], record { size = size; fits = fits; number = refl; right = λ r l. absurd (omega arith); met = λ r l. absurd (omega arith) })
    chosen_below (suc n) h =
        let b = chosen_below n (omega arith) in
        let c = pick n h in
        (put (m.rule n).scope (λ j. get_or c.duties j 0) b.0, b.1 ++ (c.count ∷ []), one_more n h c b.0 b.1 b.2)

    pub chosen : (duties : List ℕ) × (counts : List ℕ) × Chosen m D K m.rules duties counts
    chosen = chosen_below m.rules (omega arith)
