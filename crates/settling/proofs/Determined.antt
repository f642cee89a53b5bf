-- The rounds are determined by the masks that they start from.
use Rattle.std.proofs.Common.{◌≡◌, ℕ, zero, suc, ◌+◌, ◌<◌, ◌≤◌, ◌⊎◌, List, get_or, sym, refl, ap, ◌∙◌, subst, inl, inr, ⊎_elim, arith}
use Rattle.std.proofs.lemmas.Bool.{cases_eq, cases_lt}
use Rattle.families.specs.Meaning.{Meaning}
use Rattle.families.specs.Laws.{Lawful}
use Rattle.settling.specs.Masks.{Masks, Sized}
use Rattle.settling.specs.Rounds.{run, taken, Place, cell, tally, Names, lowest_cell, own_tally, Full, End, well, fails, Settles, nothing_went, next_round, empties, next_rule}
use Rattle.settling.proofs.Order.{room}
use Rattle.settling.proofs.Runs.{run_sized, run_room}

-- at most one mask is named
pub names_one : {t : Masks} {r : ℕ} {p q : Place} → Names t r p → Names t r q → p ≡ q
names_one (lowest_cell i l e low) (lowest_cell j k f lower) =
    ap cell (⊎_elim (λ (h : i < j). absurd (omega (arith, lower i h))) (λ (h : j ≤ i). ⊎_elim (λ (g : j < i). absurd (omega (arith, low j g))) (λ (g : i ≤ j). omega arith) (cases_lt j i)) (cases_lt i j))
names_one (lowest_cell i l e low) (own_tally all f) = absurd (omega (arith, all i l))
names_one (own_tally all e) (lowest_cell j k f lower) = absurd (omega (arith, all j k))
names_one (own_tally all e) (own_tally every f) = refl

-- a mask is named or none is empty, and not both
pub names_not_full : {t : Masks} {r : ℕ} {p : Place} → Names t r p → Full t r → ⊥
names_not_full (lowest_cell i l e low) f = omega (arith, f.cells i l)
names_not_full (own_tally all e) f = omega (arith, f.tally)

abbrev First : List ℕ → ℕ → Type 0
First xs n = ((i : ℕ) × (i < n) × (get_or xs i 0 ≡ 0) × ((j : ℕ) → j < i → 0 < get_or xs j 0)) ⊎ ((j : ℕ) → j < n → 0 < get_or xs j 0)

first_empty : (xs : List ℕ) (n : ℕ) → First xs n
first_empty xs zero = inr (λ j l. absurd (omega arith))
first_empty xs (suc n) =
    ⊎_elim
    (λ (f : (i : ℕ) × (i < n) × (get_or xs i 0 ≡ 0) × ((j : ℕ) → j < i → 0 < get_or xs j 0)). let h : f.0 < n = f.1 in inl (f.0, omega arith, f.2, f.3))
    (λ (all : (j : ℕ) → j < n → 0 < get_or xs j 0).
    ⊎_elim
    (λ (e : get_or xs n 0 ≡ 0). inl (n, omega arith, e, all))
    (λ (ne : get_or xs n 0 ≡ 0 → ⊥). inr (λ j l. ⊎_elim (λ (q : j ≡ n). subst (λ (x : ℕ). 0 < get_or xs x 0) (sym q) (omega arith)) (λ (o : j ≡ n → ⊥). all j (omega arith)) (cases_eq j n)))
    (cases_eq (get_or xs n 0) 0))
    (first_empty xs n)

pub names_or_full : (t : Masks) (r : ℕ) → ((p : Place) × Names t r p) ⊎ Full t r
names_or_full t r =
    ⊎_elim
    (λ (f : (i : ℕ) × (i < 192) × (get_or t.cells i 0 ≡ 0) × ((j : ℕ) → j < i → 0 < get_or t.cells j 0)). inl (cell f.0, lowest_cell f.0 f.1 f.2 f.3))
    (λ (all : (j : ℕ) → j < 192 → 0 < get_or t.cells j 0).
    ⊎_elim
    (λ (e : get_or t.tallies r 0 ≡ 0). inl (tally, own_tally all e))
    (λ (ne : get_or t.tallies r 0 ≡ 0 → ⊥). inr (record { cells = all; tally = omega arith }))
    (cases_eq (get_or t.tallies r 0) 0))
    (first_empty t.cells 192)

-- two tellings of the same rounds agree
pub settles_one : {m : Meaning} {t : Masks} {e : End} {r d : ℕ} {s : Masks} {n k : ℕ} {t' : Masks} {e' : End} {n' k' : ℕ} → Settles m t e r d s n k → Settles m t' e' r d s n' k' → (t ≡ t') × (e ≡ e') × (n ≡ n') × (k ≡ k')
settles_one (nothing_went r1 h1 q1) (nothing_went r2 h2 q2) = (refl, q1 ∙ sym q2, refl, refl)
settles_one (nothing_went r1 h1 q1) (next_round r2 d2 s2 n2 k2 h2 p2 w2) = absurd (omega arith)
settles_one (nothing_went r1 h1 q1) (empties r2 d2 s2 p2 h2 q2 a2 b2) = absurd (omega arith)
settles_one (nothing_went r1 h1 q1) (next_rule r2 d2 s2 n2 k2 h2 f2 w2) = absurd (omega arith)
settles_one (next_round r1 d1 s1 n1 k1 h1 p1 w1) (nothing_went r2 h2 q2) = absurd (omega arith)
settles_one (next_round r1 d1 s1 n1 k1 h1 p1 w1) (next_round r2 d2 s2 n2 k2 h2 p2 w2) = settles_one w1 w2
settles_one (next_round r1 d1 s1 n1 k1 h1 p1 w1) (empties r2 d2 s2 p2 h2 q2 a2 b2) = absurd (omega arith)
settles_one (next_round r1 d1 s1 n1 k1 h1 p1 w1) (next_rule r2 d2 s2 n2 k2 h2 f2 w2) = absurd (omega arith)
settles_one (empties r1 d1 s1 p1 h1 q1 a1 b1) (nothing_went r2 h2 q2) = absurd (omega arith)
settles_one (empties r1 d1 s1 p1 h1 q1 a1 b1) (next_round r2 d2 s2 n2 k2 h2 p2 w2) = absurd (omega arith)
settles_one {m} (empties r1 d1 s1 p1 h1 q1 a1 b1) (empties r2 d2 s2 p2 h2 q2 a2 b2) =
    let same : p1 ≡ p2 = names_one (subst (λ (x : Masks). Names x r1 p1) q1 a1) (subst (λ (x : Masks). Names x r1 p2) q2 a2) in
    (q1 ∙ sym q2, b1 ∙ ap (fails r1) same ∙ sym b2, refl, refl)
settles_one (empties r1 d1 s1 p1 h1 q1 a1 b1) (next_rule r2 d2 s2 n2 k2 h2 f2 w2) = absurd (names_not_full (subst (λ (x : Masks). Names x r1 p1) q1 a1) f2)
settles_one (next_rule r1 d1 s1 n1 k1 h1 f1 w1) (nothing_went r2 h2 q2) = absurd (omega arith)
settles_one (next_rule r1 d1 s1 n1 k1 h1 f1 w1) (next_round r2 d2 s2 n2 k2 h2 p2 w2) = absurd (omega arith)
settles_one (next_rule r1 d1 s1 n1 k1 h1 f1 w1) (empties r2 d2 s2 p2 h2 q2 a2 b2) = absurd (names_not_full (subst (λ (x : Masks). Names x r1 p2) q2 a2) f1)
settles_one {m} (next_rule r1 d1 s1 n1 k1 h1 f1 w1) (next_rule r2 d2 s2 n2 k2 h2 f2 w2) =
    let i = settles_one w1 w2 in
    (i.0, i.1, ap (λ (x : ℕ). x + 1) i.2, ap (λ (x : ℕ). taken m r1 s1 + x) i.3)

module _ (m : Meaning) (law : Lawful m) where
  abbrev Told : ℕ → ℕ → Masks → Type 0
  Told r d s = (t : Masks) × (e : End) × (n : ℕ) × (k : ℕ) × Settles m t e r d s n k

  -- from rule r on, i rules before the round's end, where the round began with f values open
  along : (f i r d : ℕ) (s : Masks) → Sized s → i + r ≡ m.rules → room s + d ≡ f → ((u : Masks) → Sized u → room u < f → Told 0 0 u) → Told r d s
  along f zero r d s z e g rec =
      ⊎_elim
      (λ (q : d ≡ 0). (s, well, 0, 0, subst (λ (x : ℕ). Settles m s well r x s 0 0) (sym q) (nothing_went r (omega arith) refl)))
      (λ (ne : d ≡ 0 → ⊥). let w = rec s z (omega arith) in (w.0, w.1, w.2, w.3, next_round r d s w.2 w.3 (omega arith) (omega arith) w.4))
      (cases_eq d 0)
  along f (suc i) r d s z e g rec =
      let h : r < m.rules = omega arith in
      ⊎_elim
      (λ (b : (p : Place) × Names (run m r s) r p). (run m r s, fails r b.0, 1, taken m r s, empties r d s b.0 h refl b.1 refl))
      (λ (b : Full (run m r s) r).
      let c : room (run m r s) + taken m r s ≡ room s = run_room m law r s h z in
      let w = along f i (r + 1) (d + taken m r s) (run m r s) (run_sized m law r s h z) (omega arith) (omega arith) rec in
      (w.0, w.1, w.2 + 1, taken m r s + w.3, next_rule r d s w.2 w.3 h b w.4))
      (names_or_full (run m r s) r)

  by_room : (f : ℕ) (s : Masks) → Sized s → room s ≤ f → Told 0 0 s
  by_room zero s z h = along (room s) m.rules 0 0 s z (omega arith) (omega arith) (λ u y l. absurd (omega arith))
  by_room (suc f) s z h = along (room s) m.rules 0 0 s z (omega arith) (omega arith) (λ u y l. by_room f u y (omega arith))

  -- from any masks there are rounds
  pub settles_exist : (s : Masks) → Sized s → (t : Masks) × (e : End) × (n : ℕ) × (k : ℕ) × Settles m t e 0 0 s n k
  settles_exist s z = by_room (room s) s z (omega arith)
