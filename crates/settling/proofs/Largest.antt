-- The largest masks from which no rule removes anything: there are such, and only one.
use Rattle.std.proofs.Common.{◌≡◌, ℕ, zero, suc, ◌<◌, ◌≤◌, sym, subst, ⊎_elim, arith}
use Rattle.std.proofs.lemmas.Bool.{cases_eq}
use Rattle.families.specs.Meaning.{Meaning}
use Rattle.families.specs.Laws.{Lawful}
use Rattle.settling.specs.Masks.{Masks, Sized, Inside}
use Rattle.settling.specs.Rounds.{run}
use Rattle.settling.specs.Largest.{Stable, Largest}
use Rattle.settling.proofs.Order.{inside_refl, inside_trans, inside_antisym, sized_inside, room, inside_room, inside_same}
use Rattle.settling.proofs.Runs.{run_inside, run_above}

-- there is only one
pub largest_one : (m : Meaning) (s t u : Masks) → Largest m s t → Largest m s u → t ≡ u
largest_one m s t u p q = inside_antisym t u (q.above t p.stable p.inside) (p.above u q.stable q.inside)

-- it is masks as they are
pub largest_sized : (m : Meaning) (s t : Masks) → Sized s → Largest m s t → Sized t
largest_sized m s t z p = sized_inside t s z p.inside

-- masks that no rule changes are the largest inside themselves
pub largest_stable : (m : Meaning) (s : Masks) → Stable m s → Largest m s s
largest_stable m s st = record { stable = st; inside = inside_refl s; above = λ u us i. i }

module _ (m : Meaning) (law : Lawful m) where
  -- the first i rules run in a row
  sweep : ℕ → Masks → Masks
  sweep zero s = s
  sweep (suc i) s = run m i (sweep i s)

  sweep_inside : (i : ℕ) (s : Masks) → i ≤ m.rules → Sized s → Inside (sweep i s) s
  unfolding sweep
  sweep_inside zero s h z = inside_refl s
  sweep_inside (suc i) s h z =
      let b = sweep_inside i s (omega arith) z in
      inside_trans (run m i (sweep i s)) (sweep i s) s (run_inside m law i (sweep i s) h (sized_inside (sweep i s) s z b)) b

  sweep_sized : (i : ℕ) (s : Masks) → i ≤ m.rules → Sized s → Sized (sweep i s)
  sweep_sized i s h z = sized_inside (sweep i s) s z (sweep_inside i s h z)

  sweep_above : (i : ℕ) (s u : Masks) → i ≤ m.rules → Sized s → Stable m u → Inside u s → Inside u (sweep i s)
  unfolding sweep
  sweep_above zero s u h z st n = n
  sweep_above (suc i) s u h z st n = run_above m law i (sweep i s) u h (sweep_sized i s (omega arith) z) st (sweep_above i s u (omega arith) z st n)

  sweep_same : (i : ℕ) (s : Masks) → i ≤ m.rules → Sized s → room (sweep i s) ≡ room s → (j : ℕ) → j < i → run m j s ≡ s
  unfolding sweep
  sweep_same zero s h z e j l = absurd (omega arith)
  sweep_same (suc i) s h z e j l =
      let o : i ≤ m.rules = omega arith in
      let b = sweep_inside i s o z in
      let y = sweep_sized i s o z in
      let step = run_inside m law i (sweep i s) h y in
      let p : room (sweep i s) ≤ room s = inside_room (sweep i s) s b in
      let q : room (run m i (sweep i s)) ≤ room (sweep i s) = inside_room (run m i (sweep i s)) (sweep i s) step in
      let c : room (sweep i s) ≡ room s = omega arith in
      let d : sweep i s ≡ s = inside_same (sweep i s) s z b c in
      let f : run m i (sweep i s) ≡ sweep i s = inside_same (run m i (sweep i s)) (sweep i s) y step (omega arith) in
      ⊎_elim
      (λ (g : j ≡ i). subst (λ (x : ℕ). run m x s ≡ s) (sym g) (subst (λ (x : Masks). run m i x ≡ x) d f))
      (λ (ne : j ≡ i → ⊥). sweep_same i s o z c j (omega arith))
      (cases_eq j i)

  abbrev Some : Masks → Type 0
  Some s = (t : Masks) × Largest m s t

  one : (s : Masks) → Sized s → ((u : Masks) → Sized u → room u < room s → Some u) → Some s
  one s z rec =
      let o : m.rules ≤ m.rules = omega arith in
      let b = sweep_inside m.rules s o z in
      ⊎_elim
      (λ (e : room (sweep m.rules s) ≡ room s). (s, largest_stable m s (sweep_same m.rules s o z e)))
      (λ (ne : room (sweep m.rules s) ≡ room s → ⊥).
      let le : room (sweep m.rules s) ≤ room s = inside_room (sweep m.rules s) s b in
      let c = rec (sweep m.rules s) (sweep_sized m.rules s o z) (omega arith) in (
        c.0,
        record {
          stable = c.1.stable;
          inside = inside_trans c.0 (sweep m.rules s) s c.1.inside b;
          above = λ u st i. c.1.above u st (sweep_above m.rules s u o z st i);
        },
      ))
      (cases_eq (room (sweep m.rules s)) (room s))

  by_room : (f : ℕ) (s : Masks) → Sized s → room s ≤ f → Some s
  by_room zero s z h = one s z (λ u y l. absurd (omega arith))
  by_room (suc f) s z h = one s z (λ u y l. by_room f u y (omega arith))

  pub largest_exists : (s : Masks) → Sized s → (t : Masks) × Largest m s t
  largest_exists s z = by_room (room s) s z (omega arith)

-- a way to make masks smaller: never larger masks of smaller ones, and nothing is lost that the smaller of two would keep
pub record Narrows (narrow : Masks → Masks) : Type 0 where
  pub inside : (s : Masks) → Inside (narrow s) s
  pub monotone : (s t : Masks) → Inside s t → Inside (narrow s) (narrow t)
  pub meets : (u s t : Masks) → Inside u (narrow s) → Inside u t → Inside u (narrow t)

module _ (m : Meaning) (narrow : Masks → Masks) (n : Narrows narrow) (s t u : Masks) (big : Largest m s t) where
  -- to narrow the largest masks is to narrow those that they came from
  pub largest_narrow : Largest m (narrow t) u → Largest m (narrow s) u
  largest_narrow new =
      record {
        stable = new.stable;
        inside = inside_trans u (narrow t) (narrow s) new.inside (n.monotone t s big.inside);
        above = λ v st i. new.above v st (n.meets v s t i (big.above v st (inside_trans v (narrow s) s i (n.inside s))));
      }

  pub largest_widen : Largest m (narrow s) u → Largest m (narrow t) u
  largest_widen new =
      record {
        stable = new.stable;
        inside = n.meets u s t new.inside (big.above u new.stable (inside_trans u (narrow s) s new.inside (n.inside s)));
        above = λ v st i. new.above v st (inside_trans v (narrow t) (narrow s) i (n.monotone t s big.inside));
      }
