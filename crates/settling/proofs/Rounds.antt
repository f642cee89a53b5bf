-- What the rounds of settling come to.
use Rattle.std.proofs.Common.{◌≡◌, ℕ, ◌+◌, ◌-◌, ◌*◌, ◌<◌, ◌≤◌, min, get_or, sym, refl, ap, ◌∙◌, subst, inl, inr, ⊎_elim, add-zero, mul-le-mul_left, mul-one, mul-add, arith}
use Rattle.std.proofs.lemmas.Bool.{cases_eq}
use Rattle.masks.proofs.Parts.{within_empty}
use Rattle.families.specs.Meaning.{Meaning}
use Rattle.families.specs.Laws.{Lawful}
use Rattle.settling.specs.Masks.{Masks, Sized, Inside, AllOpen, SomeEmpty}
use Rattle.settling.specs.Rounds.{run, taken, Place, Names, lowest_cell, own_tally, End, well, fails, Settles, nothing_went, next_round, empties, next_rule}
use Rattle.settling.specs.Largest.{Stable, Outcome}
use Rattle.settling.proofs.Order.{inside_refl, inside_trans, sized_inside, room}
use Rattle.settling.proofs.Runs.{run_inside, run_sized, run_room, run_same, run_above, run_open}
use Rattle.settling.proofs.Largest.{largest_exists}

pub well_or_fails : (r : ℕ) (p : Place) → well ≡ fails r p → ⊥
well_or_fails r p q = let z : ◌≡◌ {A = ℕ} 0 1 = cc in omega arith

-- each rule below r leaves s as it is, if nothing went so far
abbrev Quiet : Meaning → ℕ → ℕ → Masks → Type 0
Quiet m r d s = d ≡ 0 → (j : ℕ) → j < r → j < m.rules → run m j s ≡ s

-- an empty mask leaves none to what is inside
pub named_empty : (m : Meaning) (t u : Masks) (r : ℕ) (p : Place) → r < m.rules → Names t r p → Inside u t → SomeEmpty m u
named_empty m t u r p h (lowest_cell i l e low) ins = inl (i, l, within_empty (get_or u.cells i 0) (get_or t.cells i 0) (ins.cells.each i) e)
named_empty m t u r p h (own_tally low e) ins = inr (r, h, within_empty (get_or u.tallies r 0) (get_or t.tallies r 0) (ins.tallies.each r) e)

-- the runs are few, whatever the rules do
pub settles_few : {m : Meaning} {t : Masks} {e : End} {r d : ℕ} {s : Masks} {n k : ℕ} → Settles m t e r d s n k → n ≤ (m.rules - r) + m.rules * (k + min 1 d)
settles_few (nothing_went r h q) = omega arith
settles_few {m} (next_round r d s n k h p w) =
    let i : n ≤ (m.rules - 0) + m.rules * (k + min 1 0) = settles_few w in
    let one : min 1 d ≡ 1 = omega arith in
    let a : m.rules * (k + min 1 d) ≡ m.rules * k + m.rules =
    ap (λ (x : ℕ). m.rules * (k + x)) one ∙ mul-add m.rules k 1 ∙ ap (λ (x : ℕ). m.rules * k + x) (mul-one m.rules) in
    let b : m.rules * (k + min 1 0) ≡ m.rules * k = ap (λ (x : ℕ). m.rules * x) (add-zero k) in
    omega (arith, i, a, b)
settles_few (empties r d s p h q a b) = omega arith
settles_few {m} (next_rule r d s n k h f w) =
    let i : n ≤ (m.rules - (r + 1)) + m.rules * (k + min 1 (d + taken m r s)) = settles_few w in
    let c : k + min 1 (d + taken m r s) ≤ taken m r s + k + min 1 d = omega arith in
    let l : m.rules * (k + min 1 (d + taken m r s)) ≤ m.rules * (taken m r s + k + min 1 d) = mul-le-mul_left m.rules c in
    omega (arith, i, l)

-- no mask at the end is empty, if none is at the start
pub settles_open : {m : Meaning} {t : Masks} {e : End} {r d : ℕ} {s : Masks} {n k : ℕ} → Settles m t e r d s n k → e ≡ well → AllOpen m s → AllOpen m t
settles_open (nothing_went r h q) e a = a
settles_open (next_round r d s n k h p w) e a = settles_open w e a
settles_open (empties r d s p h q x y) e a = absurd (well_or_fails r p (sym e ∙ y))
settles_open {m} (next_rule r d s n k h f w) e a = settles_open w e (run_open m r s a f)

-- a failure leaves an empty mask
pub settles_empty : {m : Meaning} {t : Masks} {e : End} {r d : ℕ} {s : Masks} {n k : ℕ} → Settles m t e r d s n k → (q : ℕ) (p : Place) → e ≡ fails q p → (q < m.rules) × Names t q p
settles_empty (nothing_went r h z) q p e = absurd (well_or_fails q p (sym z ∙ e))
settles_empty (next_round r d s n k h z w) q p e = settles_empty w q p e
settles_empty {m} {t} (empties r d s x h z y w) q p e =
    let a : r ≡ q = cc in
    let b : x ≡ p = cc in
    (subst (λ (i : ℕ). i < m.rules) a h, subst (λ (i : ℕ). Names t i p) a (subst (Names t r) b y))
settles_empty (next_rule r d s n k h f w) q p e = settles_empty w q p e

module _ (m : Meaning) (law : Lawful m) where
  pub settles_inside : {t : Masks} {e : End} {r d : ℕ} {s : Masks} {n k : ℕ} → Sized s → Settles m t e r d s n k → Inside t s
  settles_inside {t} z (nothing_went r h q) = inside_refl t
  settles_inside z (next_round r d s n k h p w) = settles_inside z w
  settles_inside {t} z (empties r d s p h q a b) = subst (λ (x : Masks). Inside x s) (sym q) (run_inside m law r s h z)
  settles_inside {t} z (next_rule r d s n k h f w) = inside_trans t (run m r s) s (settles_inside (run_sized m law r s h z) w) (run_inside m law r s h z)

  pub settles_sized : {t : Masks} {e : End} {r d : ℕ} {s : Masks} {n k : ℕ} → Sized s → Settles m t e r d s n k → Sized t
  settles_sized {t} {e} {r} {d} {s} z w = sized_inside t s z (settles_inside z w)

  -- masks that no rule changes stay inside to the end
  pub settles_above : {t : Masks} {e : End} {r d : ℕ} {s : Masks} {n k : ℕ} → Sized s → Settles m t e r d s n k → (u : Masks) → Stable m u → Inside u s → Inside u t
  settles_above z (nothing_went r h q) u st i = i
  settles_above z (next_round r d s n k h p w) u st i = settles_above z w u st i
  settles_above z (empties r d s p h q a b) u st i = subst (λ (x : Masks). Inside u x) (sym q) (run_above m law r s u h z st i)
  settles_above z (next_rule r d s n k h f w) u st i = settles_above (run_sized m law r s h z) w u st (run_above m law r s u h z st i)

  settles_quiet : {t : Masks} {e : End} {r d : ℕ} {s : Masks} {n k : ℕ} → Sized s → Settles m t e r d s n k → e ≡ well → Quiet m r d s → Stable m t
  settles_quiet z (nothing_went r h q) e quiet = λ j l. quiet refl j (omega arith) l
  settles_quiet z (next_round r d s n k h p w) e quiet = settles_quiet z w e (λ o j l. absurd (omega arith))
  settles_quiet z (empties r d s p h q a b) e quiet = absurd (well_or_fails r p (sym e ∙ b))
  settles_quiet z (next_rule r d s n k h f w) e quiet =
      settles_quiet (run_sized m law r s h z) w e (λ o j l g.
      let same : run m r s ≡ s = run_same m law r s h z (omega arith) in
      subst (λ (x : Masks). run m j x ≡ x) (sym same)
      (⊎_elim
      (λ (q : j ≡ r). subst (λ (i : ℕ). run m i s ≡ s) (sym q) same)
      (λ (ne : j ≡ r → ⊥). quiet (omega arith) j (omega arith) g)
      (cases_eq j r)))

  -- rounds that end well end where no rule removes anything
  pub settles_stable : {t : Masks} {s : Masks} {n k : ℕ} → Sized s → Settles m t well 0 0 s n k → Stable m t
  settles_stable z w = settles_quiet z w refl (λ o j l. absurd (omega arith))

  -- they take just the values that no longer stand open
  pub settles_count : {t : Masks} {e : End} {r d : ℕ} {s : Masks} {n k : ℕ} → Sized s → Settles m t e r d s n k → room t + k ≡ room s
  settles_count {t} z (nothing_went r h q) = add-zero (room t)
  settles_count z (next_round r d s n k h p w) = settles_count z w
  settles_count {t} z (empties r d s p h q a b) = ap (λ (x : Masks). room x + taken m r s) q ∙ run_room m law r s h z
  settles_count {t} z (next_rule r d s n k h f w) =
      let i : room t + k ≡ room (run m r s) = settles_count (run_sized m law r s h z) w in
      let j : room (run m r s) + taken m r s ≡ room s = run_room m law r s h z in
      omega arith

  pub settles_outcome : {t : Masks} {e : End} {s : Masks} {n k : ℕ} → Sized s → AllOpen m s → Settles m t e 0 0 s n k → Outcome m s t e n k
  settles_outcome {t} {e} {s} {n} {k} z a w =
      record {
        ends_with_largest = λ q. (record { stable = settles_quiet z w q (λ o j l. absurd (omega arith)); inside = settles_inside z w; above = settles_above z w }, settles_open w q a);
        fails_where_largest_is_empty = λ r p q.
            let b = largest_exists m law s z in
            let c = settles_empty w r p q in
            (b.0, b.1, named_empty m t b.0 r p c.0 c.1 (settles_above z w b.0 b.1.stable b.1.inside));
        few_runs =
            let i : n ≤ (m.rules - 0) + m.rules * (k + min 1 0) = settles_few w in
            let b : m.rules * (k + min 1 0) ≡ m.rules * k = ap (λ (x : ℕ). m.rules * x) (add-zero k) in
            let c : m.rules * (1 + k) ≡ m.rules * 1 + m.rules * k = mul-add m.rules 1 k in
            let d : m.rules * 1 ≡ m.rules = mul-one m.rules in
            omega (arith, i, b, c, d);
      }
