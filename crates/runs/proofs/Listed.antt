-- One turn of a loop over the members of a mask, and the mask that it makes.
use Rattle.std.proofs.Common.{◌≡◌, ℕ, ◌^◌, ◌<◌, ◌≤◌, Bool, true, false, cond, eqb, ◌⊎◌, [], ◌∷◌, sym, refl, ap, ◌∙◌, subst, inl, inr, ⊎_elim, arith}
use lib.Bits.{bit_or}
use Rattle.std.proofs.lemmas.Nat.{or_lt, pow_below}
use Rattle.std.proofs.lemmas.Bool.{cases_lt, cases_eq, eqb-true, eq-eqb, ne_eqb, false≢true}
use Rattle.masks.specs.Bit.{bit, In}
use Rattle.masks.specs.Members.{members}
use Rattle.masks.proofs.Bits.{bit_past, bit_with, bit_zero}
use Rattle.runs.specs.Choosing.{any, sieve}
use Rattle.runs.proofs.Sieves.{sieve_is}
use Rattle.runs.proofs.Tests.{or_left, or_right, or_either, any_members}

module _ (s t k : ℕ) (is : members 64 s ≡ k ∷ members 64 t) where
  -- the first of the list is a member
  pub first_in : (k < 64) × In s k
  first_in =
      let w = (any_members (λ j. eqb k j) 64 s).0 (ap (any (λ j. eqb k j)) is ∙ or_left (eqb k k) (any (λ j. eqb k j) (members 64 t)) (eq-eqb k k refl)) in
      let same = eqb-true k w.0 w.3 in
      (omega (arith, w.1), subst (λ (j : ℕ). In s j) (sym same) w.2)

  -- so is what is left
  pub left_in : (j : ℕ) → j < 64 → In t j → In s j
  left_in j h i =
      let r = (any_members (λ m. eqb j m) 64 t).1 (j, h, i, eq-eqb j j refl) in
      let w = (any_members (λ m. eqb j m) 64 s).0 (ap (any (λ m. eqb j m)) is ∙ or_right (eqb j k) (any (λ m. eqb j m) (members 64 t)) r) in
      subst (λ (m : ℕ). In s m) (sym (eqb-true j w.0 w.3)) w.2

  -- and there is no other
  pub in_left : (j : ℕ) → j < 64 → In s j → (j ≡ k) ⊎ In t j
  in_left j h i = ⊎_elim
      (λ e. inl (eqb-true j k e))
      (λ e. let w = (any_members (λ m. eqb j m) 64 t).0 e in inr (subst (λ (m : ℕ). In t m) (sym (eqb-true j w.0 w.3)) w.2))
      (or_either (eqb j k) (any (λ m. eqb j m) (members 64 t)) (sym (ap (any (λ m. eqb j m)) is) ∙ (any_members (λ m. eqb j m) 64 s).1 (j, h, i, eq-eqb j j refl)))

-- nothing is left
pub none_left : (s j : ℕ) → members 64 s ≡ [] → j < 64 → In s j → ⊥
none_left s j is h i = false≢true (sym (ap (any (λ m. eqb j m)) is) ∙ (any_members (λ m. eqb j m) 64 s).1 (j, h, i, eq-eqb j j refl))

-- of a mask, what is left to look at, and what passed of what was looked at
pub record Sifted (mask : ℕ) (p : ℕ → Bool) (left kept : ℕ) : Type 0 where
  pub narrow : mask < 2 ^ 16
  pub small : kept < 2 ^ 16
  pub part : (k : ℕ) → k < 64 → In left k → In mask k
  pub passed : (k : ℕ) → k < 64 → In kept k → In mask k × (p k ≡ true)
  pub whole : (k : ℕ) → k < 64 → In mask k → p k ≡ true → In kept k ⊎ In left k

pub sifted_none : (mask : ℕ) (p : ℕ → Bool) (left : ℕ) → mask < 2 ^ 16 → left ≡ mask → Sifted mask p left 0
sifted_none mask p left h e = record {
  narrow = h;
  small = omega arith;
  part = λ k h i. subst (λ (m : ℕ). In m k) e i;
  passed = λ k h i. let z = bit_zero k in absurd (omega arith);
  whole = λ k h i t. inr (subst (λ (m : ℕ). In m k) (sym e) i);
}

module _ {mask : ℕ} {p : ℕ → Bool} {left kept : ℕ} where
  -- the next to look at is a duty of the mask
  pub sifted_next : (rest k : ℕ) → members 64 left ≡ k ∷ members 64 rest → Sifted mask p left kept → (k < 16) × In mask k
  sifted_next rest k is old =
      let f = first_in left rest k is in
      let held = old.part k f.0 f.1 in
      (⊎_elim (λ (l : k < 16). l) (λ (g : 16 ≤ k). absurd (omega (arith, held, bit_past 16 mask k old.narrow g))) (cases_lt k 16), held)

  pub sifted_hit : (rest new k : ℕ) → members 64 left ≡ k ∷ members 64 rest → p k ≡ true → new ≡ bit_or kept (2 ^ k) → Sifted mask p left kept → Sifted mask p rest new
  sifted_hit rest new k is hit e old = record {
    narrow = old.narrow;
    small = subst (λ (m : ℕ). m < 2 ^ 16) (sym e) (or_lt 16 kept (2 ^ k) old.small (pow_below k 16 (sifted_next rest k is old).0));
    part = λ j h i. old.part j h (left_in left rest k is j h i);
    passed = λ j h i. ⊎_elim
        (λ (same : k ≡ j). subst (λ (n : ℕ). In mask n × (p n ≡ true)) same (old.part k (first_in left rest k is).0 (first_in left rest k is).1, hit))
        (λ (ne : k ≡ j → ⊥). old.passed j h (sym (other j ne) ∙ i))
        (cases_eq k j);
    whole = λ j h i t. ⊎_elim
        (λ (o : In kept j). inl (stays j o))
        (λ (o : In left j). ⊎_elim (λ (same : j ≡ k). inl (bits j ∙ ap (λ b. cond b 1 (bit kept j)) (eq-eqb k j (sym same)))) inr (in_left left rest k is j h o))
        (old.whole j h i t);
  }
    where
      bits : (j : ℕ) → bit new j ≡ cond (eqb k j) 1 (bit kept j)
      bits j = ap (λ (m : ℕ). bit m j) e ∙ bit_with kept k j

      other : (j : ℕ) → (k ≡ j → ⊥) → bit new j ≡ bit kept j
      other j ne = bits j ∙ ap (λ b. cond b 1 (bit kept j)) (ne_eqb k j ne)

      stays : (j : ℕ) → In kept j → In new j
      stays j o = ⊎_elim (λ (same : k ≡ j). bits j ∙ ap (λ b. cond b 1 (bit kept j)) (eq-eqb k j same)) (λ (ne : k ≡ j → ⊥). other j ne ∙ o) (cases_eq k j)

  pub sifted_miss : (rest k : ℕ) → members 64 left ≡ k ∷ members 64 rest → p k ≡ false → Sifted mask p left kept → Sifted mask p rest kept
  sifted_miss rest k is miss old = record {
    narrow = old.narrow;
    small = old.small;
    part = λ j h i. old.part j h (left_in left rest k is j h i);
    passed = old.passed;
    whole = λ j h i t. ⊎_elim
        inl
        (λ (o : In left j). ⊎_elim (λ (same : j ≡ k). absurd (false≢true (sym miss ∙ subst (λ (n : ℕ). p n ≡ true) same t))) inr (in_left left rest k is j h o))
        (old.whole j h i t);
  }

  -- all is looked at
  pub sifted_all : members 64 left ≡ [] → Sifted mask p left kept → kept ≡ sieve 16 mask p
  sifted_all is s =
      sieve_is 16 mask kept p s.small
      (λ k h i. s.passed k (omega arith) i)
      (λ k h i t. ⊎_elim (λ (o : In kept k). o) (λ (o : In left k). absurd (none_left left k is (omega arith) o)) (s.whole k (omega arith) i t))
