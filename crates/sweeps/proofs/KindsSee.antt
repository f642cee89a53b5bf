-- Which properties of codes each of the three measures sees.
use Rattle.std.proofs.Common.{◌≡◌, ℕ, ◌<◌, ◌≤◌, cond, ap, ◌∙◌, inl, inr, ⊎_elim, arith}
use Rattle.std.proofs.lemmas.Nat.{one_shl}
use Rattle.std.proofs.lemmas.Bool.{cases_lt, cases_eq, eq-eqb, ne_eqb}
use Rattle.masks.specs.Bit.{In, bit}
use Rattle.masks.proofs.Bits.{bit-bit_or, bit_one, bit_zero, bit_lt}
use Rattle.measures.specs.Kinds.{least, greatest, totals, shifted, shifted_far, top}
use Rattle.sweeps.proofs.Sees.{Sees}

-- the least total sees each bound below the largest code
pub least_sees : (c : ℕ) → c < top → Sees least (λ x. x ≤ c)
least_sees c h = record {
  never = λ n. omega arith;
  left = λ x y p. omega arith;
  right = λ x y p. omega arith;
  either = λ x y p. ⊎_elim (λ (l : x < y). inl (omega arith)) (λ (g : y ≤ x). inr (omega arith)) (cases_lt x y);
}

-- the greatest total sees each bound above none
pub greatest_sees : (f : ℕ) → 1 ≤ f → Sees greatest (λ x. f ≤ x)
greatest_sees f h = record {
  never = λ n. omega arith;
  left = λ x y p. omega arith;
  right = λ x y p. omega arith;
  either = λ x y p. ⊎_elim (λ (l : x < y). inr (omega arith)) (λ (g : y ≤ x). inl (omega arith)) (cases_lt x y);
}

-- the set of totals sees each member
pub totals_sees : (t : ℕ) → Sees totals (λ x. In x t)
totals_sees t = record {
  never = λ n. let z = bit_zero t in omega arith;
  left = λ x y p. let e = bit-bit_or x y t in let l = bit_lt y t in omega arith;
  right = λ x y p. let e = bit-bit_or x y t in let l = bit_lt x t in omega arith;
  either = λ x y p.
      let e = bit-bit_or x y t in
      ⊎_elim (λ (l : bit x t < bit y t). let k = bit_lt y t in inr (omega arith)) (λ (g : bit y t ≤ bit x t). let k = bit_lt x t in inl (omega arith)) (cases_lt (bit x t) (bit y t));
}

-- the set of one total has that total and no other
pub single_in : (n t : ℕ) → t < 64 → In (shifted 1 n) t → n ≡ t
single_in n t h p = ⊎_elim near (λ (g : 64 ≤ n). let z = ap (λ x. bit x t) (shifted_far 1 n g) in let y = bit_zero t in absurd (omega arith)) (cases_lt n 64)
  where
    near : n < 64 → n ≡ t
    near l = ⊎_elim (λ (e : n ≡ t). e)
        (λ (ne : n ≡ t → ⊥).
        let z : bit (shifted 1 n) t ≡ 0 = ap (λ x. bit x t) (one_shl n 64 l) ∙ bit_one n t ∙ ap (λ b. cond b 1 0) (ne_eqb n t ne) in absurd (omega arith))
        (cases_eq n t)

pub in_single : (n t : ℕ) → t < 64 → n ≡ t → In (shifted 1 n) t
in_single n t h e = ap (λ x. bit x t) (one_shl n 64 (omega arith)) ∙ bit_one n t ∙ ap (λ b. cond b 1 0) (eq-eqb n t e)
