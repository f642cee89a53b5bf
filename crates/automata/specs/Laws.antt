-- Each kind of automaton keeps the laws.
use Rattle.std.specs.Prelude.{◌≡◌, ℕ, ◌+◌, ◌*◌, ◌/◌, ◌%◌, ◌^◌, ◌<◌, ◌≤◌, cond, ◌⊎◌, List, nat_lt, slice_index, refl}
use Rattle.std.proofs.Common.{⊎_elim, arith}
use Rattle.std.proofs.lemmas.Bool.{ltb-true, cond_both}
use Rattle.std.proofs.lemmas.Nat.{mod_below}
use Rattle.masks.specs.Bit.{bit}
use Rattle.automata.specs.Automaton.{Automaton, Lawful}
use Rattle.automata.specs.Kinds.{inside, among, mapped, clamped, table}

-- what holds of 0, and of x inside, holds of `inside`
pub inside_all : (P : ℕ → Type 0) (s q d x : ℕ) → P 0 → (q < s → d < 16 → P x) → P (inside s q d x)
inside_all P s q d x none some =
    cond_both (nat_lt q s) (cond (nat_lt d 16) x 0) 0 P
    (λ e. cond_both (nat_lt d 16) x 0 P (λ f. some (ltb-true q s e) (ltb-true d 16 f)) (λ _. none))
    (λ _. none)

pub inside_none : (s q d x : ℕ) → (s ≤ q) ⊎ (16 ≤ d) → inside s q d x ≡ 0
inside_none s q d x out = inside_all (λ y. y ≡ 0) s q d x refl (λ h k. absurd (⊎_elim (λ a. omega arith) (λ b. omega arith) out))

pub among_lawful : (set : ℕ) → Lawful (among set)
among_lawful set = record {
  some = omega arith;
  few = omega arith;
  next_below = λ q d. omega arith;
  increase_small = λ q d. inside_all (λ y. y ≤ 15) 1 q d (bit set d) (omega arith) (λ _ _. omega (arith, mod_below (set / 2 ^ d) 2));
  outside = λ q d out. (refl, inside_none 1 q d (bit set d) out);
}

pub mapped_lawful : (classes : List ℕ) (a : Automaton) → Lawful a → Lawful (mapped classes a)
mapped_lawful classes a l = record {
  some = l.some;
  few = l.few;
  next_below = λ q d. inside_all (λ y. y < a.states) a.states q d (a.next q (slice_index classes d)) (omega (arith, l.some)) (λ h k. l.next_below q (slice_index classes d));
  increase_small = λ q d. inside_all (λ y. y ≤ 15) a.states q d (a.increase q (slice_index classes d)) (omega arith) (λ _ _. l.increase_small q (slice_index classes d));
  outside = λ q d out. (inside_none a.states q d (a.next q (slice_index classes d)) out, inside_none a.states q d (a.increase q (slice_index classes d)) out);
}

pub table_lawful : (s : ℕ) (steps : List ℕ) → Lawful (table s steps)
table_lawful s steps = record {
  some = omega arith;
  few = omega arith;
  next_below = λ q d. inside_all (λ y. y < clamped s) (clamped s) q d (picked q d) (omega arith)
      (λ h k. cond_both (nat_lt (slice_index steps (16 * q + d) / 16) (clamped s)) (slice_index steps (16 * q + d) / 16) 0 (λ y. y < clamped s) (λ e. ltb-true (slice_index steps (16 * q + d) / 16) (clamped s) e) (λ _. omega arith));
  increase_small = λ q d. inside_all (λ y. y ≤ 15) (clamped s) q d (slice_index steps (16 * q + d) % 16) (omega arith) (λ _ _. omega (arith, mod_below (slice_index steps (16 * q + d)) 16));
  outside = λ q d out. (inside_none (clamped s) q d (picked q d) out, inside_none (clamped s) q d (slice_index steps (16 * q + d) % 16) out);
}
  where
    picked : ℕ → ℕ → ℕ
    picked q d = cond (nat_lt (slice_index steps (16 * q + d) / 16) (clamped s)) (slice_index steps (16 * q + d) / 16) 0
