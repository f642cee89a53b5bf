use Rattle.std.proofs.Common.{ℕ, ◌<◌, ◌≤◌, List, length, get_or, sym, subst, arith}
use Rattle.rules.specs.Rows.{Different}
use Rattle.rules.proofs.Row.new.Goals as goal

pub invariant_of-result : goal.invariant_of-result
invariant_of-result c =
    let good = c.in_ok-check_row.ensures in
    let same = sym c.in_ok-cells.ensures.items in
    record {
      some = subst (λ (xs : List ℕ). 1 ≤ length xs) same good.some;
      few = subst (λ (xs : List ℕ). length xs ≤ 64) same good.few;
      below = subst (λ (xs : List ℕ). (i : ℕ) → i < length xs → get_or xs i 0 < 192) same (λ i h. omega (arith, good.below i h, c.min.ensures));
      different = subst (λ (xs : List ℕ). Different xs) same good.different;
    }
