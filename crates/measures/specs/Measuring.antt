-- A measure of sequences: codes up to a largest one, a code for none, a code to start from, an increase and a joining.
use Rattle.std.specs.Prelude.{◌≡◌, ℕ, ◌+◌, ◌≤◌}

pub record Measuring : Type 0 where
  pub largest : ℕ
  pub none : ℕ
  pub start : ℕ
  pub increase : ℕ → ℕ → ℕ
  pub join : ℕ → ℕ → ℕ

-- What a sweep rests on. That none drops out, and that an increase by 0 changes nothing, holds of every code; the rest of every number.
pub record Laws (m : Measuring) : Type 0 where
  pub join_assoc : (x y z : ℕ) → m.join (m.join x y) z ≡ m.join x (m.join y z)
  pub join_comm : (x y : ℕ) → m.join x y ≡ m.join y x
  pub none_drops_out : (x : ℕ) → x ≤ m.largest → m.join m.none x ≡ x
  pub none_stays_none : (n : ℕ) → m.increase m.none n ≡ m.none
  pub increase_spreads : (x y n : ℕ) → m.increase (m.join x y) n ≡ m.join (m.increase x n) (m.increase y n)
  pub increases_add : (x a b : ℕ) → m.increase (m.increase x a) b ≡ m.increase x (a + b)
  pub increase_by_zero : (x : ℕ) → x ≤ m.largest → m.increase x 0 ≡ x
  pub none_fits : m.none ≤ m.largest
  pub start_fits : m.start ≤ m.largest
  pub increase_fits : (x n : ℕ) → m.increase x n ≤ m.largest

-- What a measure that only looks for the best, or collects, keeps besides; no sweep rests on it.
pub record Idempotent (m : Measuring) : Type 0 where
  pub join_self : (x : ℕ) → m.join x x ≡ x
