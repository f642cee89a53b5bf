-- Tests over lists, and the part of a mask that passes a test.
use Rattle.std.specs.Prelude.{ℕ, zero, suc, ◌+◌, ◌^◌, Bool, false, cond, ◌&&◌, ◌||◌, List, [], ◌∷◌}
use Rattle.masks.specs.Bit.{has}

-- some element passes
abbrev pub any : {X : Type 0} → (X → Bool) → List X → Bool
any p [] = false
any p (x ∷ xs) = p x || any p xs

-- the members below n of a mask that pass
unfoldable pub sieve : ℕ → ℕ → (ℕ → Bool) → ℕ
sieve zero mask p = 0
sieve (suc n) mask p = sieve n mask p + cond (has mask n && p n) (2 ^ n) 0
