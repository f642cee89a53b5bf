-- The members of a mask as a list.
use Rattle.std.specs.Prelude.{ℕ, zero, suc, cond, not, ◌&&◌, List, [], ◌∷◌, ◌++◌}
use Rattle.masks.specs.Bit.{has}

-- the members below n, in ascending order
unfoldable pub members : ℕ → ℕ → List ℕ
members zero mask = []
members (suc n) mask = cond (has mask n) (members n mask ++ (n ∷ [])) (members n mask)

-- the numbers below n that are in one mask and not in another, in ascending order
unfoldable pub lost : ℕ → ℕ → ℕ → List ℕ
lost zero before after = []
lost (suc n) before after = cond (has before n && not (has after n)) (lost n before after ++ (n ∷ [])) (lost n before after)
