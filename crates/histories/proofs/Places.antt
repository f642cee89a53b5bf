-- What stands at a place: of a row without repeats, of a sequence over masks; and a member of a mask that is not empty.
use Rattle.std.proofs.Common.{◌≡◌, ℕ, zero, suc, ◌^◌, ◌<◌, ◌⊎◌, List, length, get_or, sym, refl, ap, ⊎_elim, arith}
use lib.Count.{count_trailing_zeros}
use Rattle.std.proofs.lemmas.Bool.{cases_order}
use Rattle.masks.specs.Bit.{In}
use Rattle.masks.proofs.Lowest.{lowest}
use Rattle.rules.specs.Rows.{Different}
use Rattle.sweeps.specs.Sequences.{From, ends, takes}

-- a mask that is not empty has a member
pub first_member : (n x : ℕ) → 0 < x → x < 2 ^ n → In x (count_trailing_zeros n x)
first_member n x some small = (lowest n x some small).here

-- a cell stands at one place
pub one_place : (xs : List ℕ) (i j : ℕ) → Different xs → i < length xs → j < length xs → get_or xs i 0 ≡ get_or xs j 0 → i ≡ j
one_place xs i j different hi hj e =
    ⊎_elim (λ (s : i ≡ j). s)
    (λ (o : (i < j) ⊎ (j < i)). ⊎_elim (λ (l : i < j). absurd (different j hj (i, l, e))) (λ (l : j < i). absurd (different i hi (j, l, sym e))) o)
    (cases_order i j)

-- a sequence has one open duty of each mask
pub from_length : {ms ds : List ℕ} → From ms ds → length ds ≡ length ms
from_length ends = refl
from_length (takes h i r) = ap suc (from_length r)

pub from_at : {ms ds : List ℕ} → From ms ds → (j : ℕ) → j < length ms → In (get_or ms j 0) (get_or ds j 0)
from_at ends j l = absurd (omega arith)
from_at (takes h i r) zero l = i
from_at (takes h i r) (suc j) l = from_at r j (omega arith)
