-- When a word is refused, and where.
use Rattle.std.specs.Prelude.{◌≡◌, ℕ, ◌<◌, ◌≤◌, min, ◌⊎◌, List, length, slice_index}
use Rattle.refusals.specs.declared.PostFault.{PostFault}
use Rattle.refusals.specs.declared.PostFault.TheVariants.{Length, Duty}
use Rattle.refusals.specs.First.{First}

-- 1 to 16 duties
pub record GoodWord (word : List ℕ) : Type 0 where
  pub some : 1 ≤ length word
  pub few : length word ≤ 16
  pub duties : (k : ℕ) → k < length word → slice_index word k < 16

-- A word is judged by its length, then duty by duty.
pub data WordFault (word : List ℕ) : PostFault → Type 0 where
  wrong_length : (length word ≡ 0) ⊎ (16 < length word) → WordFault word (Length (min (length word) 16))
  no_duty : 1 ≤ length word → length word ≤ 16 → (k : ℕ) → First (λ d. 15 < d) word k → WordFault word (Duty k)
