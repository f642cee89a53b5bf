-- What a buffer keeps of a line.
use Rattle.std.specs.Prelude.{◌≡◌, ℕ, ◌<◌, ◌≤◌, List, [], ◌∷◌, ◌++◌, length, take, ◌≢◌, slice_index}
use Rattle.std.proofs.Common.{⊎_elim, sym, ◌∙◌, arith}
use Rattle.std.proofs.lemmas.List.{length-take-le, take_all, take-append-le, take-take}
use Rattle.std.proofs.lemmas.Bool.{cases_lt}

-- the first 517 of what was kept and one character more
abbrev pub pushed : List ℕ → ℕ → List ℕ
pushed kept character = take 517 (kept ++ (character ∷ []))

-- the character that ends a line
abbrev pub newline : ℕ
newline = 10

-- no newline is among the characters
abbrev pub Without : List ℕ → Type 0
Without xs = (k : ℕ) → k < length xs → slice_index xs k ≢ newline

-- Of whatever line the first 517 characters were kept, the first 517 are kept of it and the part that was read. A line that is short enough is so
-- kept whole, and one that is too long is too long as it is kept.
pub record Grown (before after part : List ℕ) : Type 0 where
  pub first : (line : List ℕ) → before ≡ take 517 line → after ≡ take 517 (line ++ part)
  pub whole : (line : List ℕ) → before ≡ take 517 line → length (line ++ part) ≤ 516 → after ≡ line ++ part
  pub long : (line : List ℕ) → before ≡ take 517 line → 516 < length (line ++ part) → 516 < length after

-- Where the first 517 of a line were kept, the first 517 are kept with a part of it more.
pub part_first : (line part : List ℕ) → take 517 (take 517 line ++ part) ≡ take 517 (line ++ part)
part_first line part = ⊎_elim short long (cases_lt (length line) 517)
  where
    short : length line < 517 → take 517 (take 517 line ++ part) ≡ take 517 (line ++ part)
    short h = rw (take_all 517 line (omega arith))

    long : 517 ≤ length line → take 517 (take 517 line ++ part) ≡ take 517 (line ++ part)
    long h =
        take-append-le 517 (take 517 line) part (omega (arith, length-take-le 517 line h))
        ∙ (take-take 517 517 line (omega arith) ∙ sym (take-append-le 517 line part h))

-- Where the first 517 of a line were kept, the first 517 are kept with one character more.
pub pushed_first : (line : List ℕ) (c : ℕ) → pushed (take 517 line) c ≡ take 517 (line ++ (c ∷ []))
pushed_first line c = part_first line (c ∷ [])

-- A line that is short enough is kept whole.
pub short_is_whole : (line : List ℕ) → length line ≤ 516 → take 517 line ≡ line
short_is_whole line h = take_all 517 line (omega arith)

-- A line that is too long is too long as it is kept.
pub long_stays_long : (line : List ℕ) → 516 < length line → 516 < length (take 517 line)
long_stays_long line h = omega (arith, length-take-le 517 line (omega arith))
