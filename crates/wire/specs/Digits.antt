-- Digits and the bytes that they spell, and when a line is refused before its frame is looked at.
use Rattle.std.specs.Prelude.{◌≡◌, ℕ, ◌+◌, ◌-◌, ◌*◌, ◌/◌, ◌%◌, ◌<◌, ◌≤◌, Bool, true, false, cond, ◌&&◌, ◌||◌, ◌⊎◌, List, map, length, nat_le, slice_index}
use Rattle.std.specs.List.{range_with_len}
use Rattle.refusals.specs.declared.LineFault.{LineFault}
use Rattle.refusals.specs.declared.LineFault.TheVariants.{Line, Digit}
use Rattle.refusals.specs.First.{First}

-- 0 to 9 or a to f
abbrev pub is_digit : ℕ → Bool
is_digit c = (nat_le 48 c && nat_le c 57) || (nat_le 97 c && nat_le c 102)

-- what a digit is worth
abbrev pub worth : ℕ → ℕ
worth c = cond (nat_le c 57) (c - 48) (c - 87)

-- the byte that the digits at 2k and 2k + 1 spell
abbrev pub byte_at : List ℕ → ℕ → ℕ
byte_at text k = 16 * worth (slice_index text (2 * k)) + worth (slice_index text (2 * k + 1))

-- the bytes that digits spell
abbrev pub bytes_of : List ℕ → List ℕ
bytes_of text = map (byte_at text) (range_with_len 0 (length text / 2))

abbrev pub NoDigit : ℕ → Type 0
NoDigit c = is_digit c ≡ false

abbrev pub AllDigits : List ℕ → Type 0
AllDigits text = (k : ℕ) → k < length text → is_digit (slice_index text k) ≡ true

-- what stands before the newline, if there is one, is neither empty nor too long
pub record Whole (text : List ℕ) (ended : Bool) : Type 0 where
  pub newline : ended ≡ true
  pub some : 1 ≤ length text
  pub few : length text ≤ 516

-- a line of digits, two to a byte
pub record Spelt (text : List ℕ) (ended : Bool) : Type 0 where
  pub whole : Whole text ended
  pub digits : AllDigits text
  pub even : length text % 2 ≡ 0

-- A line is judged as a whole, then digit by digit, and at last by the number of its digits.
pub data TextFault (text : List ℕ) (ended : Bool) : LineFault → Type 0 where
  no_line : (ended ≡ false) ⊎ ((length text ≡ 0) ⊎ (516 < length text)) → TextFault text ended Line
  no_digit : Whole text ended → (k : ℕ) → First NoDigit text k → TextFault text ended (Digit k)
  left_over : Whole text ended → AllDigits text → length text % 2 ≡ 1 → TextFault text ended (Digit (length text))
