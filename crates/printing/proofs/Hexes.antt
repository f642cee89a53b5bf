-- What std prints of a number in hexadecimal digits, with zeros before them up to a width.
use Rattle.std.proofs.Common.{◌≡◌, ℕ, zero, suc, ◌-◌, ◌/◌, ◌%◌, ◌^◌, ◌≢◌, ◌<◌, ◌≤◌, Bool, true, false, cond, List, [], ◌∷◌, ◌++◌, length, refl, sym, ap, ◌∙◌, arith, append_assoc, append-nil, length-append, Some}
use Rattle.std.proofs.Math.Nat.{pow-suc}
use Rattle.std.proofs.lemmas.Bool.{eqb-true}
use Rattle.std.specs.Prelude.{◌==◌, replicate}
use Rattle.std.specs.Fmt.{digits, digits_onto, digit_glyph, number_padding, padded_integral, char_count, format_spec, digits_output, styled_digits_output}
use Rattle.printing.specs.Text.{hex_text, long_hex_text}

abbrev zeros : ℕ → List ℕ
zeros w = replicate w 48

-- the last w digits of a number
abbrev fixed : ℕ → ℕ → List ℕ
fixed zero n = []
fixed (suc w) n = fixed w (n / 16) ++ (digit_glyph false (n % 16) ∷ [])

zeros_push : (w : ℕ) → zeros (suc w) ≡ zeros w ++ (48 ∷ [])
zeros_push zero = refl
zeros_push (suc w) = ap (λ (xs : List ℕ). 48 ∷ xs) (zeros_push w)

fixed_zero : (w : ℕ) → fixed w 0 ≡ zeros w
fixed_zero zero = refl
fixed_zero (suc w) = ap (λ (xs : List ℕ). xs ++ (48 ∷ [])) (fixed_zero w) ∙ sym (zeros_push w)

-- digits that make the last w with zeros before them
record Digits (w n : ℕ) (acc all : List ℕ) : Type 0 where
  ds : List ℕ
  onto : all ≡ ds ++ acc
  few : length ds ≤ w
  filled : zeros (w - length ds) ++ ds ≡ fixed w n

wide : (w m : ℕ) → m ≢ 0 → m < 16 ^ w → 1 ≤ w
wide zero m z h = absurd (omega arith)
wide (suc w) m z h = omega arith

-- a digit more, where a digit is left to write and where none is
one_more : (w n : ℕ) (acc rest : List ℕ) (done : Bool)
    → (n / 16 == 0) ≡ done
    → (n / 16 ≢ 0 → Digits w (n / 16) (digit_glyph false (n % 16) ∷ acc) rest)
    → Digits (suc w) n acc (cond done (digit_glyph false (n % 16) ∷ acc) rest)
one_more w n acc rest true e more =
    let z : n / 16 ≡ 0 = eqb-true (n / 16) 0 e in record {
      ds = digit_glyph false (n % 16) ∷ [];
      onto = refl;
      few = omega arith;
      filled = let e : suc w - 1 ≡ w = omega arith in rw (z, e) (ap (λ (xs : List ℕ). xs ++ (digit_glyph false (n % 16) ∷ [])) (sym (fixed_zero w)));
    }
one_more w n acc rest false e more =
    let z : n / 16 ≢ 0 = λ h. cc (ap (λ (m : ℕ). m == 0) h) in
    let g : Digits w (n / 16) (digit_glyph false (n % 16) ∷ acc) rest = more z in
    let len = length-append g.ds (digit_glyph false (n % 16) ∷ []) in
    let short : suc w - length (g.ds ++ (digit_glyph false (n % 16) ∷ [])) ≡ w - length g.ds = omega (arith, len, g.few) in record {
      ds = g.ds ++ (digit_glyph false (n % 16) ∷ []);
      onto = g.onto ∙ sym (append_assoc g.ds (digit_glyph false (n % 16) ∷ []) acc);
      few = omega (arith, len, g.few);
      filled = rw (short, ← append_assoc) (ap (λ (xs : List ℕ). xs ++ (digit_glyph false (n % 16) ∷ [])) g.filled);
    }

digits_fill : (k w n : ℕ) (acc : List ℕ) → 1 ≤ w → w ≤ k → n < 16 ^ w → Digits w n acc (digits_onto k 16 false n acc)
digits_fill zero w n acc a b c = absurd (omega arith)
digits_fill (suc k) zero n acc a b c = absurd (omega arith)
digits_fill (suc k) (suc w) n acc a b c =
    let less : n / 16 < 16 ^ w = omega (arith, c, pow-suc 16 w) in
    one_more w n acc (digits_onto k 16 false (n / 16) (digit_glyph false (n % 16) ∷ acc)) (n / 16 == 0) refl (λ z. digits_fill k w (n / 16) (digit_glyph false (n % 16) ∷ acc) (wide w (n / 16) z less) (omega arith) less)

-- zeros, and then the digits
padded : (w : ℕ) (ds : List ℕ) → length ds ≤ w → padded_integral (format_spec 32 0 4 w (2 ^ 64 - 1)) false [] ds ≡ zeros (w - length ds) ++ ds
unfolding padded_integral char_count
padded w ds h = simp append-nil (ap (λ (n : ℕ). replicate n 48 ++ ds) short)
  where
    short : number_padding (format_spec 32 0 4 w (2 ^ 64 - 1)) false [] (length ds) ≡ w - length ds
    short = omega arith

written : (n : ℕ) → digits 16 false n ≡ digits_onto 64 16 false n []
unfolding digits
written n = refl

printed : (w n : ℕ) → 1 ≤ w → w ≤ 64 → n < 16 ^ w → padded_integral (format_spec 32 0 4 w (2 ^ 64 - 1)) false [] (digits 16 false n) ≡ fixed w n
printed w n a b c =
    let g = digits_fill 64 w n [] a b c in
    let e : digits 16 false n ≡ g.ds = written n ∙ (g.onto ∙ append-nil g.ds) in
    rw e (padded w g.ds g.few ∙ g.filled)

fixed_four : (n : ℕ) → n < 65536 → fixed 4 n ≡ hex_text n
fixed_four n h =
    let a : n / 16 / 16 / 16 % 16 ≡ n / 4096 = omega arith in
    let b : n / 16 / 16 % 16 ≡ n / 256 % 16 = omega arith in
    rw (a, b)

joined : (xs : List ℕ) (a b c d : ℕ) → (((xs ++ (a ∷ [])) ++ (b ∷ [])) ++ (c ∷ [])) ++ (d ∷ []) ≡ xs ++ (a ∷ b ∷ c ∷ d ∷ [])
joined xs a b c d = simp append_assoc

fixed_more : (w n : ℕ) → fixed (suc (suc (suc (suc w)))) n ≡ fixed w (n / 65536) ++ hex_text (n % 65536)
fixed_more w n =
    let z : n / 16 / 16 / 16 / 16 ≡ n / 65536 = omega arith in
    let a : n / 16 / 16 / 16 % 16 ≡ n % 65536 / 4096 = omega arith in
    let b : n / 16 / 16 % 16 ≡ n % 65536 / 256 % 16 = omega arith in
    let c : n / 16 % 16 ≡ n % 65536 / 16 % 16 = omega arith in
    let d : n % 16 ≡ n % 65536 % 16 = omega arith in
    joined (fixed w (n / 16 / 16 / 16 / 16)) (digit_glyph false (n / 16 / 16 / 16 % 16)) (digit_glyph false (n / 16 / 16 % 16)) (digit_glyph false (n / 16 % 16)) (digit_glyph false (n % 16))
    ∙ rw (z, a, b, c, d)

fixed_sixteen : (n : ℕ) → n < 2 ^ 64 → fixed 16 n ≡ long_hex_text n
fixed_sixteen n h =
    let a : n / 65536 / 65536 / 65536 ≡ n / 0x1000000000000 = omega arith in
    let b : n / 65536 / 65536 % 65536 ≡ n / 0x100000000 % 0x10000 = omega arith in
    let four = fixed_four (n / 65536 / 65536 / 65536) (omega arith) in
    let eight = fixed_more 4 (n / 65536 / 65536) ∙ ap (λ (xs : List ℕ). xs ++ hex_text (n / 65536 / 65536 % 65536)) four in
    let twelve = fixed_more 8 (n / 65536) ∙ ap (λ (xs : List ℕ). xs ++ hex_text (n / 65536 % 65536)) eight in
    let all = fixed_more 12 n ∙ ap (λ (xs : List ℕ). xs ++ hex_text (n % 65536)) twelve in
    all
    ∙ (ap (λ (m : ℕ). hex_text m ++ (hex_text (n / 65536 / 65536 % 65536) ++ (hex_text (n / 65536 % 65536) ++ hex_text (n % 65536)))) a
    ∙ ap (λ (m : ℕ). hex_text (n / 0x1000000000000) ++ (hex_text m ++ (hex_text (n / 65536 % 65536) ++ hex_text (n % 65536)))) b)

styled : (d : _) (s : _) (w n : ℕ) → digits_output d ≡ Some (digits 16 false n) → s ≡ format_spec 32 0 4 w (2 ^ 64 - 1) → styled_digits_output d s ≡ Some (padded_integral (format_spec 32 0 4 w (2 ^ 64 - 1)) false [] (digits 16 false n))
styled d s w n e f = rw (f, e)

-- `{:04x}` writes a number's four digits
pub four_digits : (d : _) (s : _) (n : ℕ) → digits_output d ≡ Some (digits 16 false n) → s ≡ format_spec 32 0 4 4 (2 ^ 64 - 1) → n < 65536 → styled_digits_output d s ≡ Some (hex_text n)
four_digits d s n e f h = styled d s 4 n e f ∙ ap Some (printed 4 n (omega arith) (omega arith) h ∙ fixed_four n h)

-- `{:016x}` writes sixteen
pub sixteen_digits : (d : _) (s : _) (n : ℕ) → digits_output d ≡ Some (digits 16 false n) → s ≡ format_spec 32 0 4 16 (2 ^ 64 - 1) → n < 2 ^ 64 → styled_digits_output d s ≡ Some (long_hex_text n)
sixteen_digits d s n e f h = styled d s 16 n e f ∙ ap Some (printed 16 n (omega arith) (omega arith) h ∙ fixed_sixteen n h)
