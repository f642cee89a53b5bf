-- The pairs of a line's digits, and what they spell.
use Rattle.std.proofs.Common.{◌≡◌, ℕ, zero, suc, ◌+◌, ◌*◌, ◌<◌, ◌≤◌, true, false, List, [], length, get_or, drop, Some, None, Option, unwrap_or, MatchOption, arith, ap, ◌∙◌}
use Rattle.std.proofs.lemmas.List.{get_or-take, get_or-drop}
use Rattle.std.specs.Simd.{first_chunks}
use Rattle.wire.specs.Digits.{is_digit, worth, byte_at, AllDigits}

-- place j of pair i is place 2i + j of the line
pair_at : (text : List ℕ) (k i j : ℕ) (d : List ℕ) → i < k → j < 2 → get_or (get_or (first_chunks 2 k text) i d) j 0 ≡ get_or text (2 * i + j) 0
pair_at text zero i j d h g = absurd (omega arith)
pair_at text (suc k) zero j d h g = let e : j ≡ 2 * 0 + j = omega arith in get_or-take 2 text j 0 g ∙ ap (λ (n : ℕ). get_or text n 0) e
pair_at text (suc k) (suc i) j d h g =
    let e : 2 + (2 * i + j) ≡ 2 * suc i + j = omega arith in
    pair_at (drop 2 text) k i j d (omega arith) g ∙ (get_or-drop 2 text (2 * i + j) 0 ∙ ap (λ (n : ℕ). get_or text n 0) e)

-- what `value` answers of a character
abbrev Value : ℕ → Option ℕ → Type 0
Value c o = MatchOption o (is_digit c ≡ false) (λ v. (is_digit c ≡ true) × (v ≡ worth c) × (v < 16))

digit_worth : (c x : ℕ) (o : Option ℕ) → Value x o → x ≡ c → is_digit c ≡ true → unwrap_or o 0 ≡ worth c
digit_worth c x (Some v) p e t = p.1 ∙ ap worth e
digit_worth c x None p e t = cc (ap is_digit e)

-- the byte that pair i spells
pub pair_spells : (text : List ℕ) (pairs : List (List ℕ)) (k i : ℕ) (high low : Option ℕ)
    → pairs ≡ first_chunks 2 k text
    → i < k
    → 2 * k ≤ length text
    → AllDigits text
    → Value (get_or (get_or pairs i []) 0 0) high
    → Value (get_or (get_or pairs i []) 1 0) low
    → 16 * unwrap_or high 0 + unwrap_or low 0 ≡ byte_at text i
pair_spells text pairs k i high low e h few digits p q =
    let at = λ (j : ℕ) (g : j < 2). ap (λ (xs : List (List ℕ)). get_or (get_or xs i []) j 0) e ∙ pair_at text k i j [] h g in
    let e0 : 2 * i + 0 ≡ 2 * i = omega arith in
    let a = digit_worth (get_or text (2 * i) 0) _ high p (at 0 (omega arith) ∙ ap (λ (n : ℕ). get_or text n 0) e0) (digits (2 * i) (omega arith)) in
    let b = digit_worth (get_or text (2 * i + 1) 0) _ low q (at 1 (omega arith)) (digits (2 * i + 1) (omega arith)) in
    rw (a, b)
