-- How a line's buffer grows.
use Rattle.std.proofs.Common.{◌≡◌, ℕ, ◌+◌, ◌<◌, List, ◌++◌, length, take, min, sym, ap, ◌∙◌, subst, arith}
use Rattle.std.proofs.Math.Seq.{take-append-add}
use Rattle.std.proofs.lemmas.List.{take_min}
use Rattle.wire.specs.Lines.{part_first, short_is_whole, long_stays_long, Grown}

-- what fits of a part is the part up to the 517th character
pub kept_part : (text part : List ℕ) (room : ℕ) → room + length text ≡ 517 → text ++ take (min room (length part)) part ≡ take 517 (text ++ part)
kept_part text part room e =
    let n : length text + room ≡ 517 = omega arith in
    rw (take_min, sym (take-append-add text part room), n)

-- the part that is kept
pub grown : (before after part : List ℕ) → after ≡ take 517 (before ++ part) → Grown before after part
grown before after part e = record { first = f; whole = λ line h few. f line h ∙ short_is_whole (line ++ part) few; long = λ line h many. subst (λ (xs : List ℕ). 516 < length xs) (sym (f line h)) (long_stays_long (line ++ part) many) }
  where
    f : (line : List ℕ) → before ≡ take 517 line → after ≡ take 517 (line ++ part)
    f line h = e ∙ (ap (λ (xs : List ℕ). take 517 (xs ++ part)) h ∙ part_first line part)
