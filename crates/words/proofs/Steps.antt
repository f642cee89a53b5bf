-- A step of a word: where the whole word ends.
use Rattle.std.proofs.Common.{◌≡◌, ℕ, ◌+◌, ◌<◌, Bool, true, false, cond, List, length, get_or, Decides, sym, refl, ap, ◌∙◌}
use mir.Val.{bool_byte}
use Rattle.std.proofs.lemmas.Bool.Decides.{same_from_decides}
use Rattle.automata.proofs.Inside.{inside_in}
use Rattle.words.specs.Search.{ends_with, text_at, counting}
use Rattle.words.proofs.Suffixes.{whole_decided}

-- a test of the last duty is the test of the whole word
pub increase_is : (w : List ℕ) (q d : ℕ) → q < length w → d < 16 → (r : Bool) → Decides r ((q + 1 ≡ length w) × (d ≡ get_or w q 0)) → bool_byte r ≡ (counting w).increase q d
increase_is w q d state duty r decided =
    let same : r ≡ ends_with w (text_at w q d) = same_from_decides r (ends_with w (text_at w q d)) decided (whole_decided w q d state) in
    ap bool_byte same ∙ byte (ends_with w (text_at w q d)) ∙ sym (inside_in (length w) q d (cond (ends_with w (text_at w q d)) 1 0) state duty)
  where
    byte : (b : Bool) → bool_byte b ≡ cond b 1 0
    byte true = refl
    byte false = refl
