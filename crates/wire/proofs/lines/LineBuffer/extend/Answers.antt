use Rattle.std.proofs.Common.{◌≡◌, ℕ, List, ◌++◌, length, take, unwrap_or, Some, None, Option, MatchOption, arith}
use Rattle.std.proofs.lemmas.List.{take_all}
use Rattle.refusals.specs.First.{First}
use Rattle.wire.specs.Lines.{newline, Without, Grown}
use Rattle.wire.proofs.Growing.{grown}
use Rattle.wire.proofs.lines.LineBuffer.extend.Goals as goal

up_to : (before after chunk : List ℕ) (end : Option ℕ) → MatchOption end (Without chunk) (First (λ c. c ≡ newline) chunk) → after ≡ take 517 (before ++ take (unwrap_or end (length chunk)) chunk) → MatchOption end (Without chunk × Grown before after chunk) (λ k. First (λ c. c ≡ newline) chunk k × Grown before after (take k chunk))
up_to before after chunk (Some k) p e = (p, grown before after (take k chunk) e)
up_to before after chunk None p e = (p, grown before after chunk (rw (take_all (length chunk) chunk (omega arith)) at e))

pub returns : goal.returns
returns c = up_to _ _ _ _ c.first_newline-end.ensures (rw c.unwrap_or.ensures at c.keep.ensures)
