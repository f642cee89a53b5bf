use Rattle.std.proofs.Common.{◌≡◌, ℕ, ◌*◌, ◌/◌, ◌%◌, ◌<◌, length, get_or}
use Rattle.words.specs.Search.{state_after, text_at}
use Rattle.words.proofs.search.Given as goal

abbrev pub invariant-loop-k : goal.invariant-loop-k
invariant-loop-k l = (length l.after-items ≡ 16 * length l.word) × ((j : ℕ) → j < l.k → get_or l.after-items j 0 ≡ state_after l.word (text_at l.word (j / 16) (j % 16)))
