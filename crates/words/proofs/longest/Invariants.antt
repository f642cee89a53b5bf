use Rattle.std.proofs.Common.{◌≡◌, ◌-◌, length}
use Rattle.words.specs.Search.{longest_of}
use Rattle.words.proofs.longest.Given as goal

abbrev pub invariant-loop-j : goal.invariant-loop-j
invariant-loop-j l = longest_of l.word l.text (length l.word - 1) ≡ longest_of l.word l.text (l.j - 1)
