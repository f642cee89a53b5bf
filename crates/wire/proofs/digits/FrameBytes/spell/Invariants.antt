use Rattle.std.proofs.Common.{◌≡◌, ℕ, ◌<◌, length, get_or}
use Rattle.wire.specs.Digits.{byte_at}
use Rattle.wire.proofs.digits.FrameBytes.spell.Given as goal

abbrev pub invariant-loop-i : goal.invariant-loop-i
invariant-loop-i l = (length l.self.bytes ≡ 258) × ((k : ℕ) → k < l.i → get_or l.self.bytes k 0 ≡ byte_at l.text k)
