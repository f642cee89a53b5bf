use Rattle.std.proofs.Common.{◌≡◌, ℕ, ◌+◌, ◌-◌, List, ◌++◌, length, take, ap, ◌∙◌, arith}
use Rattle.std.proofs.lemmas.List.{length-take-le}
use Rattle.std.proofs.lemmas.Slice.{take-put_mid}
use Rattle.wire.proofs.Growing.{kept_part}
use Rattle.wire.proofs.lines.LineBuffer.keep.Goals as goal

pub returns : goal.returns
returns c =
    let text = c.args.self.now.text in
    let len = c.args.self.now.len in
    let part = c.args.part.now in
    let room = c.min-room.result in
    let after : c.copy_from_slice.new.self ≡ take room part = c.copy_from_slice.ensures.after in
    let many : length c.copy_from_slice.new.self ≡ room = ap length after ∙ length-take-le room part (omega (arith, c.min-room.ensures)) in
    let front : length (take len text) ≡ len = length-take-le len text (omega arith) in
    take-put_mid len _ text c.copy_from_slice.new.self (len + room) (omega (arith, many)) (omega arith)
    ∙ ap (λ (xs : List ℕ). take len text ++ xs) (after ∙ ap (λ (n : ℕ). take n part) c.min-room.ensures)
    ∙ kept_part (take len text) part (517 - len) (omega (arith, front))
