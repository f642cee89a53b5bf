use Rattle.std.proofs.Common.{◌≡◌, ℕ, ◌/◌, ◌<◌, ◌≢◌, length, take, ap, ◌∙◌, arith, length-set, get_or-set_other, get_or-set_same, below_more}
use Rattle.std.proofs.lemmas.List.FromFn.{fill_by_all}
use Rattle.std.proofs.lemmas.List.{length-take-le, get_or-take}
use Rattle.wire.specs.Digits.{byte_at}
use Rattle.wire.proofs.Pairs.{pair_spells}
use Rattle.wire.proofs.digits.FrameBytes.spell.Goals as goal

pub loop-i-init : goal.loop-i-init
loop-i-init c = (omega arith, λ k h. absurd (omega arith))

pub loop-i-preserved : goal.loop-i-preserved
loop-i-preserved c =
    let text = c.args.text.now in
    let i = c.loop-i.i in
    let byte =
    pair_spells text c.as_chunks.result.0.now (length text / 2) i _ _ c.as_chunks.ensures.front (omega (arith, c.as_chunks.ensures.front_len)) (omega arith)
    c.requires.digits c.value.ensures c.value-in-loop-i.ensures
    in (
      simp length-set c.loop-i.invariant.0,
      below_more _ _
          (λ k h. let ne : k ≢ c.loop-i.i = omega arith in rw get_or-set_other (c.loop-i.invariant.1 k h))
          (let lt : c.loop-i.i < length c.loop-i.self.bytes = omega (arith, c.loop-i.invariant.0, c.requires.few, c.as_chunks.ensures.front_len) in
          rw (get_or-set_same, c.unwrap_or-high.ensures, c.unwrap_or-low.ensures, byte)),
    )

pub returns : goal.returns
returns c =
    let text = c.args.text.now in
    let bytes = c.loop-i.self.bytes in
    let n = length text / 2 in
    let all : length c.as_chunks.result.0.now ≡ n = omega (arith, c.as_chunks.ensures.front_len) in
    ap (λ (m : ℕ). take m bytes) all
    ∙ fill_by_all (byte_at text) (take n bytes) n 0
    (length-take-le n bytes (omega (arith, c.loop-i.invariant.0, c.requires.few)))
    (λ k h. get_or-take n bytes k 0 h ∙ c.loop-i.invariant.1 k (omega (arith, all, h)))
