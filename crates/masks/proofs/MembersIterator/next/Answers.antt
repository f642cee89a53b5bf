use Rattle.std.proofs.Common.{◌≡◌, ◌-◌, ◌^◌, ◌<◌, ◌≢◌, ◌∷◌, length, ap, ◌∙◌, arith, rules}
use lib.Bits.{bit_and}
use lib.Count.{count_trailing_zeros}
use Rattle.masks.specs.Members.{members}
use Rattle.masks.proofs.Lowest.{lowest, lowest_within, members_zero, lowest_first}
use Rattle.masks.proofs.MembersIterator.next.Goals as goal
use Rattle.std.proofs.iter.Next.{firm}

pub returns-then-rest-eq0 : goal.returns-then-rest-eq0
returns-then-rest-eq0 c = record { steps = ap (members 64) c.if-rest-eq0.true ∙ members_zero 64; goes = search rules }

pub returns : goal.returns
returns c =
    let m = c.args.self.now.rest in
    let rest = bit_and m (m - 1) in
    let t = count_trailing_zeros 64 m in
    let nonzero : m ≢ 0 = c.if-rest-eq0.false in
    let small : m < 2 ^ 64 = omega arith in
    let l = lowest 64 m (omega arith) small in
    let first : members 64 m ≡ t ∷ members 64 rest = lowest_first m rest t l 64 (lowest_within 64 m rest t l small) in
    let fewer : length (members 64 rest) < length (members 64 m) = omega (arith, ap length first) in
    record { steps = first; goes = firm ((tt, tt, fewer)) (λ h. search rules) }
