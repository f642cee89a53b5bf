-- Setting a range of cells.
use Rattle.std.proofs.Common.{◌≡◌, ℕ, ◌+◌, ◌≤◌, List, length, replicate, arith, rules}
use Rattle.std.proofs.lemmas.Grind.{common_steps}
use Rattle.std.proofs.lemmas.List.{places}
use borrow.Rule.Slice.PartMut.{put_mid}
use Rattle.planning.specs.Drafts.{RangeSet}

pub range_filled : (first number mask k : ℕ) (old part : List ℕ) → first + number ≤ length old → k ≡ number → part ≡ replicate number mask → RangeSet first number mask old (put_mid first k old part)
range_filled first number mask k old part h e f =
    record {
      size = grind (arith, common_steps);
      inside = λ i a b. search (rules, places);
      before = λ i a. search (rules, places);
      behind = λ i a. search (rules, places);
    }
