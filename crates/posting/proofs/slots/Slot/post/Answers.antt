use Rattle.std.proofs.Common.{refl, rules}
use Rattle.posting.specs.Slots.{not_given}
use Rattle.posting.proofs.Posting.{posted_in}
use Rattle.posting.proofs.slots.Slot.post.Goals as goal

pub returns-then-is_none : goal.returns-then-is_none
returns-then-is_none g c = record { automaton = refl; posted = (refl, not_given (search rules)) }

pub returns : goal.returns
returns g c = record { automaton = refl; posted = posted_in _ _ _ _ _ c.if-is_none.ensures c.post.ensures.posted }
