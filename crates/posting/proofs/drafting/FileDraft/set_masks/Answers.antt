use Rattle.std.proofs.Common.{refl, inr, arith}
use Rattle.posting.specs.Posts.{no_range}
use Rattle.posting.proofs.Posting.{masks_set}
use Rattle.posting.proofs.drafting.FileDraft.set_masks.Goals as goal

pub returns-then-first-number : goal.returns-then-first-number
returns-then-first-number c = (refl, no_range (inr (omega arith)))

pub returns : goal.returns
returns c = masks_set _ _ _ _ _ c.set_range.result c.args.self.now.size.within (omega arith) refl (rw (c.from-first.ensures, c.from-number.ensures) at c.set_range.ensures)
