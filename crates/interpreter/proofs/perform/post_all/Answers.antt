use Rattle.std.proofs.Common.{get_or, subst}
use Rattle.wire.specs.declared.frame.Frame.TheVariants as frame
use Rattle.posting.specs.declared.drafting.Drafted.{Drafted}
use Rattle.posting.specs.Posts.{Taken}
use Rattle.posting.specs.Sheets.{sheet_of}
use Rattle.interpreter.specs.Performing.{Drafts}
use Rattle.interpreter.proofs.Performing.{drafts_next}
use Rattle.interpreter.proofs.perform.post_all.Goals as goal

pub loop-frame-init : goal.loop-frame-init
loop-frame-init c = Drafts.end _

pub loop-frame-preserved : goal.loop-frame-preserved
loop-frame-preserved c =
    let s = sheet_of c.loop-frame.draft in
    let t = sheet_of c.take.new.self in
    let f = get_or c.args.posts.now c.loop-frame.frame-index (frame.Size 0) in
    let taken = subst (λ (d : Drafted). Taken f s t d) c.in-Posted.is c.in_ok-take.ensures in
    drafts_next _ s t c.args.posts.now c.loop-frame.frame-index (frame.Size 0) c.loop-frame-test.true c.loop-frame.invariant taken
