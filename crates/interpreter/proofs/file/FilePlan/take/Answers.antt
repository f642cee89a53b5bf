use Rattle.std.proofs.Common.{◌≡◌, refl}
use Rattle.refusals.specs.declared.FrameFault.TheVariants.{Order}
use Rattle.wire.specs.declared.frame.Frame.{Frame}
use Rattle.wire.specs.declared.frame.Frame.TheVariants as frame
use Rattle.interpreter.specs.Calls.{decided, bounded, marked, backed, publishes, NoCall}
use Rattle.interpreter.proofs.file.FilePlan.take.Goals as goal

pub returns-in-Decide-clause-tells : goal.returns-in-Decide-clause-tells
returns-in-Decide-clause-tells c = rw c.in-Decide.is (decided c.in-Decide.cell c.in-Decide.mask c.decide-answer.result _ c.decide-answer.ensures.decides)

pub returns-in-Bound-clause-tells : goal.returns-in-Bound-clause-tells
returns-in-Bound-clause-tells c = rw c.in-Bound.is (bounded c.in-Bound.rule c.in-Bound.tally c.bound-answer.result _ c.bound-answer.ensures.called)

pub returns-in-Mark-clause-tells : goal.returns-in-Mark-clause-tells
returns-in-Mark-clause-tells c = rw c.in-Mark.is (marked c.mark.result _ c.mark.ensures.called)

pub returns-in-Back-clause-tells : goal.returns-in-Back-clause-tells
returns-in-Back-clause-tells c = rw c.in-Back.is (backed c.back.result _ c.back.ensures.called)

pub returns-in-Publish-clause-tells : goal.returns-in-Publish-clause-tells
returns-in-Publish-clause-tells c = rw c.in-Publish.is (publishes)

pub returns-in_default : goal.returns-in_default
returns-in_default c = record { same = (refl, refl); workspace = λ h. refl; tells = (rest c.args.frame refl, refl) }
  where
    rest : (f : Frame) → c.args.frame ≡ f → NoCall f Order
    rest (frame.Size cells) e = NoCall.size cells
    rest (frame.Masks first number mask) e = NoCall.masks first number mask
    rest (frame.Among set) e = NoCall.among set
    rest (frame.Word duties) e = NoCall.word duties
    rest (frame.Table states steps) e = NoCall.table states steps
    rest (frame.Map classes) e = NoCall.map classes
    rest (frame.Rule automaton sense tally cells) e = NoCall.rule automaton sense tally cells
    rest frame.Start e = NoCall.start
    rest (frame.Decide cell mask) e = absurd (c.in_default.not-Decide cell mask e)
    rest (frame.Bound rule tally) e = absurd (c.in_default.not-Bound rule tally e)
    rest frame.Mark e = absurd (c.in_default.not-Mark e)
    rest frame.Back e = absurd (c.in_default.not-Back e)
    rest frame.Publish e = absurd (c.in_default.not-Publish e)
