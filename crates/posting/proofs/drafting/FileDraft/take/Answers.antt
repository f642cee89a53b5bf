use Rattle.std.proofs.Common.{◌≡◌, refl}
use Rattle.std.proofs.lemmas.Result.{err_from_is_err_and}
use Rattle.wire.specs.declared.frame.Frame.{Frame}
use Rattle.wire.specs.declared.frame.Frame.TheVariants as frame
use Rattle.posting.specs.Posts.{NoDraft, at_post, out_of_order}
use Rattle.posting.proofs.Posting.{rule_refused}
use Rattle.posting.proofs.drafting.FileDraft.take.Goals as goal

pub returns-in_err-set_masks-in-Masks : goal.returns-in_err-set_masks-in-Masks
returns-in_err-set_masks-in-Masks c =
    let p = err_from_is_err_and c.from_residual.result c.from_residual.ensures.1 in
    let e = c.in_err-set_masks-in-Masks.ensures in
    rw (p.1, p.2, c.in-Masks.is) (e.0, at_post _ e.1)

pub returns-in_err-give_set-in-Among : goal.returns-in_err-give_set-in-Among
returns-in_err-give_set-in-Among c =
    let p = err_from_is_err_and c.from_residual-in_err-give_set-in-Among.result c.from_residual-in_err-give_set-in-Among.ensures.1 in
    let e = c.in_err-give_set-in-Among.ensures in
    rw (p.1, p.2, c.in-Among.is) (e.0, at_post _ e.1)

pub returns-in_err-give_word-in-Word : goal.returns-in_err-give_word-in-Word
returns-in_err-give_word-in-Word c =
    let p = err_from_is_err_and c.from_residual-in_err-give_word-in-Word.result c.from_residual-in_err-give_word-in-Word.ensures.1 in
    let e = c.in_err-give_word-in-Word.ensures in
    rw (p.1, p.2, c.in-Word.is) (e.0, at_post _ e.1)

pub returns-in_err-give_table-in-Table : goal.returns-in_err-give_table-in-Table
returns-in_err-give_table-in-Table c =
    let p = err_from_is_err_and c.from_residual-in_err-give_table-in-Table.result c.from_residual-in_err-give_table-in-Table.ensures.1 in
    let e = c.in_err-give_table-in-Table.ensures in
    rw (p.1, p.2, c.in-Table.is) (e.0, at_post _ e.1)

pub returns-in_err-give_map-in-Map : goal.returns-in_err-give_map-in-Map
returns-in_err-give_map-in-Map c =
    let p = err_from_is_err_and c.from_residual-in_err-give_map-in-Map.result c.from_residual-in_err-give_map-in-Map.ensures.1 in
    let e = c.in_err-give_map-in-Map.ensures in
    rw (p.1, p.2, c.in-Map.is) (e.0, at_post _ e.1)

pub returns-in_err-post_rule-in-Rule : goal.returns-in_err-post_rule-in-Rule
returns-in_err-post_rule-in-Rule c =
    let p = err_from_is_err_and c.from_residual-in_err-post_rule-in-Rule.result c.from_residual-in_err-post_rule-in-Rule.ensures.1 in
    let e = c.in_err-post_rule-in-Rule.ensures in
    rw (p.1, p.2, c.in-Rule.is) (e.0, rule_refused _ _ _ _ _ c.in_err-post_rule-in-Rule.field-0.0 e.1)

pub returns-in_default : goal.returns-in_default
returns-in_default c = (refl, out_of_order (rest c.args.frame refl))
  where
    rest : (f : Frame) → c.args.frame ≡ f → NoDraft f
    rest (frame.Size cells) e = NoDraft.size cells
    rest (frame.Masks first number mask) e = absurd (c.in_default.not-Masks first number mask e)
    rest (frame.Among set) e = absurd (c.in_default.not-Among set e)
    rest (frame.Word duties) e = absurd (c.in_default.not-Word duties e)
    rest (frame.Table states steps) e = absurd (c.in_default.not-Table states steps e)
    rest (frame.Map classes) e = absurd (c.in_default.not-Map classes e)
    rest (frame.Rule automaton sense tally cells) e = absurd (c.in_default.not-Rule automaton sense tally cells e)
    rest frame.Start e = absurd (c.in_default.not-Start e)
    rest (frame.Decide cell mask) e = NoDraft.decide cell mask
    rest (frame.Bound rule tally) e = NoDraft.bound rule tally
    rest frame.Mark e = NoDraft.mark
    rest frame.Back e = NoDraft.back
    rest frame.Publish e = NoDraft.publish
