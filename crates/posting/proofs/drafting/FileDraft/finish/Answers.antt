use Rattle.std.proofs.Common.{◌≡◌, map, vec_items, sym, refl, ap, ◌∙◌}
use Rattle.automata.specs.declared.Table.{Table}
use Rattle.posting.specs.Families.{rules_meaning}
use Rattle.posting.specs.Sheets.{Steps, sheet_of, written}
use Rattle.posting.proofs.Finishing.{parts_mean}
use Rattle.posting.proofs.drafting.FileDraft.finish.Goals as goal

pub returns-clause-rules : goal.returns-clause-rules
returns-clause-rules c =
    let n = c.new-rules.ensures in
    let m = c.new.ensures in
    let o = c.over-third.ensures in
    let steps = c.table_rules-rules.ensures.table in
    let same : c.new-rules.result ≡ record { first = record { first = c.set_rules-first.result; second = c.word_rules-second.result }; second = c.over-third.result } = rw (sym m.0, sym m.1, sym n.0, sym n.1) refl in
    ap rules_meaning same
    ∙ parts_mean c.set_rules-first.result c.word_rules-second.result c.over-third.result (sheet_of c.args.self)
    c.set_rules-first.ensures.set c.word_rules-second.ensures.classes c.word_rules-second.ensures.word
    (ap (λ (t : Table). t.states) o.0 ∙ (c.table.ensures.0 ∙ ap (λ (x : Steps). x.states) steps))
    (ap (λ (t : Table). t.steps.now) o.0 ∙ (c.table.ensures.1 ∙ ap (λ (x : Steps). x.bytes) steps))
    (ap (map written) c.set_rules-first.ensures.rules)
    (ap (map written) c.word_rules-second.ensures.rules)
    (ap (map written) (o.1 ∙ ap (λ x. vec_items x.rules) c.table_rules-rules.ensures.rules))
