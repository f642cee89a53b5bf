use Rattle.std.proofs.Common.{◌≡◌, [], ◌∷◌, vec_items, refl, subst, arith}
use Rattle.std.proofs.lemmas.List.{map-append}
use Rattle.std.proofs.lemmas.Result.{err_from_is_err_and}
use Rattle.automata.specs.declared.Among.{Among as AmongSet}
use Rattle.posting.specs.Sheets.{written, duties_of, steps_of}
use Rattle.posting.specs.declared.counters.Counter.{Counter}
use Rattle.posting.specs.declared.counters.Counter.TheVariants.{Among, Word, Table}
use Rattle.posting.specs.Counters.{counter_number}
use Rattle.posting.specs.Posts.{RuleIs, no_sense, no_kind, no_count}
use Rattle.posting.proofs.Posting.{own_row, row_refused, rule_posted, as_written, given_still}
use Rattle.posting.proofs.drafting.FileDraft.post_rule.Goals as goal

pub returns-in_err-row : goal.returns-in_err-row
returns-in_err-row c =
    let p = err_from_is_err_and c.from_residual.result c.from_residual.ensures.1 in
    rw (p.1, p.2) (refl, row_refused _ _ _ _ _ _ c.in_err-row.field-0.0 c.count.ensures c.args.self.now.size.within c.in_err-row.ensures)

pub returns-in_err-sense : goal.returns-in_err-sense
returns-in_err-sense c =
    let p = err_from_is_err_and c.from_residual-in_err-sense.result c.from_residual-in_err-sense.ensures.1 in
    let row = own_row _ _ _ c.count.ensures c.args.self.now.size.within c.in_ok-row.ensures.0 in
    rw (p.1, p.2) (refl, no_sense row _ c.in_err-sense.ensures)

pub returns-in_err-counter : goal.returns-in_err-counter
returns-in_err-counter c =
    let p = err_from_is_err_and c.from_residual-in_err-counter.result c.from_residual-in_err-counter.ensures.1 in
    let row = own_row _ _ _ c.count.ensures c.args.self.now.size.within c.in_ok-row.ensures.0 in
    rw (p.1, p.2) (refl, no_kind row c.in_ok-sense.sense c.in_ok-sense.ensures _ c.in_err-counter.ensures)

pub returns-in_err-rule : goal.returns-in_err-rule
returns-in_err-rule c =
    let p = err_from_is_err_and c.from_residual-in_err-rule.result c.from_residual-in_err-rule.ensures.1 in
    let row = own_row _ _ _ c.count.ensures c.args.self.now.size.within c.in_ok-row.ensures.0 in
    let is : RuleIs c.args.automaton c.args.sense c.in_ok-counter.counter c.in_ok-sense.sense = record { kind = c.in_ok-counter.ensures; meets = c.in_ok-sense.ensures } in
    rw (p.1, p.2, c.in_err-rule.ensures.0) (refl, no_count row c.in_ok-counter.counter c.in_ok-sense.sense is c.in_err-rule.ensures.1)

pub returns-in-Among : goal.returns-in-Among
returns-in-Among c =
    let row = own_row _ _ _ c.count.ensures c.args.self.now.size.within c.in_ok-row.ensures.0 in
    let kind : counter_number Among ≡ c.args.automaton = subst (λ (k : Counter). counter_number k ≡ c.args.automaton) c.in-Among.is c.in_ok-counter.ensures in
    let is : RuleIs c.args.automaton c.args.sense Among c.in_ok-sense.sense = record { kind = kind; meets = c.in_ok-sense.ensures } in
    let rule = c.in_ok-rule.rule in
    let made = c.in_ok-rule.ensures in
    let w : written rule ≡ record { cells = c.args.cells.now; sense = c.in_ok-sense.sense; tally = c.args.tally } = as_written rule _ _ _ _ made c.in_ok-row.ensures.1 in
    let a = c.post.ensures.automaton in
    rule_posted _ _ _ _ _ _ Among c.in_ok-sense.sense rule _ _ _ c.post.result row is (omega (arith, rule.open, made.2)) w (given_still (λ (a : AmongSet). a.set) c.args.self.now.among.automaton) refl
    (λ e. rw (a, e) refl)
    (λ e. rw (a, e, map-append written (vec_items c.args.self.now.among.rules.rules) (rule ∷ [])) refl)
    c.post.ensures.posted

pub returns-in-Word : goal.returns-in-Word
returns-in-Word c =
    let row = own_row _ _ _ c.count.ensures c.args.self.now.size.within c.in_ok-row.ensures.0 in
    let kind : counter_number Word ≡ c.args.automaton = subst (λ (k : Counter). counter_number k ≡ c.args.automaton) c.in-Word.is c.in_ok-counter.ensures in
    let is : RuleIs c.args.automaton c.args.sense Word c.in_ok-sense.sense = record { kind = kind; meets = c.in_ok-sense.ensures } in
    let rule = c.in_ok-rule.rule in
    let made = c.in_ok-rule.ensures in
    let w : written rule ≡ record { cells = c.args.cells.now; sense = c.in_ok-sense.sense; tally = c.args.tally } = as_written rule _ _ _ _ made c.in_ok-row.ensures.1 in
    let a = c.post-in-Word.ensures.automaton in
    rule_posted _ _ _ _ _ _ Word c.in_ok-sense.sense rule _ _ _ c.post-in-Word.result row is (omega (arith, rule.open, made.2)) w (given_still duties_of c.args.self.now.word.automaton) refl
    (λ e. rw (a, e) refl)
    (λ e. rw (a, e, map-append written (vec_items c.args.self.now.word.rules.rules) (rule ∷ [])) refl)
    c.post-in-Word.ensures.posted

pub returns-in-Table : goal.returns-in-Table
returns-in-Table c =
    let row = own_row _ _ _ c.count.ensures c.args.self.now.size.within c.in_ok-row.ensures.0 in
    let kind : counter_number Table ≡ c.args.automaton = subst (λ (k : Counter). counter_number k ≡ c.args.automaton) c.in-Table.is c.in_ok-counter.ensures in
    let is : RuleIs c.args.automaton c.args.sense Table c.in_ok-sense.sense = record { kind = kind; meets = c.in_ok-sense.ensures } in
    let rule = c.in_ok-rule.rule in
    let made = c.in_ok-rule.ensures in
    let w : written rule ≡ record { cells = c.args.cells.now; sense = c.in_ok-sense.sense; tally = c.args.tally } = as_written rule _ _ _ _ made c.in_ok-row.ensures.1 in
    let a = c.post-in-Table.ensures.automaton in
    rule_posted _ _ _ _ _ _ Table c.in_ok-sense.sense rule _ _ _ c.post-in-Table.result row is (omega (arith, rule.open, made.2)) w (given_still steps_of c.args.self.now.table.automaton) refl
    (λ e. rw (a, e) refl)
    (λ e. rw (a, e, map-append written (vec_items c.args.self.now.table.rules.rules) (rule ∷ [])) refl)
    c.post-in-Table.ensures.posted
