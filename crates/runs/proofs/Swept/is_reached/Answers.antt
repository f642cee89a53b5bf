use Rattle.std.proofs.Common.{◌+◌, ◌*◌, eqb, get_or, subst}
use Rattle.std.proofs.lemmas.Bool.{not-false, eqb-true}
use Rattle.measures.specs.Kinds.{top}
use Rattle.rules.specs.declared.Sense.{Sense}
use Rattle.runs.specs.Codes.{MetThrough}
use Rattle.runs.proofs.Meeting.{needed_at, unreached, unreached_greatest}
use Rattle.runs.proofs.Swept.is_reached.Goals as goal

pub returns-in-AtLeast : goal.returns-in-AtLeast
returns-in-AtLeast g c none d k h p =
    let s = c.args.self.now in
    let a = g.C.CounterAutomaton.meaning s.automaton.now in
    let masks = s.masks.now in
    let i = c.args.place in
    let q = c.args.state in
    let is = c.in-AtLeast.is in
    let code = get_or s.greatest.forth.now (16 * i + q) 0 in
    let w = needed_at a masks s.least s.greatest is s.swept in
    unreached_greatest a masks i q d k w c.requires.place c.requires.state (eqb-true code 0 (not-false (eqb code 0) none)) (subst (λ (t : Sense). MetThrough t a masks i q d k) is p)

pub returns-in_default : goal.returns-in_default
returns-in_default g c none d k h p =
    let s = c.args.self.now in
    let a = g.C.CounterAutomaton.meaning s.automaton.now in
    let i = c.args.place in
    let q = c.args.state in
    let code = get_or s.least.forth.now (16 * i + q) 0 in
    unreached s.sense a s.masks.now s.least s.greatest i q d k c.in_default.not-AtLeast s.swept c.requires.place c.requires.state h (eqb-true code top (not-false (eqb code top) none)) p
