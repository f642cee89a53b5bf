-- What a family of rules means. A rule is a constraint: it allows some fillings of its cells and its tally.
use Rattle.std.specs.Prelude.{ℕ, ◌+◌, ◌-◌, min, Bool, cond, List, None, Option, nat_le, nat_lt}
use Rattle.measures.specs.declared.Figures.{Figures}

-- what a run leaves of all cells and of the rule's own tally
pub record Left : Type 0 where
  pub cells : List ℕ
  pub tally : ℕ

-- A rule's cells, the tally that it starts with, whether it allows a filling (a duty for each cell) with a count, what a run leaves of given
-- masks and a given tally (propagation of the constraint), and its figures over given masks.
pub record Rule : Type 0 where
  pub scope : List ℕ
  pub start : ℕ
  pub allows : List ℕ → ℕ → Bool
  pub leaves : List ℕ → ℕ → Left
  pub figures : List ℕ → Option Figures

-- a numbered list of rules
pub record Meaning : Type 0 where
  pub rules : ℕ
  pub rule : ℕ → Rule

-- how many numbers of workspace a run or figures take
abbrev pub workspace_needed : ℕ
workspace_needed = 4160

-- x for a rule of the family on enough workspace, else y
abbrev pub when_able : {X : Type 0} → Meaning → ℕ → ℕ → X → X → X
when_able m w r x y = cond (nat_lt r m.rules) (cond (nat_le workspace_needed w) x y) y

-- what a run of rule number r leaves, on a workspace of w numbers
abbrev pub ran : Meaning → ℕ → ℕ → List ℕ → ℕ → Left
ran m w r cells tally = when_able m w r ((m.rule r).leaves cells tally) (record { cells = cells; tally = tally })

-- the figures of rule number r, on a workspace of w numbers
abbrev pub figured : Meaning → ℕ → ℕ → List ℕ → Option Figures
figured m w r cells = when_able m w r ((m.rule r).figures cells) None

-- the start tally of rule number r; outside the family's numbers the empty one, which no rule has
abbrev pub start_of : Meaning → ℕ → ℕ
start_of m r = cond (nat_lt r m.rules) (m.rule r).start 0

-- the most rules that a family has
abbrev pub most_rules : ℕ
most_rules = 72

-- two families in a row, the first's rules numbered first, cut at the most that a family has
abbrev pub pair : Meaning → Meaning → Meaning
pair a b = record { rules = min most_rules (a.rules + b.rules); rule = λ r. cond (nat_lt r a.rules) (a.rule r) (b.rule (r - a.rules)) }
