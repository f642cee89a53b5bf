-- Posting: how a sheet changes, and why a frame is refused.
use Rattle.std.proofs.Common.{◌≡◌, ℕ, ◌+◌, ◌<◌, ◌≤◌, min, Bool, true, List, [], ◌∷◌, ◌++◌, map, length, is_some, Some, None, Ok, Err, vec_items, Option, Result, sym, refl, ap, ◌∙◌, subst, inl, ⊎_elim, arith, Bor, MatchResult}
use Rattle.std.proofs.lemmas.List.{length-map}
use Rattle.refusals.specs.Posting.{PostError}
use Rattle.refusals.specs.declared.Stopped.TheVariants.{Fault, Memory}
use Rattle.refusals.specs.declared.PostFault.{PostFault}
use Rattle.refusals.specs.Posting.{Refusing, frame_error}
use Rattle.rules.specs.declared.Row.{Row}
use Rattle.rules.specs.declared.Rule.{Rule}
use Rattle.rules.specs.declared.Sense.{Sense}
use Rattle.rules.specs.Rows.{GoodRow, RowFault}
use Rattle.counting.specs.Family.{PostedTo, NotPosted}
use Rattle.planning.specs.Drafts as drafts
use Rattle.wire.specs.declared.frame.Frame.TheVariants as frame
use Rattle.posting.specs.declared.counters.Counter.{Counter}
use Rattle.posting.specs.Slots.{PostedIn, NotPostedIn, SlotFault, full}
use Rattle.posting.specs.Sheets.{Sheet, Written, written, of_given}
use Rattle.posting.specs.Posts.{MasksSet, NoMasks, no_range, no_duty, with_masks, with_rule, has, rules_of, RuleIs, RulePosted, no_row, no_room, NoRule, Refused, at_post, no_memory}

-- the automaton of a slot is given
pub posted_in : (given : Bool) (rule : Rule) (old new : List Rule) (r : Result (Unit {0}) PostError) → given ≡ true
    → MatchResult r (λ _. PostedTo rule old new) (NotPosted old new) → MatchResult r (λ _. PostedIn given rule old new) (NotPostedIn given old new)
posted_in given rule old new (Ok x) g h = (g, h.0, h.1)
posted_in given rule old new (Err (Fault f)) g h = (h.0, subst (SlotFault given (length old)) (sym h.1.0) (full g h.1.1))
posted_in given rule old new (Err Memory) g h = (h.0, (g, h.1))

-- a plan's own cells are among the 192
own_limit : (count size : ℕ) → count ≡ size → size ≤ 192 → min count 192 ≡ size
own_limit count size e h = omega arith

-- a row of a plan's own cells
pub own_row : (count size : ℕ) (cells : List ℕ) → count ≡ size → size ≤ 192 → GoodRow (min count 192) cells → GoodRow size cells
own_row count size cells e h = subst (λ (n : ℕ). GoodRow n cells) (own_limit count size e h)

-- the masks of a range that ends with the plan's cells
pub masks_set : (first number mask : ℕ) (s t : Sheet) (r : Result (Unit {0}) PostFault) → s.size ≤ 192 → first + number ≤ s.size → t ≡ with_masks t.masks s
    → MatchResult r (λ _. drafts.GoodRange first number × (0 < mask) × drafts.RangeSet first number mask s.masks t.masks) (λ e. drafts.RangeFault first number mask e × (t.masks ≡ s.masks))
    → MatchResult r (λ _. MasksSet first number mask s t) (λ e. (t ≡ s) × NoMasks first number mask s e)
masks_set first number mask s t (Ok x) small within only h = record { range = (h.0.0, within); some = h.1; set = h.2; else = only }
masks_set first number mask s t (Err e) small within only h = (only ∙ ap (λ m. with_masks m s) h.1, fault e h.0)
  where
    fault : (e : PostFault) → drafts.RangeFault first number mask e → NoMasks first number mask s e
    fault e (drafts.no_range z) = no_range (⊎_elim inl (λ l. absurd (omega (arith, l, within, small))) z)
    fault e (drafts.no_duty z n) = no_duty (z.0, within) n

-- a row is refused
pub row_refused : (automaton sense tally : ℕ) (cells : List ℕ) (s : Sheet) (count : ℕ) (e : PostError) → count ≡ s.size → s.size ≤ 192
    → Refusing (RowFault (min count 192) cells) (GoodRow (min count 192) cells) e → NoRule automaton sense tally cells s e
row_refused automaton sense tally cells s count (Fault f) is small h = no_row f (subst (λ (n : ℕ). RowFault n cells f) (own_limit count s.size is small) h)
row_refused automaton sense tally cells s count Memory is small h = own_row count s.size cells is small h

-- a rule that was made of its row, sense and tally
pub as_written : (rule : Rule) (row : Row) (cells : List ℕ) (z : Sense) (tally : ℕ) → (rule.row ≡ row) × (rule.sense ≡ z) × (rule.tally ≡ tally) → vec_items row.cells ≡ cells
    → written rule ≡ record { cells = cells; sense = z; tally = tally }
as_written rule row cells z tally made kept = rw (made.0, made.1, made.2, kept) refl

-- what was given, seen as something else, was given
pub given_still : {A B : Type 0} (f : A → B) (o : Option A) → is_some o ≡ is_some (of_given f o)
given_still f None = refl
given_still f (Some x) = refl

-- A good rule is posted to the slot of its kind, or not.
pub rule_posted : (automaton sense tally : ℕ) (cells : List ℕ) (s t : Sheet) (k : Counter) (z : Sense) (rule : Rule) (given : Bool) (old new : List Rule) (r : Result (Unit {0}) PostError)
    → GoodRow s.size cells → RuleIs automaton sense k z → 0 < tally
    → written rule ≡ record { cells = cells; sense = z; tally = tally } → given ≡ has k s → rules_of k s ≡ map written old
    → (new ≡ old → t ≡ s) → (new ≡ old ++ (rule ∷ []) → t ≡ with_rule k (written rule) s)
    → MatchResult r (λ _. PostedIn given rule old new) (NotPostedIn given old new)
    → MatchResult r (λ _. RulePosted automaton sense tally cells s t) (λ e. (t ≡ s) × NoRule automaton sense tally cells s e)
rule_posted automaton sense tally cells s t k z rule given old new (Ok x) row is some w g rules same more h = record {
  row = row;
  k = k;
  z = z;
  is = is;
  some = some;
  given = sym g ∙ h.0;
  room = omega (arith, h.1, ap length rules ∙ length-map old written);
  posted = more h.2 ∙ ap (λ (x : Written). with_rule k x s) w;
}
rule_posted automaton sense tally cells s t k z rule given old new (Err (Fault f)) row is some w g rules same more h =
    (same h.0, no_room row k z is some f (rw (sym g, ap length rules, length-map old written) h.1))
rule_posted automaton sense tally cells s t k z rule given old new (Err Memory) row is some w g rules same more h = (same h.0, row)

-- the same, told of its frame
pub rule_refused : (automaton sense tally : ℕ) (cells : Bor (List ℕ)) (s : Sheet) (e : PostError) → NoRule automaton sense tally cells.now s e
    → Refused (frame.Rule automaton sense tally cells) s (frame_error e)
rule_refused automaton sense tally cells s (Fault f) h = at_post f h
rule_refused automaton sense tally cells s Memory h = no_memory h
