-- What a family answers by whether it has the rule, and whether the workspace suffices.
use Rattle.std.proofs.Common.{◌≡◌, ℕ, zero, suc, ◌+◌, ◌<◌, ◌≤◌, ◌⊎◌, inl, inr, [], ◌∷◌, Bool, true, false, cond, ltb, leb, List, map, length, get_or, None, Ok, Err, Result, MatchResult, vec_items, sym, refl, ap, ◌∙◌, subst, ap₂, arith}
use Rattle.std.proofs.lemmas.List.{get_or-map, get_or_past, length-map}
use Rattle.std.proofs.lemmas.Bool.{false≢true, lt-ltb, le-ltb, le-leb, lt-leb}
use Rattle.std.specs.Result.{result_unwrap_or}
use Rattle.refusals.specs.declared.PlanFault.{PlanFault}
use Rattle.automata.specs.Automaton.{Automaton}
use Rattle.masks.specs.Members.{lost}
use Rattle.masks.proofs.Counting.{lost_nothing}
use Rattle.families.specs.Masks.{values_lost}
use Rattle.families.proofs.Losses.{values_lost_none}
use Rattle.sweeps.specs.Figures.{figures_of}
use Rattle.families.specs.Meaning as families
use Rattle.families.specs.Meaning.{Meaning, Left, workspace_needed, when_able, ran, figured, start_of}
use Rattle.rules.specs.declared.Rule.{Rule}
use Rattle.rules.specs.declared.Sense.{Sense}
use Rattle.rules.specs.declared.Sense.TheVariants.{AtMost, AtLeast, Exactly}
use Rattle.runs.specs.Run.{along, leaves, RuleRan, NotRun}
use Rattle.counting.specs.Family.{family_of, rule_of, one_sided, one_sided_at}
use Rattle.counting.specs.FamilyLaws.{rule_at, rule_keeps_only_used}
use Rattle.counting.specs.Used.{KeepsOnlyUsed}

-- a rule of the family, on enough workspace
pub able : {X : Type 0} (m : Meaning) (w r : ℕ) (x y : X) → r < m.rules → workspace_needed ≤ w → when_able m w r x y ≡ x
able m w r x y h k = ap (λ b. cond b (cond (leb workspace_needed w) x y) y) (lt-ltb r m.rules h) ∙ ap (λ b. cond b x y) (le-leb workspace_needed w k)

-- no such rule
pub outside : {X : Type 0} (m : Meaning) (w r : ℕ) (x y : X) → m.rules ≤ r → when_able m w r x y ≡ y
outside m w r x y h = ap (λ b. cond b (cond (leb workspace_needed w) x y) y) (le-ltb r m.rules h)

-- a workspace that is too short
pub short : {X : Type 0} (m : Meaning) (w r : ℕ) (x y : X) → w < workspace_needed → when_able m w r x y ≡ y
short m w r x y k = ap (λ b. cond (ltb r m.rules) (cond b x y) y) (lt-leb workspace_needed w k) ∙ same (ltb r m.rules) y
  where
    same : {X : Type 0} (b : Bool) (y : X) → cond b y y ≡ y
    same true y = refl
    same false y = refl

-- nothing goes where nothing changes
pub none_lost : (c : List ℕ) (t : ℕ) (d : List ℕ) (u : ℕ) → d ≡ c → u ≡ t → values_lost c d + length (lost 64 t u) ≡ 0
none_lost c t d u p q =
    ap₂ (λ (x : List ℕ) (y : ℕ). values_lost c x + length (lost 64 t y)) p q
    ∙ ap₂ (λ (x y : ℕ). x + y) (values_lost_none c) (ap length (lost_nothing 64 t))

-- past the last rule there is none of a one-sided sense
pub past_sense : (rules : List Rule) (r : ℕ) → length rules ≤ r → one_sided_at rules r ≡ false
past_sense rules r h = get_or_past (map (λ (x : Rule). one_sided x.sense) rules) r false (omega (arith, length-map rules (λ (x : Rule). one_sided x.sense)))

-- a rule of a one-sided sense keeps only what is used
pub one_sided_keeps : (a : Automaton) (rules : List Rule) (r : ℕ) → one_sided_at rules r ≡ true → KeepsOnlyUsed ((family_of a rules).rule r)
one_sided_keeps a [] r e = absurd (false≢true e)
one_sided_keeps a (x ∷ xs) zero e = rule_keeps_only_used a x (one_way x.sense e)
  where
    one_way : (s : Sense) → one_sided s ≡ true → (s ≡ AtMost) ⊎ (s ≡ AtLeast)
    one_way AtMost e = inl refl
    one_way AtLeast e = inr refl
    one_way Exactly e = absurd (false≢true e)
one_sided_keeps a (x ∷ xs) (suc r) e = one_sided_keeps a xs r e

-- the rule that a look at number r found
module _ (a : Automaton) (rules found : List Rule) (at : found ≡ rules) (r : ℕ) (x : Rule) (h : r < length found) (e : x ≡ get_or found r x) where
  pub found_inside : r < length rules
  found_inside = subst (λ (l : List Rule). r < length l) at h

  is_rule : (family_of a rules).rule r ≡ rule_of a x
  is_rule = rule_at a rules r x found_inside (ap (λ (l : List Rule). get_or l r x) (sym at) ∙ sym e)

  pub found_sense : one_sided_at rules r ≡ one_sided x.sense
  found_sense =
      get_or-map (λ (y : Rule). one_sided y.sense) rules r x false found_inside
      ∙ ap (λ (l : List Rule). one_sided (get_or l r x).sense) (sym at)
      ∙ ap (λ (y : Rule). one_sided y.sense) (sym e)

  pub found_start : start_of (family_of a rules) r ≡ x.tally
  found_start = ap (λ b. cond b ((family_of a rules).rule r).start 0) (lt-ltb r (length rules) found_inside) ∙ ap (λ (z : families.Rule). z.start) is_rule

  pub found_ran : (w : ℕ) (c : List ℕ) (t : ℕ) → workspace_needed ≤ w → ran (family_of a rules) w r c t ≡ leaves a x.sense (vec_items x.row.cells) c t
  found_ran w c t k = able (family_of a rules) w r (((family_of a rules).rule r).leaves c t) (record { cells = c; tally = t }) found_inside k ∙ ap (λ (z : families.Rule). z.leaves c t) is_rule

  pub found_figured : (w : ℕ) (c : List ℕ) → workspace_needed ≤ w → figured (family_of a rules) w r c ≡ figures_of a (along (vec_items x.row.cells) c)
  found_figured w c k = able (family_of a rules) w r (((family_of a rules).rule r).figures c) None found_inside k ∙ ap (λ (z : families.Rule). z.figures c) is_rule

  -- what a run tells, and that it tells 0 where it is refused
  pub run_told : (w v c d : List ℕ) (t u n : ℕ) (res : Result ℕ PlanFault) → n ≡ result_unwrap_or res 0 → MatchResult res (RuleRan a x w c d t u) (NotRun w v c d t u)
      → (d ≡ (ran (family_of a rules) (length w) r c t).cells) × (u ≡ (ran (family_of a rules) (length w) r c t).tally) × (n ≡ values_lost c d + length (lost 64 t u)) × (length w < workspace_needed → v ≡ w)
  run_told w v c d t u n (Ok y) is did =
      let same = sym (found_ran (length w) c t did.0) in
      (did.1 ∙ ap (λ (l : Left). l.cells) same, did.2 ∙ ap (λ (l : Left). l.tally) same, is ∙ did.3, λ k. absurd (omega (arith, did.0, k)))
  run_told w v c d t u n (Err e) is did =
      let left : Left = record { cells = c; tally = t } in
      let same = sym (short (family_of a rules) (length w) r (((family_of a rules).rule r).leaves c t) left did.1) in
      (did.2 ∙ ap (λ (l : Left). l.cells) same, did.3 ∙ ap (λ (l : Left). l.tally) same, is ∙ sym (none_lost c t d u did.2 did.3), λ _. did.4)
