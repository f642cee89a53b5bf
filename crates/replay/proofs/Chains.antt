-- Calls one after the other: one call more, and its place among the calls and the answers.
use Rattle.std.proofs.Common.{◌≡◌, ℕ, ◌+◌, ◌<◌, ◌≤◌, List, [], ◌∷◌, ◌++◌, Ok, Err, Result, MatchResult, map, length, get_or, take, set, sym, ap, ◌∙◌, subst, arith}
use Rattle.std.proofs.lemmas.List.{take_more_set, map_push, map_more, map-set, get_or-set_other}
use Rattle.refusals.specs.declared.PlanFault.{PlanFault}
use Rattle.families.specs.Meaning.{Meaning}
use Rattle.histories.specs.Calls as law
use Rattle.histories.specs.Plans.{View, Called, Ran}
use Rattle.std.specs.Result.{IsOkAnd}
use Rattle.replay.specs.Requests.{call_of, answer_of}
use Rattle.replay.specs.declared.Call.{Call}
use Rattle.replay.specs.declared.Answer.{Answer}

-- a call's contract, where the call and the answer are written otherwise
pub called_as : (m : Meaning) (c d : law.Call) (a b : law.Answer) (p q : View) → d ≡ c → b ≡ a → Called m c a p q → Called m d b p q
called_as m c d a b p q e f h = subst (λ (z : law.Call). Called m z b p q) (sym e) (subst (λ (z : law.Answer). Called m c z p q) (sym f) h)

-- what a plan answered, mapped to an answer here, says the same
pub mapped : {X : Type 0} {P : X → Answer → Type 0} (f : Result X PlanFault → law.Answer) (r : Result X PlanFault) (a : Result Answer PlanFault)
    → MatchResult r (λ x. IsOkAnd a (P x)) (λ e. a ≡ Err e) → ((x : X) (y : Answer) → P x y → answer_of (Ok y) ≡ f (Ok x)) → ((e : PlanFault) → answer_of (Err e) ≡ f (Err e)) → answer_of a ≡ f r
mapped f (Ok x) (Ok y) h p q = p x y h
mapped f (Ok x) (Err e) h p q = elim h [ ]
mapped f (Err e) a h p q = ap answer_of h ∙ q e

-- one call more at the end
pub ran_more : {m : Meaning} {p q r : View} {cs : List law.Call} {ys : List law.Answer} {c : law.Call} {a : law.Answer} → Ran m p cs ys q → Called m c a q r → Ran m p (cs ++ c ∷ []) (ys ++ a ∷ []) r
ran_more {r = r} {c = c} {a = a} (Ran.end p) k = Ran.more p r r c [] a [] k (Ran.end r)
ran_more {r = r} {c = c} {a = a} (Ran.more p q s d cs b ys h rest) k = Ran.more p q r d (cs ++ c ∷ []) b (ys ++ a ∷ []) h (ran_more rest k)

-- the calls so far and the next one, with its answer at its place
pub ran_next : (m : Meaning) (w : ℕ) (xs : List Call) (ys : List (Result Answer PlanFault)) (i : ℕ) (d : Call) (a : Result Answer PlanFault) (p q r : View) → i < length xs → i < length ys
    → Ran m p (map (call_of w) (take i xs)) (map answer_of (take i ys)) q → Called m (call_of w (get_or xs i d)) (answer_of a) q r
    → Ran m p (map (call_of w) (take (i + 1) xs)) (map answer_of (take (i + 1) (set ys i a))) r
ran_next m w xs ys i d a p q r in-calls in-answers ran called =
    let answers : map answer_of (take (i + 1) (set ys i a)) ≡ map answer_of (take i ys) ++ answer_of a ∷ [] = ap (map answer_of) (take_more_set ys i a in-answers) ∙ map_push answer_of (take i ys) a in
    subst (λ (cs : List law.Call). Ran m p cs (map answer_of (take (i + 1) (set ys i a))) r) (sym (map_more (call_of w) xs i d in-calls))
    (subst (λ (zs : List law.Answer). Ran m p (map (call_of w) (take i xs) ++ call_of w (get_or xs i d) ∷ []) zs r) (sym answers) (ran_more ran called))

-- an answer leaves those behind it
pub behind_kept : (ys : List (Result Answer PlanFault)) (i : ℕ) (a : Result Answer PlanFault) (k : ℕ) (d : law.Answer) → i + 1 ≤ k → get_or (map answer_of (set ys i a)) k d ≡ get_or (map answer_of ys) k d
behind_kept ys i a k d h = ap (λ (zs : List law.Answer). get_or zs k d) (map-set answer_of ys i a) ∙ get_or-set_other (map answer_of ys) i k (answer_of a) d (λ e. omega arith)
