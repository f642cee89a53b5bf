-- Chains of calls: each list of calls has one run, which shows the log that the calls make.
use Rattle.std.proofs.Common.{◌≡◌, ℕ, true, List, [], ◌∷◌, refl, subst, ap₂}
use Rattle.families.specs.Meaning.{Meaning}
use Rattle.families.specs.Laws.{Lawful}
use Rattle.settling.specs.Masks.{Masks, Sized}
use Rattle.histories.specs.Calls.{Call, Answer}
use Rattle.histories.specs.Log.{Log, Starts, Breaks, First, Turns}
use Rattle.histories.specs.Plans.{View, Shows, Ran, Run}
use Rattle.histories.specs.Law.{DraftCells}
use Rattle.histories.proofs.Steps.{step_one, step_exists}
use Rattle.histories.proofs.Logs.{shows_sized, called}
use Rattle.histories.proofs.Starting.{starts_sized, begun_exists, begun_one}
use Rattle.histories.proofs.Turns.{FairLog, first_fair, turns_fair, void_breaks}

module _ (m : Meaning) where
  pub ran_one : {p : View} {cs : List Call} {ys : List Answer} {q : View} {zs : List Answer} {r : View} → Ran m p cs ys q → Ran m p cs zs r → (ys ≡ zs) × (q ≡ r)
  ran_one (Ran.end p1) (Ran.end p2) = (refl, refl)
  ran_one (Ran.more p1 q1 r1 c1 cs1 a1 ys1 k1 s1) (Ran.more p2 q2 r2 c2 cs2 a2 ys2 k2 s2) =
      let o = step_one m p1 k1.step k2.step in
      let i = ran_one (subst (λ (x : View). Ran m x cs1 ys1 r1) o.1 s1) s2 in
      (ap₂ ◌∷◌ o.0 i.0, i.1)

  -- the answers of a run, and what the plan then holds, are determined
  pub run_one : (cells : List ℕ) (a : Answer) (cs : List Call) (ys : List Answer) (p : View) (e : Answer) (zs : List Answer) (q : View) → Run m cells a cs ys p → Run m cells e cs zs q
      → (e ≡ a) × (zs ≡ ys) × (q ≡ p)
  run_one cells a cs ys p e zs q r s =
      let o = begun_one m cells e s.0 a r.0 s.1 r.1 in
      let i = ran_one (subst (λ (x : View). Ran m x cs zs q) o.1 s.2) r.2 in
      (o.0, i.0, i.1)

  module _ (start : Masks) (z : Sized start) where
    pub ran_turns : {p : View} {cs : List Call} {ys : List Answer} {q : View} → Ran m p cs ys q → (b : Log) → Shows m start b p → (c : Log) × Turns m start b cs ys c × Shows m start c q
    ran_turns (Ran.end p) b sh = (b, Turns.end b, sh)
    ran_turns (Ran.more p q r c cs a ys k s) b sh =
        let t = k.log_kept start b z sh in
        let i = ran_turns s t.0 t.2 in
        (i.0, Turns.more b t.0 i.0 c cs a ys t.1 i.1, i.2)

    pub ran_exists : Lawful m → (cs : List Call) (p : View) (b : Log) → Shows m start b p → (ys : List Answer) × (q : View) × Ran m p cs ys q
    ran_exists law [] p b sh = ([], p, Ran.end p)
    ran_exists law (c ∷ cs) p b sh =
        let s = step_exists m p law (shows_sized m start b p z sh) c in
        let k = called m law c s.0 p s.1 s.2 in
        let t = k.log_kept start b z sh in
        let i = ran_exists law cs s.1 t.0 t.2 in
        (s.0 ∷ i.0, i.1, Ran.more p s.1 i.1 c cs s.0 i.0 k i.2)

-- a run shows the log that its calls make
pub record Logged (m : Meaning) (cells : List ℕ) (cs : List Call) (ys : List Answer) (p : View) : Type 0 where
  pub start : Masks
  pub first : Log
  pub log : Log
  pub starts : Starts m cells start
  pub first_is : First m start first
  pub log_kept : Turns m start first cs ys log
  pub plan_shows_log : Shows m start log p

-- every decision of its log was fair to ask for
pub logged_fair : (m : Meaning) (cells : List ℕ) (cs : List Call) (ys : List Answer) (p : View) (l : Logged m cells cs ys p) → FairLog m l.log
logged_fair m cells cs ys p l = turns_fair m l.start l.log_kept (first_fair m l.start l.first_is)

-- where it is void, no decision stands and the largest masks within the start have an empty one
pub logged_void : (m : Meaning) (cells : List ℕ) (cs : List Call) (ys : List Answer) (p : View) (l : Logged m cells cs ys p) → l.log.void ≡ true → (l.log.standing ≡ []) × Breaks m l.start
logged_void m cells cs ys p l v =
    ((logged_fair m cells cs ys p l).bare_where_void v, void_breaks m l.start l.first l.log cs ys l.first_is l.log_kept v)

module _ (m : Meaning) (law : Lawful m) (cells : List ℕ) (draft : DraftCells cells) where
  pub run_logged : (a : Answer) (cs : List Call) (ys : List Answer) (p : View) → Run m cells a cs ys p → Logged m cells cs ys p
  run_logged a cs ys p r =
      let b = r.1 in
      let t = ran_turns m b.start (starts_sized m cells law draft b.start b.starts) r.2 b.log b.shows in
      record { start = b.start; first = b.log; log = t.0; starts = b.starts; first_is = b.first; log_kept = t.1; plan_shows_log = t.2 }

  -- every list of calls has a run
  pub run_exists : (cs : List Call) → (a : Answer) × (ys : List Answer) × (q : View) × Run m cells a cs ys q
  run_exists cs =
      let b = begun_exists m cells law draft in
      let g = b.2 in
      let i = ran_exists m g.start (starts_sized m cells law draft g.start g.starts) law cs b.1 g.log g.shows in
      (b.0, i.0, i.1, (b.1, g, i.2))
