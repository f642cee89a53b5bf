-- The calls determine the decision log, and every decision in it was fair to ask for.
use Rattle.std.proofs.Common.{◌≡◌, ℕ, ◌<◌, true, false, List, [], ◌∷◌, length, get_or, Option, sym, refl, ◌∙◌, subst, ap₂, ⊎_elim, arith}
use Rattle.std.proofs.lemmas.Bool.{both_ways}
use Rattle.refusals.specs.declared.PlanFault.{PlanFault}
use Rattle.families.specs.Meaning.{Meaning}
use Rattle.settling.specs.Masks.{Masks, AllOpen, SomeEmpty}
use Rattle.settling.proofs.Largest.{largest_one}
use Rattle.histories.specs.Decisions.{Decision}
use Rattle.histories.specs.Calls.{Call, try, mark, back, Answer, refusal}
use Rattle.histories.specs.Log.{Log, Holds, Breaks, First, Turn, Turns, end, more}
use Rattle.histories.proofs.Narrowing.{Every}
use Rattle.histories.proofs.Refusals.{Fair, refused_not_free, try_free, mark_free, back_free}

pub open_not_empty : (m : Meaning) (t : Masks) → AllOpen m t → SomeEmpty m t → ⊥
open_not_empty m t a e =
    ⊎_elim
    (λ (c : (i : ℕ) × (i < 192) × (get_or t.cells i 0 ≡ 0)). omega (arith, a.cells c.0 c.1, c.2))
    (λ (c : (r : ℕ) × (r < m.rules) × (get_or t.tallies r 0 ≡ 0)). omega (arith, a.tallies c.0 c.1, c.2))
    e

pub holds_not_breaks : (m : Meaning) (s : Masks) → Holds m s → Breaks m s → ⊥
holds_not_breaks m s h b = open_not_empty m b.0 (subst (AllOpen m) (largest_one m s h.0 b.0 h.1 b.1) h.2) b.2

-- each decision of each level
abbrev pub EveryLevel : (Decision → Type 0) → List (List Decision) → Type 0
EveryLevel P [] = Unit
EveryLevel P (ds ∷ ls) = Every P ds × EveryLevel P ls

-- every decision of a log was fair, and a void log has none
pub record FairLog (m : Meaning) (b : Log) : Type 0 where
  pub standing : Every (Fair m) b.standing
  pub levels : EveryLevel (Fair m) b.levels
  pub bare_where_void : b.void ≡ true → b.standing ≡ []

module _ (m : Meaning) (start : Masks) where
  pub first_one : {b c : Log} → First m start b → First m start c → b ≡ c
  first_one (First.begins h1) (First.begins h2) = refl
  first_one (First.begins h1) (First.cannot h2) = absurd (holds_not_breaks m start h1 h2)
  first_one (First.cannot h1) (First.begins h2) = absurd (holds_not_breaks m start h2 h1)
  first_one (First.cannot h1) (First.cannot h2) = refl

  pub first_fair : {b : Log} → First m start b → FairLog m b
  first_fair (First.begins h) = record { standing = tt; levels = tt; bare_where_void = λ e. refl }
  first_fair (First.cannot h) = record { standing = tt; levels = tt; bare_where_void = λ e. refl }

  pub first_breaks : {b : Log} → First m start b → b.void ≡ true → Breaks m start
  first_breaks (First.begins h) e = absurd (both_ways false refl e)
  first_breaks (First.cannot h) e = h

  pub first_runs : {b : Log} → First m start b → b.void ≡ false → b ≡ record { void = false; standing = []; levels = [] }
  first_runs (First.begins h) e = refl
  first_runs (First.cannot h) e = absurd (both_ways true e refl)

  module _ (b : Log) where
    abbrev turned : Call → Option PlanFault
    turned c = refusal m b.void (length b.levels) c

    -- a call leaves one log, whatever it answers
    pub turn_one : {c : Call} {x : Answer} {e : Log} {y : Answer} {f : Log} → Turn m start b c x e → Turn m start b c y f → e ≡ f
    turn_one (Turn.refuses c1 e1 h1) (Turn.refuses c2 e2 h2) = refl
    turn_one (Turn.refuses c1 e1 h1) (Turn.stands d2 w2 n2 k2 h2 g2) = absurd (refused_not_free (turned (try d2 w2)) e1 h1 h2)
    turn_one (Turn.refuses c1 e1 h1) (Turn.falls d2 w2 o2 n2 k2 h2 g2) = refl
    turn_one (Turn.refuses c1 e1 h1) (Turn.opens h2) = absurd (refused_not_free (turned mark) e1 h1 h2)
    turn_one (Turn.refuses c1 e1 h1) (Turn.closes ds2 ls2 h2 g2) = absurd (refused_not_free (turned back) e1 h1 h2)
    turn_one (Turn.refuses c1 e1 h1) (Turn.tells q2 w2 t2 h2 g2) = refl
    turn_one (Turn.stands d1 w1 n1 k1 h1 g1) (Turn.refuses c2 e2 h2) = absurd (refused_not_free (turned (try d1 w1)) e2 h2 h1)
    turn_one (Turn.stands d1 w1 n1 k1 h1 g1) (Turn.stands d2 w2 n2 k2 h2 g2) = refl
    turn_one (Turn.stands d1 w1 n1 k1 h1 g1) (Turn.falls d2 w2 o2 n2 k2 h2 g2) = absurd (holds_not_breaks m _ g1 g2)
    turn_one (Turn.falls d1 w1 o1 n1 k1 h1 g1) (Turn.refuses c2 e2 h2) = refl
    turn_one (Turn.falls d1 w1 o1 n1 k1 h1 g1) (Turn.stands d2 w2 n2 k2 h2 g2) = absurd (holds_not_breaks m _ g2 g1)
    turn_one (Turn.falls d1 w1 o1 n1 k1 h1 g1) (Turn.falls d2 w2 o2 n2 k2 h2 g2) = refl
    turn_one (Turn.opens h1) (Turn.refuses c2 e2 h2) = absurd (refused_not_free (turned mark) e2 h2 h1)
    turn_one (Turn.opens h1) (Turn.opens h2) = refl
    turn_one (Turn.closes ds1 ls1 h1 g1) (Turn.refuses c2 e2 h2) = absurd (refused_not_free (turned back) e2 h2 h1)
    turn_one (Turn.closes ds1 ls1 h1 g1) (Turn.closes ds2 ls2 h2 g2) =
        let e : ds1 ≡ ds2 = cc in
        let f : ls1 ≡ ls2 = cc in
        ap₂ (λ (ds : List Decision) (ls : List (List Decision)). record { void = false; standing = ds; levels = ls }) e f
    turn_one (Turn.tells q1 w1 t1 h1 g1) (Turn.refuses c2 e2 h2) = refl
    turn_one (Turn.tells q1 w1 t1 h1 g1) (Turn.tells q2 w2 t2 h2 g2) = refl

    -- no call makes a plan void
    pub turn_void : {c : Call} {x : Answer} {e : Log} → Turn m start b c x e → e.void ≡ b.void
    turn_void (Turn.refuses c e h) = refl
    turn_void (Turn.stands d w n k h g) = sym (try_free m b.void (length b.levels) d w h).2
    turn_void (Turn.falls d w o n k h g) = refl
    turn_void (Turn.opens h) = sym (mark_free m b.void (length b.levels) h).0
    turn_void (Turn.closes ds ls h g) = sym (back_free m b.void (length b.levels) h).0
    turn_void (Turn.tells q w t h g) = refl

    pub turn_fair : {c : Call} {x : Answer} {e : Log} → Turn m start b c x e → FairLog m b → FairLog m e
    turn_fair (Turn.refuses c e h) f = f
    turn_fair (Turn.stands d w n k h g) f =
        record { standing = ((try_free m b.void (length b.levels) d w h).0, f.standing); levels = f.levels; bare_where_void = λ e. absurd (both_ways false refl e) }
    turn_fair (Turn.falls d w o n k h g) f = f
    turn_fair (Turn.opens h) f = record { standing = f.standing; levels = (f.standing, f.levels); bare_where_void = λ e. absurd (both_ways false refl e) }
    turn_fair (Turn.closes ds ls h g) f =
        let l : EveryLevel (Fair m) (ds ∷ ls) = subst (EveryLevel (Fair m)) g f.levels in
        record { standing = l.0; levels = l.1; bare_where_void = λ e. absurd (both_ways false refl e) }
    turn_fair (Turn.tells q w t h g) f = f

  -- the same of any list of calls
  pub turns_one : {b : Log} {cs : List Call} {ys : List Answer} {c : Log} {zs : List Answer} {d : Log} → Turns m start b cs ys c → Turns m start b cs zs d → c ≡ d
  turns_one (end b1) (end b2) = refl
  turns_one (more b1 c1 d1 x1 xs1 y1 ys1 t1 r1) (more b2 c2 d2 x2 xs2 y2 ys2 t2 r2) =
      turns_one (subst (λ (e : Log). Turns m start e xs1 ys1 d1) (turn_one b1 t1 t2) r1) r2

  pub turns_void : {b : Log} {cs : List Call} {ys : List Answer} {c : Log} → Turns m start b cs ys c → c.void ≡ b.void
  turns_void (end b) = refl
  turns_void (more b c d x xs y ys t r) = turns_void r ∙ turn_void b t

  pub turns_fair : {b : Log} {cs : List Call} {ys : List Answer} {c : Log} → Turns m start b cs ys c → FairLog m b → FairLog m c
  turns_fair (end b) f = f
  turns_fair (more b c d x xs y ys t r) f = turns_fair r (turn_fair b t f)

  -- from the first log on, the calls determine the log
  pub log_one : (b c d e : Log) (cs : List Call) (ys zs : List Answer) → First m start b → Turns m start b cs ys c → First m start d → Turns m start d cs zs e → e ≡ c
  log_one b c d e cs ys zs f t g u = turns_one (subst (λ (x : Log). Turns m start x cs zs e) (first_one g f) u) t

  -- where the log is void, the largest masks within the start have an empty one
  pub void_breaks : (b c : Log) (cs : List Call) (ys : List Answer) → First m start b → Turns m start b cs ys c → c.void ≡ true → Breaks m start
  void_breaks b c cs ys f t v = first_breaks f (sym (turns_void t) ∙ v)
