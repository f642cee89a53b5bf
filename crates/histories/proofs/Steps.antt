-- Each call does one thing, and does something.
use Rattle.std.proofs.Common.{◌≡◌, ℕ, ◌+◌, ◌<◌, Bool, true, false, List, [], ◌∷◌, length, Some, None, Option, refl, ap, ◌∙◌, ap₂, ⊎_elim, arith}
use Rattle.std.proofs.lemmas.Bool.{cases_eq}
use Rattle.refusals.specs.declared.PlanFault.{PlanFault}
use Rattle.families.specs.Meaning.{Meaning}
use Rattle.families.specs.Laws.{Lawful}
use Rattle.settling.specs.Masks.{Masks, Sized}
use Rattle.settling.specs.Rounds.{End, well, fails, Settles}
use Rattle.settling.proofs.Rounds.{well_or_fails}
use Rattle.settling.proofs.Determined.{settles_one, settles_exist}
use Rattle.histories.specs.Decisions.{Decision, narrow, named}
use Rattle.histories.specs.Calls.{Call, try, mark, back, ask, Answer, done, failed, level, refused, refusal, reply}
use Rattle.histories.specs.Plans.{View, Free, Step, Ran}
use Rattle.histories.proofs.Narrowing.{narrow_sized}
use Rattle.histories.proofs.Refusals.{refused_not_free, refused_one, refused_or_free, try_free, mark_free, back_free}

abbrev view : Masks → List Masks → Bool → View
view now below void = record { now = now; below = below; void = void }

module _ (m : Meaning) (p : View) where
  abbrev turned : Call → Option PlanFault
  turned c = refusal m p.void (length p.below) c

  -- a call does only one thing
  pub step_one : {c : Call} {a : Answer} {q : View} {e : Answer} {r : View} → Step m p c a q → Step m p c e r → (a ≡ e) × (q ≡ r)
  step_one (Step.refuses c1 e1 h1) (Step.refuses c2 e2 h2) = (ap refused (refused_one (turned c1) e1 e2 h1 h2), refl)
  step_one (Step.refuses c1 e1 h1) (Step.empties d2 w2 h2 z2) = absurd (refused_not_free (turned (try d2 w2)) e1 h1 h2)
  step_one (Step.refuses c1 e1 h1) (Step.settles d2 w2 t2 n2 k2 h2 z2 s2) = absurd (refused_not_free (turned (try d2 w2)) e1 h1 h2)
  step_one (Step.refuses c1 e1 h1) (Step.breaks d2 w2 u2 r2 x2 n2 k2 h2 z2 s2) = absurd (refused_not_free (turned (try d2 w2)) e1 h1 h2)
  step_one (Step.refuses c1 e1 h1) (Step.marks h2) = absurd (refused_not_free (turned mark) e1 h1 h2)
  step_one (Step.refuses c1 e1 h1) (Step.backs s2 ss2 h2 b2) = absurd (refused_not_free (turned back) e1 h1 h2)
  step_one (Step.refuses c1 e1 h1) (Step.tells q2 w2 h2) = absurd (refused_not_free (turned (ask q2 w2)) e1 h1 h2)
  step_one (Step.empties d1 w1 h1 z1) (Step.refuses c2 e2 h2) = absurd (refused_not_free (turned (try d1 w1)) e2 h2 h1)
  step_one (Step.empties d1 w1 h1 z1) (Step.empties d2 w2 h2 z2) = (refl, refl)
  step_one (Step.empties d1 w1 h1 z1) (Step.settles d2 w2 t2 n2 k2 h2 z2 s2) = absurd (omega arith)
  step_one (Step.empties d1 w1 h1 z1) (Step.breaks d2 w2 u2 r2 x2 n2 k2 h2 z2 s2) = absurd (omega arith)
  step_one (Step.settles d1 w1 t1 n1 k1 h1 z1 s1) (Step.refuses c2 e2 h2) = absurd (refused_not_free (turned (try d1 w1)) e2 h2 h1)
  step_one (Step.settles d1 w1 t1 n1 k1 h1 z1 s1) (Step.empties d2 w2 h2 z2) = absurd (omega arith)
  step_one (Step.settles d1 w1 t1 n1 k1 h1 z1 s1) (Step.settles d2 w2 t2 n2 k2 h2 z2 s2) =
      let o = settles_one s1 s2 in
      (ap₂ done o.2 o.3, ap (λ (t : Masks). view t p.below p.void) o.0)
  step_one (Step.settles d1 w1 t1 n1 k1 h1 z1 s1) (Step.breaks d2 w2 u2 r2 x2 n2 k2 h2 z2 s2) = absurd (well_or_fails r2 x2 (settles_one s1 s2).1)
  step_one (Step.breaks d1 w1 u1 r1 x1 n1 k1 h1 z1 s1) (Step.refuses c2 e2 h2) = absurd (refused_not_free (turned (try d1 w1)) e2 h2 h1)
  step_one (Step.breaks d1 w1 u1 r1 x1 n1 k1 h1 z1 s1) (Step.empties d2 w2 h2 z2) = absurd (omega arith)
  step_one (Step.breaks d1 w1 u1 r1 x1 n1 k1 h1 z1 s1) (Step.settles d2 w2 t2 n2 k2 h2 z2 s2) = absurd (well_or_fails r1 x1 (settles_one s2 s1).1)
  step_one (Step.breaks d1 w1 u1 r1 x1 n1 k1 h1 z1 s1) (Step.breaks d2 w2 u2 r2 x2 n2 k2 h2 z2 s2) =
      let o = settles_one s1 s2 in
      let e : fails r1 x1 ≡ fails r2 x2 = o.1 in
      let f : n1 ≡ n2 = o.2 in
      let g : k1 ≡ k2 = o.3 in
      (cc, refl)
  step_one (Step.marks h1) (Step.refuses c2 e2 h2) = absurd (refused_not_free (turned mark) e2 h2 h1)
  step_one (Step.marks h1) (Step.marks h2) = (refl, refl)
  step_one (Step.backs s1 ss1 h1 b1) (Step.refuses c2 e2 h2) = absurd (refused_not_free (turned back) e2 h2 h1)
  step_one (Step.backs s1 ss1 h1 b1) (Step.backs s2 ss2 h2 b2) =
      let e : s1 ≡ s2 = cc in
      let f : ss1 ≡ ss2 = cc in
      (ap (λ (ss : List Masks). level (length ss)) f, ap₂ (λ (s : Masks) (ss : List Masks). view s ss p.void) e f)
  step_one (Step.tells q1 w1 h1) (Step.refuses c2 e2 h2) = absurd (refused_not_free (turned (ask q1 w1)) e2 h2 h1)
  step_one (Step.tells q1 w1 h1) (Step.tells q2 w2 h2) = (refl, refl)

  abbrev Does : Call → Type 0
  Does c = (a : Answer) × (q : View) × Step m p c a q

  module _ (law : Lawful m) (z : Sized p.now) where
    settled : (d : Decision) (w : ℕ) (t : Masks) (e : End) (n k : ℕ) → Free m p (try d w) → 0 < named d (narrow d p.now) → Settles m t e 0 0 (narrow d p.now) n k → Does (try d w)
    settled d w t well n k h o s = (done n k, view t p.below p.void, Step.settles d w t n k h o s)
    settled d w t (fails r x) n k h o s = (failed (Some (r, x)) n k, p, Step.breaks d w t r x n k h o s)

    freed : (c : Call) → Free m p c → Does c
    freed (try d w) h =
        ⊎_elim
        (λ (e : named d (narrow d p.now) ≡ 0). (failed None 0 0, p, Step.empties d w h e))
        (λ (ne : named d (narrow d p.now) ≡ 0 → ⊥).
        let s = settles_exist m law (narrow d p.now) (narrow_sized d p.now z) in
        settled d w s.0 s.1 s.2 s.3 h (omega arith) s.4)
        (cases_eq (named d (narrow d p.now)) 0)
    freed mark h = (level (length p.below + 1), view p.now (p.now ∷ p.below) p.void, Step.marks h)
    freed back h = newest p.below refl (back_free m p.void (length p.below) h).1
      where
        newest : (ss : List Masks) → p.below ≡ ss → 0 < length p.below → Does back
        newest [] e l = absurd (omega (arith, ap length e))
        newest (s ∷ ss) e l = (level (length ss), view s ss p.void, Step.backs s ss h e)
    freed (ask q w) h = (reply m p.void p.now q, p, Step.tells q w h)

    -- every call does something
    pub step_exists : (c : Call) → (a : Answer) × (q : View) × Step m p c a q
    step_exists c =
        ⊎_elim
        (λ (r : (e : PlanFault) × (turned c ≡ Some e)). (refused r.0, p, Step.refuses c r.0 r.1))
        (λ (h : turned c ≡ None). freed c h)
        (refused_or_free (turned c))

not_both : (b : Bool) → b ≡ true → b ≡ false → ⊥
not_both b t f = let z : ◌≡◌ {A = ℕ} 0 1 = cc in omega arith

-- no call changes a void plan
step_void : {m : Meaning} {p : View} {c : Call} {a : Answer} {q : View} → Step m p c a q → p.void ≡ true → q ≡ p
step_void (Step.refuses c e h) v = refl
step_void (Step.empties d w h z) v = refl
step_void {m} {p} (Step.settles d w t n k h z s) v = absurd (not_both p.void v (try_free m p.void (length p.below) d w h).2)
step_void (Step.breaks d w u r x n k h z s) v = refl
step_void {m} {p} (Step.marks h) v = absurd (not_both p.void v (mark_free m p.void (length p.below) h).0)
step_void {m} {p} (Step.backs s ss h e) v = absurd (not_both p.void v (back_free m p.void (length p.below) h).0)
step_void (Step.tells q w h) v = refl

pub ran_void : {m : Meaning} {p : View} {cs : List Call} {ys : List Answer} {q : View} → Ran m p cs ys q → p.void ≡ true → q ≡ p
ran_void (Ran.end p) v = refl
ran_void (Ran.more p q r c cs a ys k rest) v = let e = step_void k.step v in ran_void rest (ap (λ (x : View). x.void) e ∙ v) ∙ e
