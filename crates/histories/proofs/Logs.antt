-- Each call keeps the plan as the decision log has it.
use Rattle.std.proofs.Common.{◌≡◌, ℕ, zero, suc, ◌+◌, ◌<◌, Bool, true, false, List, [], ◌∷◌, length, get_or, replicate, Some, None, Option, sym, refl, ap, ◌∙◌, subst, ap₂, inl, inr, ⊎_elim, arith, get_or-set_other}
use lib.Bits.{bit_and}
use Rattle.std.proofs.lemmas.List.{get_or_default}
use Rattle.std.proofs.lemmas.Bool.{cases_eq, cases_Bool}
use Rattle.masks.proofs.Parts.{within_empty}
use Rattle.families.specs.Meaning.{Meaning}
use Rattle.families.specs.Laws.{Lawful}
use Rattle.settling.specs.Masks.{Masks, Sized, Inside, AllOpen, SomeEmpty}
use Rattle.settling.specs.Rounds.{Place, well, fails, Settles}
use Rattle.settling.specs.Largest.{Largest}
use Rattle.settling.proofs.Largest.{largest_exists, largest_sized, largest_narrow}
use Rattle.settling.proofs.Rounds.{settles_outcome}
use Rattle.histories.specs.Decisions.{Decision, on_cell, on_tally, narrow, narrowed, named}
use Rattle.histories.specs.Calls.{Call, try, mark, back, ask, Answer, done, failed, level, refusal, reply}
use Rattle.histories.specs.Log.{Log, Breaks, Has, nothing, free, Turn}
use Rattle.histories.specs.Plans.{View, Shows, Free, Step, Called}
use Rattle.histories.proofs.Narrowing.{narrow_narrows, narrow_sized, narrowed_sized}
use Rattle.histories.proofs.Refusals.{Fair, try_free, mark_free, back_free}

zeros_at : (n i : ℕ) → ◌≡◌ {A = ℕ} (get_or (replicate n 0) i 0) 0
zeros_at zero i = refl
zeros_at (suc n) zero = refl
zeros_at (suc n) (suc i) = zeros_at n i

pub nothing_sized : Sized nothing
nothing_sized =
    record {
      cells = refl;
      narrow = λ i. let e : get_or nothing.cells i 0 ≡ 0 = zeros_at 192 i in omega arith;
      tallies = refl;
      fit = λ r. let e : get_or nothing.tallies r 0 ≡ 0 = zeros_at 72 r in omega arith;
    }

-- where the mask that a decision names is empty, it is so in all that is inside
named_none : (m : Meaning) (d : Decision) (t s : Masks) → Fair m d → Inside t s → named d s ≡ 0 → SomeEmpty m t
named_none m (on_cell i x) t s f ins e = inl (i, f.0, within_empty (get_or t.cells i 0) (get_or s.cells i 0) (ins.cells.each i) e)
named_none m (on_tally r x) t s f ins e = inr (r, f.0, within_empty (get_or t.tallies r 0) (get_or s.tallies r 0) (ins.tallies.each r) e)

-- a decision empties no mask but the one that it names
narrow_open : (m : Meaning) (d : Decision) (s : Masks) → AllOpen m s → 0 < named d (narrow d s) → AllOpen m (narrow d s)
narrow_open m (on_cell i x) s a h =
    record {
      cells = λ j l. ⊎_elim
          (λ (e : j ≡ i). subst (λ (k : ℕ). 0 < get_or (narrow (on_cell i x) s).cells k 0) (sym e) h)
          (λ (ne : j ≡ i → ⊥). rw (get_or-set_other s.cells i j (bit_and (get_or s.cells i 0) x) 0 ne) (a.cells j l))
          (cases_eq j i);
      tallies = a.tallies;
    }
narrow_open m (on_tally r x) s a h =
    record {
      cells = a.cells;
      tallies = λ j l. ⊎_elim
          (λ (e : j ≡ r). subst (λ (k : ℕ). 0 < get_or (narrow (on_tally r x) s).tallies k 0) (sym e) h)
          (λ (ne : j ≡ r → ⊥). rw (get_or-set_other s.tallies r j (bit_and (get_or s.tallies r 0) x) 0 ne) (a.tallies j l))
          (cases_eq j r);
    }

-- the masks of a plan that shows a log are masks as they are
pub shows_sized : (m : Meaning) (start : Masks) (b : Log) (p : View) → Sized start → Shows m start b p → Sized p.now
shows_sized m start b p z sh =
    ⊎_elim
    (λ (v : b.void ≡ true). subst Sized (sym (sh.masks_now.nothing_where_void v)) nothing_sized)
    (λ (v : b.void ≡ false). largest_sized m (narrowed b.standing start) p.now (narrowed_sized b.standing start z) (sh.masks_now.largest_else v).0)
    (cases_Bool b.void)

abbrev log : List Decision → List (List Decision) → Log
log standing levels = record { void = false; standing = standing; levels = levels }

abbrev view : Masks → List Masks → Bool → View
view now below void = record { now = now; below = below; void = void }

module _ (m : Meaning) (law : Lawful m) (p : View) (start : Masks) (b : Log) (z : Sized start) (sh : Shows m start b p) where
  same_refusal : (c : Call) → refusal m p.void (length p.below) c ≡ refusal m b.void (length b.levels) c
  same_refusal c = ap₂ (λ (v : Bool) (n : ℕ). refusal m v n c) sh.same_void sh.same_levels

  as_free : (c : Call) → Free m p c → free m b c
  as_free c h = sym (same_refusal c) ∙ h

  running : p.void ≡ false → b.void ≡ false
  running v = sym sh.same_void ∙ v

  has_now : p.void ≡ false → Has m start false b.standing p.now
  has_now v = subst (λ (x : Bool). Has m start x b.standing p.now) (running v) sh.masks_now

  has_below : (i : ℕ) (t : Masks) → i < length b.levels → Has m start false (get_or b.levels i []) (get_or p.below i t)
  has_below i t l =
      let k : i < length p.below = omega (arith, sh.same_levels) in
      subst (λ (s : Masks). Has m start false (get_or b.levels i []) s) (get_or_default p.below i p.now t k) (sh.masks_below i l)

  module _ (d : Decision) (v : p.void ≡ false) where
    big : Largest m (narrowed b.standing start) p.now
    big = (sh.masks_now.largest_else (running v)).0

    wide : Sized (narrow d p.now)
    wide = narrow_sized d p.now (shows_sized m start b p z sh)

    lower : (t : Masks) → Largest m (narrow d p.now) t → Largest m (narrowed (d ∷ b.standing) start) t
    lower t = largest_narrow m (narrow d) (narrow_narrows d) (narrowed b.standing start) p.now t big

    -- a decision that empties the mask that it names cannot stand
    empties_breaks : Fair m d → named d (narrow d p.now) ≡ 0 → Breaks m (narrowed (d ∷ b.standing) start)
    empties_breaks f e =
        let t = largest_exists m law (narrow d p.now) wide in
        (t.0, lower t.0 t.1, named_none m d t.0 (narrow d p.now) f t.1.inside e)

    module _ (o : 0 < named d (narrow d p.now)) where
      narrow_all_open : AllOpen m (narrow d p.now)
      narrow_all_open = narrow_open m d p.now (sh.masks_now.largest_else (running v)).1 o

      settles_holds : (t : Masks) (n k : ℕ) → Settles m t well 0 0 (narrow d p.now) n k → Largest m (narrowed (d ∷ b.standing) start) t × AllOpen m t
      settles_holds t n k s = let e = (settles_outcome m law wide narrow_all_open s).ends_with_largest refl in (lower t e.0, e.1)

      fails_breaks : (u : Masks) (r : ℕ) (x : Place) (n k : ℕ) → Settles m u (fails r x) 0 0 (narrow d p.now) n k → Breaks m (narrowed (d ∷ b.standing) start)
      fails_breaks u r x n k s = let e = (settles_outcome m law wide narrow_all_open s).fails_where_largest_is_empty r x refl in (e.0, lower e.0 e.1, e.2)

  abbrev Kept : Call → Answer → View → Type 0
  Kept c a q = (e : Log) × Turn m start b c a e × Shows m start e q

  kept_done : (d : Decision) (w : ℕ) (t : Masks) (n k : ℕ) → Free m p (try d w) → 0 < named d (narrow d p.now) → Settles m t well 0 0 (narrow d p.now) n k
      → Kept (try d w) (done n k) (view t p.below p.void)
  kept_done d w t n k h o s =
      let v : p.void ≡ false = (try_free m p.void (length p.below) d w h).2 in
      let g = settles_holds d v o t n k s in (
        log (d ∷ b.standing) b.levels,
        Turn.stands d w n k (as_free (try d w) h) (t, g.0, g.1),
        record {
          same_void = v;
          masks_now = record { nothing_where_void = λ e. let y : ◌≡◌ {A = ℕ} 0 1 = cc in absurd (omega arith); largest_else = λ e. g };
          same_levels = sh.same_levels;
          masks_below = λ i l. has_below i t l;
        },
      )

  kept_failed : (d : Decision) (w : ℕ) (o : Option (ℕ × Place)) (n k : ℕ) → Free m p (try d w) → Breaks m (narrowed (d ∷ b.standing) start) → Kept (try d w) (failed o n k) p
  kept_failed d w o n k h g = (b, Turn.falls d w o n k (as_free (try d w) h) g, sh)

  kept_mark : Free m p mark → Kept mark (level (length p.below + 1)) (view p.now (p.now ∷ p.below) p.void)
  kept_mark h =
      let v : p.void ≡ false = (mark_free m p.void (length p.below) h).0 in (
        log b.standing (b.standing ∷ b.levels),
        subst (λ (n : ℕ). Turn m start b mark (level (n + 1)) (log b.standing (b.standing ∷ b.levels))) (sym sh.same_levels) (Turn.opens (as_free mark h)),
        record { same_void = v; masks_now = has_now v; same_levels = ap suc sh.same_levels; masks_below = at v },
      )
    where
      at : p.void ≡ false → (i : ℕ) → i < length (b.standing ∷ b.levels) → Has m start false (get_or (b.standing ∷ b.levels) i []) (get_or (p.now ∷ p.below) i p.now)
      at v zero l = has_now v
      at v (suc i) l = has_below i p.now (omega arith)

  kept_back : (s : Masks) (ss : List Masks) → Free m p back → p.below ≡ s ∷ ss → Kept back (level (length ss)) (view s ss p.void)
  kept_back s ss h e = newest b.levels refl
    where
      v : p.void ≡ false
      v = (back_free m p.void (length p.below) h).0

      newest : (ls : List (List Decision)) → b.levels ≡ ls → Kept back (level (length ss)) (view s ss p.void)
      newest [] f = absurd (omega (arith, ap length e, ap length f, sh.same_levels))
      newest (ds ∷ ls) f =
          let same : length ss ≡ length ls = omega (arith, ap length e, ap length f, sh.same_levels) in (
            log ds ls,
            subst (λ (n : ℕ). Turn m start b back (level n) (log ds ls)) (sym same) (Turn.closes ds ls (as_free back h) f),
            record {
              same_void = v;
              masks_now = at 0 (omega arith);
              same_levels = same;
              masks_below = λ i l. at (suc i) (omega arith);
            },
          )
        where
          at : (i : ℕ) → i < length (ds ∷ ls) → Has m start false (get_or (ds ∷ ls) i []) (get_or (s ∷ ss) i s)
          at i l =
              subst (λ (xs : List (List Decision)). Has m start false (get_or xs i []) (get_or (s ∷ ss) i s)) f
              (subst (λ (ys : List Masks). Has m start false (get_or b.levels i []) (get_or ys i s)) e (has_below i s (omega (arith, ap length f))))

  -- whatever log the plan shows, it shows the log after the call
  pub step_kept : {c : Call} {a : Answer} {q : View} → Step m p c a q → (e : Log) × Turn m start b c a e × Shows m start e q
  step_kept (Step.refuses c e h) = (b, Turn.refuses c e (sym (same_refusal c) ∙ h), sh)
  step_kept (Step.empties d w h e) =
      let f = try_free m p.void (length p.below) d w h in
      kept_failed d w None 0 0 h (empties_breaks d f.2 f.0 e)
  step_kept (Step.settles d w t n k h o s) = kept_done d w t n k h o s
  step_kept (Step.breaks d w u r x n k h o s) = kept_failed d w (Some (r, x)) n k h (fails_breaks d (try_free m p.void (length p.below) d w h).2 o u r x n k s)
  step_kept (Step.marks h) = kept_mark h
  step_kept (Step.backs s ss h e) = kept_back s ss h e
  step_kept (Step.tells q w h) =
      (b, subst (λ (v : Bool). Turn m start b (ask q w) (reply m v p.now q) b) (sym sh.same_void) (Turn.tells q w p.now (as_free (ask q w) h) sh.masks_now), sh)

-- the contract of a call, from what it does
pub called : (m : Meaning) (law : Lawful m) (c : Call) (a : Answer) (p q : View) → Step m p c a q → Called m c a p q
called m law c a p q s = record { step = s; log_kept = λ start b z sh. step_kept m law p start b z sh s }
