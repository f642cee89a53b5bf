-- What is known halfway through settling.
use Rattle.std.proofs.Common.{◌≡◌, ℕ, ◌+◌, ◌<◌, ◌≤◌, sym, refl, subst, arith}
use Rattle.families.specs.Meaning.{Meaning}
use Rattle.settling.specs.Masks.{Masks}
use Rattle.settling.specs.Rounds.{run, taken, Place, Names, Full, End, well, fails, Settles, nothing_went, next_round, empties, next_rule}

-- whatever settling does from s, at rule r and with d values taken in the round, it does from s0 with n0 runs and k0 values more
abbrev pub Carries : Meaning → ℕ → ℕ → Masks → Masks → ℕ → ℕ → Type 0
Carries m r d s s0 n0 k0 = (t : Masks) (e : End) (n k : ℕ) → Settles m t e r d s n k → Settles m t e 0 0 s0 (n0 + n) (k0 + k)

-- the same rounds under equal numbers
pub recount : {m : Meaning} {t : Masks} {e : End} {r d n k : ℕ} {s : Masks} {r' d' n' k' : ℕ} → Settles m t e r d s n k → r ≡ r' → d ≡ d' → n ≡ n' → k ≡ k' → Settles m t e r' d' s n' k'
recount {m} {t} {e} {r} {d} {n} {k} {s} {r'} {d'} {n'} {k'} w p q a b =
    subst (λ (x : ℕ). Settles m t e x d' s n' k') p (subst (λ (x : ℕ). Settles m t e r x s n' k') q
    (subst (λ (x : ℕ). Settles m t e r d s x k') a (subst (λ (x : ℕ). Settles m t e r d s n x) b w)))

module _ (m : Meaning) (r d : ℕ) (s s0 : Masks) (n0 k0 : ℕ) (sofar : Carries m r d s s0 n0 k0) where
  -- one run more, after which no mask is empty
  pub carries_rule : (s' : Masks) (a d' k' : ℕ) → r < m.rules → s' ≡ run m r s → a ≡ taken m r s → Full s' r → d' ≡ d + a → k' ≡ k0 + a → Carries m (r + 1) d' s' s0 (n0 + 1) k'
  carries_rule s' a d' k' h e f full p q t z n k w =
      let v : Settles m t z (r + 1) (d + taken m r s) (run m r s) n k =
      subst (λ (x : Masks). Settles m t z (r + 1) (d + taken m r s) x n k) e (recount w refl (omega arith) refl refl) in
      recount (sofar t z (n + 1) (taken m r s + k) (next_rule r d s n k h (subst (λ (x : Masks). Full x r) e full) v)) refl refl (omega arith) (omega arith)

  -- a run that empties a mask
  pub carries_empty : (t : Masks) (p : Place) (a n' k' : ℕ) → r < m.rules → t ≡ run m r s → a ≡ taken m r s → Names t r p → n' ≡ n0 + 1 → k' ≡ k0 + a → Settles m t (fails r p) 0 0 s0 n' k'
  carries_empty t p a n' k' h e f nm x y =
      recount (sofar t (fails r p) 1 (taken m r s) (empties r d s p h e nm refl)) refl refl (omega arith) (omega arith)

  -- a round that took nothing
  pub carries_end : m.rules ≤ r → d ≡ 0 → Settles m s well 0 0 s0 n0 k0
  carries_end h z = recount (sofar s well 0 0 (recount (nothing_went r h refl) refl (sym z) refl refl)) refl refl (omega arith) (omega arith)

  -- a round that took something
  pub carries_round : m.rules ≤ r → 0 < d → Carries m 0 0 s s0 n0 k0
  carries_round h p t e n k w = sofar t e n k (next_round r d s n k h p w)

-- one stretch of rounds after the other
pub carries_join : (m : Meaning) (s s1 s0 : Masks) (n1 k1 n0 k0 n' k' : ℕ) → Carries m 0 0 s s1 n1 k1 → Carries m 0 0 s1 s0 n0 k0 → n' ≡ n0 + n1 → k' ≡ k0 + k1 → Carries m 0 0 s s0 n' k'
carries_join m s s1 s0 n1 k1 n0 k0 n' k' f g p q t e n k w = recount (g t e (n1 + n) (k1 + k) (f t e n k w)) refl refl (omega arith) (omega arith)
