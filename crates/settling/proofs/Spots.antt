-- Which empty mask is named.
use Rattle.std.proofs.Common.{◌≡◌, ℕ, ◌<◌, get_or, Some, None, Option, MatchOption, subst, sym}
use Rattle.std.specs.Option.{IsSomeAnd, option_or}
use Rattle.settling.specs.Masks.{Masks}
use Rattle.settling.specs.Rounds.{Names, Full, lowest_cell, own_tally}
use Rattle.settling.specs.declared.Spot.{Spot}
use Rattle.settling.specs.declared.Spot.TheVariants.{Cell, Tally}
use Rattle.settling.specs.Told.{place_of}

module _ (s : Masks) (r : ℕ) where
  -- where every cell has something, an empty tally is what is named
  pub tally_named : (q : Option Spot) → ((j : ℕ) → j < 192 → 0 < get_or s.cells j 0)
      → MatchOption q (0 < get_or s.tallies r 0) (λ p. (p ≡ Tally) × (get_or s.tallies r 0 ≡ 0)) → MatchOption q (Full s r) (λ p. Names s r (place_of p))
  tally_named None all h = record { cells = all; tally = h }
  tally_named (Some p) all h = subst (λ (x : Spot). Names s r (place_of x)) (sym h.0) (own_tally all h.1)

  -- the lowest empty cell is named before the tally
  pub lowest_named : (o : Option ℕ) (m q : Option Spot)
      → MatchOption o ((j : ℕ) → j < 192 → 0 < get_or s.cells j 0) (λ i. (i < 192) × (get_or s.cells i 0 ≡ 0) × ((j : ℕ) → j < i → 0 < get_or s.cells j 0))
      → MatchOption o (m ≡ None) (λ i. IsSomeAnd m (λ p. p ≡ Cell i))
      → MatchOption q (0 < get_or s.tallies r 0) (λ p. (p ≡ Tally) × (get_or s.tallies r 0 ≡ 0))
      → MatchOption (option_or m q) (Full s r) (λ p. Names s r (place_of p))
  lowest_named None None q all e h = tally_named q all h
  lowest_named None (Some p) q all e h = cc
  lowest_named (Some i) None q found e h = elim e [ ]
  lowest_named (Some i) (Some p) q found e h = subst (λ (x : Spot). Names s r (place_of x)) (sym e) (lowest_cell i found.0 found.1 found.2)
