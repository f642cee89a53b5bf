-- A mask that is part of another: the order of masks, and how many members they have.
use Rattle.std.proofs.Common.{◌≡◌, ℕ, ◌^◌, ◌<◌, ◌≤◌, length, sym, ap, ◌∙◌, subst, lt_of_lt_of_le, mod-eq_of_lt, arith, pow_mono}
use lib.Bits.{bit_and, and_le_r, and_comm}
use lib.Count.{ones, ones-le}
use Rattle.masks.specs.Bit.{bit, Within}
use Rattle.masks.specs.Members.{members}
use Rattle.masks.proofs.Bits.{bit_lt, bit-bit_and, within_and, ones_same}
use Rattle.masks.proofs.Counting.{length_members}

pub within_refl : (a : ℕ) → Within a a
within_refl a k h = h

pub within_trans : (a b c : ℕ) → Within a b → Within b c → Within a c
within_trans a b c p q k h = q k (p k h)

pub within_antisym : (a b : ℕ) → Within a b → Within b a → a ≡ b
within_antisym a b p q = sym (within_and a b p) ∙ and_comm a b ∙ within_and b a q

pub within_le : (a b : ℕ) → Within a b → a ≤ b
within_le a b p = subst (λ (x : ℕ). x ≤ b) (within_and a b p) (and_le_r a b)

-- nothing is part of the empty mask but itself
pub within_empty : (a b : ℕ) → Within a b → b ≡ 0 → a ≡ 0
within_empty a b p z = let l = within_le a b p in omega arith

-- what two masks share is part of each, and holds whatever is part of both
pub shared_left : (a b : ℕ) → Within (bit_and a b) a
shared_left a b k h = let e = bit-bit_and a b k in let l = bit_lt a k in let g : bit (bit_and a b) k ≡ 1 = h in omega arith

pub shared_right : (a b : ℕ) → Within (bit_and a b) b
shared_right a b k h = let e = bit-bit_and a b k in let l = bit_lt b k in let g : bit (bit_and a b) k ≡ 1 = h in omega arith

pub shared_holds : (u a b : ℕ) → Within u a → Within u b → Within u (bit_and a b)
shared_holds u a b p q k h = let e = bit-bit_and a b k in let x : bit a k ≡ 1 = p k h in let y : bit b k ≡ 1 = q k h in omega arith

-- a mask of few bits has few members
pub members_few : (w n m : ℕ) → m < 2 ^ n → n ≤ w → length (members w m) ≤ n
members_few w n m h le =
    let small : m < 2 ^ w = lt_of_lt_of_le h (pow_mono le) in
    let all : length (members w m) ≡ ones m = length_members w m ∙ ap ones (mod-eq_of_lt small) in
    let few : ones m ≤ n = ones-le n m h in
    omega arith

-- a part with as many members is the whole
pub members_same : (w a b : ℕ) → a < 2 ^ w → b < 2 ^ w → Within a b → length (members w a) ≡ length (members w b) → a ≡ b
members_same w a b ha hb p e =
    ones_same a b p (sym (length_members w a ∙ ap ones (mod-eq_of_lt ha)) ∙ e ∙ length_members w b ∙ ap ones (mod-eq_of_lt hb))
