-- The bits of a number after one of them was put.
use Rattle.std.proofs.Common.{◌≡◌, ℕ, suc, ◌+◌, ◌-◌, ◌*◌, ◌/◌, ◌%◌, ◌^◌, ◌<◌, ◌≤◌, ◌≢◌, Bool, true, false, eqb, sym, refl, ap, ◌∙◌, ⊎_elim, arith}
use lib.Bits.{bit_and, bit_or}
use mir.Syntax.{w16}
use mir.Val.{bool_byte}
use Rattle.std.specs.Int.{bit_at}
use Rattle.std.proofs.lemmas.Bool.{cases_eq, cases_lt}
use Rattle.std.proofs.lemmas.Nat.{and_le_l, and_mask, mod_below, or_lt, pow_pos, shr_split}
use Rattle.std.proofs.lemmas.Nat.Bits.{bit_at-suc, bit_at_above, bit_at_cat_high, bit_at_cat_low, bit_at_clear_other, bit_at_clear_same, bit_at_lowest, bit_at_set_other, bit_at_set_same, same_from_bits}
use Rattle.word.specs.Bits.{bit_of, num, number_with_bit}

pub num_lt : (b : Bool) → num b < 2
num_lt true = omega arith
num_lt false = omega arith

pub num_bit : (b : Bool) → eqb (num b) 1 ≡ b
num_bit true = refl
num_bit false = refl

pub num_byte : (b : Bool) → bool_byte b ≡ num b
num_byte true = refl
num_byte false = refl

-- the lowest bit of a number, as a test
pub low_bit : (n : ℕ) → eqb (bit_and n 1) 1 ≡ eqb (n % 2) 1
low_bit n = ap (λ (x : ℕ). eqb x 1) (and_mask n 1)

module _ (w s : ℕ) (b : Bool) where
  low : w % 2 ^ s < 2 ^ s
  low = mod_below w (2 ^ s) (pow_pos s)

  bit_put : bit_at (number_with_bit w s b) s ≡ num b
  bit_put =
      let h = w / 2 ^ s / 2 * 2 + num b in
      let e = bit_at_cat_high h s (w % 2 ^ s) s low (omega arith) in
      let z : s - s ≡ 0 = omega arith in
      let f = bit_at_lowest h in
      let l = num_lt b in
      rw (e, z, f) (omega arith)

  -- a bit further left, of a number with these bits from s on
  left : (h t : ℕ) → s < t → bit_at (h * 2 ^ s + w % 2 ^ s) t ≡ bit_at (h / 2) (t - s - 1)
  left h t l =
      let e : t - s ≡ suc (t - s - 1) = omega arith in
      bit_at_cat_high h s (w % 2 ^ s) t low (omega arith) ∙ (ap (bit_at h) e ∙ bit_at-suc h (t - s - 1))

  bit_kept : (t : ℕ) → t ≢ s → bit_at (number_with_bit w s b) t ≡ bit_at w t
  bit_kept t ne =
      let h = w / 2 ^ s / 2 * 2 + num b in
      let whole : bit_at (w / 2 ^ s * 2 ^ s + w % 2 ^ s) t ≡ bit_at w t = ap (λ (x : ℕ). bit_at x t) (shr_split w s) in
      let l = num_lt b in
      let q : h / 2 ≡ w / 2 ^ s / 2 = omega arith in
      ⊎_elim
      (λ (r : t < s). bit_at_cat_low h s (w % 2 ^ s) t r ∙ (sym (bit_at_cat_low (w / 2 ^ s) s (w % 2 ^ s) t r) ∙ whole))
      (λ (r : s ≤ t). left h t (omega arith) ∙ (ap (λ (x : ℕ). bit_at x (t - s - 1)) q ∙ (sym (left (w / 2 ^ s) t (omega arith)) ∙ whole)))
      (cases_lt t s)

  pub put_same : bit_of (number_with_bit w s b) s ≡ b
  put_same = ap (λ (x : ℕ). eqb x 1) bit_put ∙ num_bit b

  pub put_other : (t : ℕ) → t ≢ s → bit_of (number_with_bit w s b) t ≡ bit_of w t
  put_other t ne = ap (λ (x : ℕ). eqb x 1) (bit_kept t ne)

  -- a halfword with these bits is that number
  by_bits : (x : ℕ) → w < 2 ^ 16 → s < 16 → x < 2 ^ 16 → bit_at x s ≡ num b → ((t : ℕ) → t < 16 → t ≢ s → bit_at x t ≡ bit_at w t) → x ≡ number_with_bit w s b
  by_bits x hw hs hx here other =
      let rest : (t : ℕ) → t ≢ s → bit_at x t ≡ bit_at w t =
      λ t ne. ⊎_elim
      (λ (r : t < 16). other t r ne)
      (λ (r : 16 ≤ t). bit_at_above x 16 t hx r ∙ sym (bit_at_above w 16 t hw r))
      (cases_lt t 16)
      in
      same_from_bits x (number_with_bit w s b)
      (λ t. ⊎_elim
      (λ (e : t ≡ s). rw e (here ∙ sym bit_put))
      (λ (ne : t ≢ s). rest t ne ∙ sym (bit_kept t ne))
      (cases_eq t s))

module _ (w s : ℕ) (hw : w < 2 ^ 16) (hs : s < 16) where
  pub bit_set : bit_or w (1 * 2 ^ s % 65536) ≡ number_with_bit w s true
  bit_set =
      by_bits w s true (bit_or w (1 * 2 ^ s % 65536)) hw hs (or_lt 16 w (1 * 2 ^ s % 65536) hw (omega arith)) (bit_at_set_same w16 w s hs)
      (λ t _ ne. bit_at_set_other w16 w s hs t ne)

  pub bit_cleared : bit_and w (65535 - 1 * 2 ^ s % 65536) ≡ number_with_bit w s false
  bit_cleared =
      let le = and_le_l w (65535 - 1 * 2 ^ s % 65536) in
      by_bits w s false (bit_and w (65535 - 1 * 2 ^ s % 65536)) hw hs (omega arith) (bit_at_clear_same w16 w s hs)
      (λ t h ne. bit_at_clear_other w16 w s hs t h ne)

pub ruleset put = (bit_set, bit_cleared)
