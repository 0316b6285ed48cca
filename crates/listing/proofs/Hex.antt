-- The digits that the library writes of a number, in upper-case hexadecimal and with zeros in front.
use Rattle.std.proofs.Common.{◌≡◌, ℕ, zero, suc, ◌+◌, ◌-◌, ◌/◌, ◌%◌, ◌^◌, ◌<◌, ◌≤◌, ◌⊎◌, true, false, List, [], ◌∷◌, ◌++◌, length, replicate, refl, sym, ap, ◌∙◌, inl, inr, ⊎_elim, append-nil, arith}
use Rattle.std.specs.Fmt.{char_count, digit_glyph, digits, digits_onto, padded_integral, format_spec}
use Rattle.std.proofs.lemmas.Bool.{cases_lt, eq-eqb, le-ltb, lt-ltb, ne_eqb}
use Rattle.listing.specs.Numbers.{address_text, halfword_text}

-- The last k digits of n, before others.
abbrev pub last_digits : ℕ → ℕ → List ℕ → List ℕ
last_digits zero n acc = acc
last_digits (suc k) n acc = last_digits k (n / 16) (digit_glyph true (n % 16) ∷ acc)

length-last_digits : (k n : ℕ) (acc : List ℕ) → length (last_digits k n acc) ≡ k + length acc
length-last_digits zero n acc = omega arith
length-last_digits (suc k) n acc = length-last_digits k (n / 16) (digit_glyph true (n % 16) ∷ acc) ∙ omega arith

zero_before : (k : ℕ) (acc : List ℕ) → replicate k 48 ++ (48 ∷ acc) ≡ 48 ∷ (replicate k 48 ++ acc)
zero_before zero acc = refl
zero_before (suc k) acc = ap (λ (l : List ℕ). 48 ∷ l) (zero_before k acc)

-- Digits of zero are zeros.
no_digits : (k : ℕ) (acc : List ℕ) → last_digits k 0 acc ≡ replicate k 48 ++ acc
no_digits zero acc = refl
no_digits (suc k) acc = no_digits k (48 ∷ acc) ∙ zero_before k acc

-- Zeros fill up the digits of a number that has fewer.
filled_up : (c k n : ℕ) (acc : List ℕ) → n < 16 ^ c → last_digits (k + c) n acc ≡ replicate k 48 ++ last_digits c n acc
filled_up zero k n acc h =
    let z : n ≡ 0 = omega (arith, h) in
    let e : k + 0 ≡ k = omega arith in
    rw (e, z) (no_digits k acc)
filled_up (suc c) k n acc h =
    let q : n / 16 < 16 ^ c = omega (arith, h) in
    let e : k + suc c ≡ suc (k + c) = omega arith in
    rw e (filled_up c k (n / 16) (digit_glyph true (n % 16) ∷ acc) q)

-- A number of c + 1 digits is written with them: its first digit is not zero, or it is the only one.
written : (c f n : ℕ) (acc : List ℕ) → (c ≡ 0) ⊎ (16 ^ c ≤ n) → n < 16 ^ suc c → c ≤ f → digits_onto (suc f) 16 true n acc ≡ last_digits (suc c) n acc
written zero f n acc first below more =
    let z : n / 16 ≡ 0 = omega (arith, below) in rw (eq-eqb (n / 16) 0 z) refl
written (suc c) zero n acc first below more = absurd (omega arith)
written (suc c) (suc f) n acc first below more =
    let large : 16 ^ suc c ≤ n = ⊎_elim (λ (z : suc c ≡ 0). absurd (omega arith)) (λ h. h) first in
    let q : 16 ^ c ≤ n / 16 = omega (arith, large) in
    let b : n / 16 < 16 ^ suc c = omega (arith, below) in
    rw (ne_eqb (n / 16) 0 (λ z. omega (arith, large))) (written c f (n / 16) (digit_glyph true (n % 16) ∷ acc) (inr q) b (omega arith))

-- What `{:0wX}` writes of a number of c + 1 digits: w digits, or as many as it has.
abbrev pub zeros_and_digits : ℕ → ℕ → List ℕ
zeros_and_digits w n = padded_integral (format_spec 32 0 4 w (2 ^ 64 - 1)) false [] (digits 16 true n)

-- How many digits a number of at most m + 1 has, less one.
record Digits (m n : ℕ) : Type 0 where
  count : ℕ
  few : count ≤ m
  first : (count ≡ 0) ⊎ (16 ^ count ≤ n)
  below : n < 16 ^ suc count

sized : (m n : ℕ) → n < 16 ^ suc m → Digits m n
sized zero n h = record { count = 0; few = omega arith; first = inl refl; below = h }
sized (suc m) n h =
    ⊎_elim
    (λ (l : n < 16 ^ suc m). let d = sized m n l in record { count = d.count; few = omega (arith, d.few); first = d.first; below = d.below })
    (λ (l : 16 ^ suc m ≤ n). record { count = suc m; few = omega arith; first = inr l; below = h })
    (cases_lt n (16 ^ suc m))

module _ (w c n : ℕ) (first : (c ≡ 0) ⊎ (16 ^ c ≤ n)) (below : n < 16 ^ suc c) (few : c < 64) where
  digits_are : digits 16 true n ≡ last_digits (suc c) n []
  unfolding digits
  digits_are = written c 63 n [] first below (omega arith)

  padded_are : zeros_and_digits w n ≡ replicate (w - suc c) 48 ++ last_digits (suc c) n []
  unfolding padded_integral char_count
  padded_are =
      let l : length (last_digits (suc c) n []) ≡ suc c = length-last_digits (suc c) n [] ∙ omega arith in
      let z : w - suc c - 0 - 0 ≡ w - suc c = omega arith in
      rw (digits_are, l, z, append-nil) refl

  pub short_number : suc c ≤ w → zeros_and_digits w n ≡ last_digits w n []
  short_number h =
      let e : (w - suc c) + suc c ≡ w = omega arith in
      padded_are ∙ (sym (filled_up (suc c) (w - suc c) n [] below) ∙ rw e refl)

  pub long_number : w ≤ suc c → zeros_and_digits w n ≡ last_digits (suc c) n []
  long_number h = let e : w - suc c ≡ 0 = omega arith in padded_are ∙ rw e refl

-- A number of at most w digits is written with w.
filled : (m n : ℕ) → m < 64 → n < 16 ^ suc m → zeros_and_digits (suc m) n ≡ last_digits (suc m) n []
filled m n few h =
    let d = sized m n h in
    let le = d.few in
    short_number (suc m) d.count n d.first d.below (omega (arith, le)) (omega (arith, le))

-- The last four digits are those of a halfword.
last_four : (k n : ℕ) (acc : List ℕ) → last_digits (suc (suc (suc (suc k)))) n acc ≡ last_digits k (n / 65536) (halfword_text (n % 65536) ++ acc)
last_four k n acc =
    let rest : n / 16 / 16 / 16 / 16 ≡ n / 65536 = omega arith in
    let a : n / 16 / 16 / 16 % 16 ≡ n % 65536 / 4096 % 16 = omega arith in
    let b : n / 16 / 16 % 16 ≡ n % 65536 / 256 % 16 = omega arith in
    let c : n / 16 % 16 ≡ n % 65536 / 16 % 16 = omega arith in
    let d : n % 16 ≡ n % 65536 / 1 % 16 = omega arith in
    rw (rest, a, b, c, d) refl

pub halfword_digits : (n : ℕ) → n < 65536 → zeros_and_digits 4 n ≡ halfword_text n
halfword_digits n h =
    let e : n % 65536 ≡ n = omega arith in
    filled 3 n (omega arith) (omega arith) ∙ (last_four 0 n [] ∙ rw (append-nil, e) refl)

-- A number of more than five digits is written with as many as it has.
exact : (c n : ℕ) → 4 ≤ c → c < 8 → 16 ^ c ≤ n → n < 16 ^ suc c → zeros_and_digits 5 n ≡ last_digits (suc c) n []
exact c n low high first below = long_number 5 c n (inr first) below (omega arith) (omega arith)

pub address_digits : (n : ℕ) → n < 4294967296 → zeros_and_digits 5 n ≡ address_text n
address_digits n h = ⊎_elim five (λ l. ⊎_elim (six l) (λ m. ⊎_elim (seven m) eight (cases_lt n 268435456)) (cases_lt n 16777216)) (cases_lt n 1048576)
  where
    five : n < 1048576 → zeros_and_digits 5 n ≡ address_text n
    five l = filled 4 n (omega arith) (omega arith) ∙ (last_four 1 n [] ∙ rw (append-nil, lt-ltb n 1048576 l) refl)

    six : 1048576 ≤ n → n < 16777216 → zeros_and_digits 5 n ≡ address_text n
    six g l =
        let e : n / 65536 / 16 ≡ n / 1048576 = omega arith in
        exact 5 n (omega arith) (omega arith) (omega arith) (omega arith)
        ∙ (last_four 2 n [] ∙ rw (append-nil, le-ltb n 1048576 g, lt-ltb n 16777216 l, e) refl)

    seven : 16777216 ≤ n → n < 268435456 → zeros_and_digits 5 n ≡ address_text n
    seven g l =
        let e : n / 65536 / 16 / 16 ≡ n / 16777216 = omega arith in
        let f : n / 65536 / 16 ≡ n / 1048576 = omega arith in
        exact 6 n (omega arith) (omega arith) (omega arith) (omega arith)
        ∙ (last_four 3 n [] ∙ rw (append-nil, le-ltb n 1048576 (omega arith), le-ltb n 16777216 g, lt-ltb n 268435456 l, e, f) refl)

    eight : 268435456 ≤ n → zeros_and_digits 5 n ≡ address_text n
    eight g =
        let e : n / 65536 % 65536 ≡ n / 65536 = omega arith in
        exact 7 n (omega arith) (omega arith) (omega arith) (omega arith)
        ∙ (last_four 4 n []
        ∙ (last_four 0 (n / 65536) (halfword_text (n % 65536) ++ [])
        ∙ rw (append-nil, le-ltb n 1048576 (omega arith), le-ltb n 16777216 (omega arith), le-ltb n 268435456 g, e) refl))
