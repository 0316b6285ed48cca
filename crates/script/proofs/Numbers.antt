-- What the library reads is the number that the script writes.
use Rattle.std.proofs.Common.{◌≡◌, ℕ, ◌<◌, ◌≤◌, true, eqb, ltb, List, [], ◌∷◌, length, get_or, Some, None, Option, sym, refl, ap, ◌∙◌, inl, inr, arith}
use Rattle.std.specs.Option.{SomeIff}
use Rattle.std.specs.Str.Parse.{IsNumeral, AllDigits, digits_value}
use Rattle.std.specs.Char.{digit_value}
use Rattle.std.proofs.lemmas.Bool.{eqb-true, lt-ltb, ltb-true, and_from, and_parts, cond-true, cond-false, cases_Bool}
use Rattle.script.specs.Numbers.{digits_only, writes, number_by}

-- A sign is no digit.
pub no_sign : (radix : ℕ) (bs : List ℕ) → radix ≤ 36 → IsNumeral radix bs → eqb (get_or bs 0 0) 43 ≡ true → ⊥
no_sign radix [] few n e = omega (arith, n.0)
no_sign radix (c ∷ cs) few n e =
    let is : c ≡ 43 = eqb-true c 43 e in
    let low : digit_value 43 < radix = rw is at n.1.0 in
    omega (arith, low)

-- The test of digits holds of digits.
pub digits_pass : (radix : ℕ) (bs : List ℕ) → AllDigits radix bs → digits_only radix bs ≡ true
digits_pass radix [] d = refl
digits_pass radix (c ∷ cs) d = and_from _ _ (lt-ltb (digit_value c) radix d.0) (digits_pass radix cs d.1)

-- What passes the test of digits is digits.
pub pass_digits : (radix : ℕ) (bs : List ℕ) → digits_only radix bs ≡ true → AllDigits radix bs
pass_digits radix [] e = tt
pass_digits radix (c ∷ cs) e =
    let parts = and_parts (ltb (digit_value c) radix) (digits_only radix cs) e in
    (ltb-true (digit_value c) radix parts.0, pass_digits radix cs parts.1)

-- The test of a number holds of a number below the limit.
pub number_passes : (radix limit : ℕ) (bs : List ℕ) → IsNumeral radix bs × (digits_value radix bs < limit) → writes radix limit bs ≡ true
number_passes radix limit bs h =
    and_from _ _ (lt-ltb 0 (length bs) h.0.0) (and_from _ _ (digits_pass radix bs h.0.1) (lt-ltb (digits_value radix bs) limit h.1))

-- What passes the test of a number is a number below the limit.
pub passes_number : (radix limit : ℕ) (bs : List ℕ) → writes radix limit bs ≡ true → IsNumeral radix bs × (digits_value radix bs < limit)
passes_number radix limit bs e =
    let parts = and_parts _ _ e in
    let rest = and_parts _ _ parts.1 in
    ((ltb-true 0 (length bs) parts.0, pass_digits radix bs rest.0), ltb-true (digits_value radix bs) limit rest.1)

module _ {N : Type 0} (from_value : ℕ → N) (radix limit : ℕ) (bs : List ℕ) where
  -- What is read of a number below the limit, and of nothing else, is the number that the bytes write.
  pub read_is : (r : Option N) → SomeIff r (IsNumeral radix bs × (digits_value radix bs < limit)) (from_value (digits_value radix bs)) → r ≡ number_by from_value radix limit bs
  unfolding number_by
  read_is (Some n) h = ap (λ v. Some v) h.1 ∙ sym (cond-true (writes radix limit bs) _ _ (number_passes radix limit bs h.0))
  read_is None h =
      let way = cases_Bool (writes radix limit bs) in
      sym (cond-false (writes radix limit bs) _ _ (elim way [ inl e ↦ absurd (h (passes_number radix limit bs e)) | inr e ↦ e ]))

  -- After a plus sign the bytes write no number.
  pub plus_is_none : radix ≤ 36 → eqb (get_or bs 0 0) 43 ≡ true → None ≡ number_by from_value radix limit bs
  plus_is_none few e = read_is None (λ n. no_sign radix bs few n.0 e)
