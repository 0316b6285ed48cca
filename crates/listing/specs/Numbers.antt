-- The digits of numbers, as they are printed.
use Rattle.std.specs.Prelude.{ℕ, ◌/◌, ◌%◌, true, cond, List, [], ◌∷◌, ◌++◌, nat_lt}
use Rattle.std.specs.Fmt.{digit_glyph}

-- The hexadecimal digit of n at a weight, in upper case.
abbrev pub digit_at : ℕ → ℕ → ℕ
digit_at weight n = digit_glyph true (n / weight % 16)

-- The four digits of a halfword.
abbrev pub halfword_text : ℕ → List ℕ
halfword_text n = digit_at 4096 n ∷ digit_at 256 n ∷ digit_at 16 n ∷ digit_at 1 n ∷ []

-- The eight digits of a fullword.
abbrev pub fullword_text : ℕ → List ℕ
fullword_text n = halfword_text (n / 65536) ++ halfword_text (n % 65536)

-- The digits of an address: five, or as many more as it needs.
abbrev pub address_text : ℕ → List ℕ
address_text n =
    cond (nat_lt n 1048576) (digit_at 65536 n ∷ halfword_text (n % 65536))
    (cond (nat_lt n 16777216) (digit_at 1048576 n ∷ digit_at 65536 n ∷ halfword_text (n % 65536))
    (cond (nat_lt n 268435456) (digit_at 16777216 n ∷ digit_at 1048576 n ∷ digit_at 65536 n ∷ halfword_text (n % 65536))
    (fullword_text n)))
