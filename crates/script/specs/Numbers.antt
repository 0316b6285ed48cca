-- Numbers as the script writes them.
use Rattle.std.specs.Prelude.{ℕ, Bool, true, cond, ◌&&◌, List, [], ◌∷◌, length, Some, None, Option, nat_lt}
use Rattle.std.specs.Str.Parse.{digits_value}
use Rattle.std.specs.Char.{digit_value}

-- Whether each byte is a digit, in either case.
abbrev pub digits_only : ℕ → List ℕ → Bool
digits_only radix [] = true
digits_only radix (c ∷ cs) = nat_lt (digit_value c) radix && digits_only radix cs

-- Whether the bytes write a number below the limit: one digit or more, and nothing else.
abbrev pub writes : ℕ → ℕ → List ℕ → Bool
writes radix limit bs = nat_lt 0 (length bs) && (digits_only radix bs && nat_lt (digits_value radix bs) limit)

-- The number below the limit that the bytes write, made of its value, or none.
unfoldable pub number_by : {N : Type 0} → (ℕ → N) → ℕ → ℕ → List ℕ → Option N
number_by from_value radix limit bs = cond (writes radix limit bs) (Some (from_value (digits_value radix bs))) None

-- The number below the limit that the bytes write, or none.
abbrev pub number_in : ℕ → ℕ → List ℕ → Option ℕ
number_in radix limit bs = number_by (λ n. n) radix limit bs

-- A number before others, where there is none missing.
abbrev pub before : {N : Type 0} → Option N → Option (List N) → Option (List N)
before None ns = None
before (Some n) None = None
before (Some n) (Some ns) = Some (n ∷ ns)

-- The numbers that words write, each by the same reading, or none.
abbrev pub numbers_by : {N : Type 0} → (List ℕ → Option N) → List (List ℕ) → Option (List N)
numbers_by reading [] = Some []
numbers_by reading (w ∷ ws) = before (reading w) (numbers_by reading ws)
