-- Bits of a number, by quotient and remainder.
use Rattle.std.specs.Prelude.{ℕ, ◌+◌, ◌-◌, ◌*◌, ◌/◌, ◌%◌, ◌^◌, Bool, true, false, ◌==◌}

-- A bit as a number.
abbrev pub num : Bool → ℕ
num true = 1
num false = 0

-- How far from the right bit n of a halfword stands: bits are counted from 0 at the left, modulo 16.
abbrev pub from_right : ℕ → ℕ
from_right n = 15 - n % 16

-- The bit that stands s places from the right.
abbrev pub bit_of : ℕ → ℕ → Bool
bit_of w s = w / 2 ^ s % 2 == 1

-- The number with that bit put: what stands above and below it is kept.
abbrev pub number_with_bit : ℕ → ℕ → Bool → ℕ
number_with_bit w s b = (w / 2 ^ s / 2 * 2 + num b) * 2 ^ s + w % 2 ^ s
