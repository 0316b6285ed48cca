-- What a cell holds after a value is put.
use Rattle.std.proofs.Common.{◌≡◌, ℕ, zero, suc, ◌+◌, ◌*◌, ◌/◌, ◌%◌, ◌^◌, ◌<◌, true, false, refl, arith}
use lib.Count.{ones, ones_in, ones_cat}
use Rattle.storage.specs.Meaning.{place_with_value}
use Rattle.storage.specs.Cells.{cell_of, cell_written, parity_of}

ones_bit : (o : ℕ) → o < 2 → ones o ≡ o
unfolding ones ones_in
ones_bit zero h = refl
ones_bit (suc zero) h = refl
ones_bit (suc (suc o)) h = absurd (omega arith)

pub parity_lt : (v : ℕ) → parity_of v < 2
parity_lt v = omega arith

odd : (v : ℕ) → v < 2 ^ 16 → ones (parity_of v * 65536 + v) % 2 ≡ 1
odd v h = let c = ones_cat 16 (parity_of v) v h in let o = ones_bit (parity_of v) (parity_lt v) in omega arith

pub value_place : (c v x : ℕ) → v < 2 ^ 16 → x ≡ cell_written c v → cell_of x ≡ place_with_value (cell_of c) v
value_place c v x h e =
    let b = parity_lt v in
    let e1 : x % 65536 ≡ v = omega arith in
    let e2 : x / 131072 ≡ c / 131072 = omega arith in
    let e3 : x % 131072 ≡ parity_of v * 65536 + v = omega arith in
    simp (e1, e2, e3, odd v h)

-- One 1 is an odd count of ones, and two are not.
pub mark_of_1 : (cell_of 1).sound ≡ true
unfolding ones ones_in
mark_of_1 = refl

pub mark_of_3 : (cell_of 3).sound ≡ false
unfolding ones ones_in
mark_of_3 = refl
