-- Storages whose places are all zero, unprotected and sound.
use Rattle.std.proofs.Common.{◌≡◌, ℕ, ◌+◌, ◌/◌, ◌^◌, ◌≤◌, false, eqb, ◌%◌, List, length, replicate, refl, sym, ap, ◌∙◌, arith}
use native.Mathlib.Nat.{zero-div}
use lib.Count.{ones, ones_in}
use lib.LanesLaws.{map-replicate}
use Rattle.std.proofs.lemmas.Grind.{common_steps}
use Rattle.std.proofs.lemmas.List.{length-replicate, take_all}
use Rattle.word.specs.Bits.{bit_of, from_right}
use Rattle.storage.specs.Cells.{cell_of, cells}
use Rattle.storage.specs.Meaning.{blank, places_of}
use Rattle.storage.specs.Packed.{packed, packed_size}
use Rattle.storage.proofs.PackedFacts.{same_places}

-- The cell of a place that is zero has its parity bit one.
blank-cell : cell_of 65536 ≡ blank
unfolding ones ones_in
blank-cell = refl

pub cells_zeroed : (n : ℕ) (cs : List ℕ) → n ≤ 524288 → cs ≡ replicate n 65536 → cells cs ≡ replicate n blank
unfolding places_of
cells_zeroed n cs h e =
    let l = length-replicate {A = ℕ} n 65536 in
    let t = take_all {A = ℕ} 524288 (replicate n 65536) (omega arith) in
    rw (e, t, map-replicate cell_of n 65536, blank-cell)

no_bit : (s : ℕ) → bit_of 0 s ≡ false
no_bit s = ap (λ (x : ℕ). eqb (x % 2) 1) (zero-div (2 ^ s))

pub packed_zeroed : (n : ℕ) (vs ps : List ℕ) → n ≤ 524288 → vs ≡ replicate n 0 → ps ≡ replicate ((n + 15) / 16) 0 → packed vs ps ≡ replicate n blank
packed_zeroed n vs ps h v p =
    let l : length vs ≡ n = ap length v ∙ length-replicate n 0 in
    let m : length ps ≡ (n + 15) / 16 = ap length p ∙ length-replicate ((n + 15) / 16) 0 in
    let s : packed_size vs ps ≡ n = omega arith in
    same_places (replicate n blank) vs ps (length-replicate n blank ∙ sym s)
    (λ k b. grind (arith, common_steps, no_bit (from_right k)))
