-- Packed storage: a list of halfwords, and a list of protect bits, sixteen to a halfword from the left.
use Rattle.std.specs.Prelude.{ℕ, ◌*◌, ◌/◌, min, Bool, true, cond, List, map, length, slice_index, slice_set, vec_items}
use Rattle.std.specs.List.{range_with_len}
use Rattle.word.specs.Bits.{bit_of, number_with_bit, from_right}
use Rattle.storage.specs.Meaning.{Place, within}
use Rattle.storage.specs.declared.packed.PackedStorage.{PackedStorage}

-- The size: the least of the count of values, the count of protect bits, and 524,288.
abbrev pub packed_size : List ℕ → List ℕ → ℕ
packed_size vs ps = min (min (length vs) (16 * length ps)) 524288

-- Every place is sound.
abbrev pub packed_place : List ℕ → List ℕ → ℕ → Place
packed_place vs ps i =
    record { value = slice_index vs i; protected = bit_of (slice_index ps (i / 16)) (from_right i); sound = true }

-- What the two lists mean.
unfoldable pub packed : List ℕ → List ℕ → List Place
packed vs ps = map (packed_place vs ps) (range_with_len 0 (packed_size vs ps))

abbrev pub packed_places : PackedStorage → List Place
packed_places s = packed (vec_items s.values) (vec_items s.protects)

-- The values after a write, and the protect bits after a guard: all else is kept, also what lies at or above the size.
abbrev pub values_written : List ℕ → List ℕ → ℕ → ℕ → List ℕ
values_written vs ps i v = cond (within (packed vs ps) i) (slice_set vs i v) vs

abbrev pub bits_guarded : List ℕ → List ℕ → ℕ → Bool → List ℕ
bits_guarded vs ps i b =
    cond (within (packed vs ps) i) (slice_set ps (i / 16) (number_with_bit (slice_index ps (i / 16)) (from_right i) b)) ps
