-- What packed storage means, read and changed.
use Rattle.std.proofs.Common.{◌≡◌, ℕ, ◌/◌, ◌<◌, ◌≢◌, Bool, true, List, length, get_or, set, Some, None, Option, cond, sym, ap, ◌∙◌, ⊎_elim, zero-add, arith}
use Rattle.std.proofs.lemmas.Grind.{common_steps}
use Rattle.std.proofs.lemmas.List.FromFn.{length-map-range_with_len, get_or-map-range_with_len}
use Rattle.std.proofs.lemmas.List.{ext_get_or, get_or_read, length-set, get_or-set_same, get_or-set_other}
use Rattle.std.proofs.lemmas.Bool.{cases_eq}
use Rattle.std.proofs.lemmas.Bool.Decides.{nat_tests}
use Rattle.storage.specs.Meaning.{Place, at, within, read_of, protected_of, written, guarded, blank, place_with_value, place_with_protect}
use Rattle.word.specs.Bits.{bit_of, number_with_bit, from_right}
use Rattle.storage.specs.Packed.{packed, packed_size, packed_place}
use Rattle.word.proofs.Bitwork.{put_same, put_other}

module _ (vs ps : List ℕ) where
  pub length-packed : length (packed vs ps) ≡ packed_size vs ps
  unfolding packed
  length-packed = length-map-range_with_len (packed_place vs ps) 0 (packed_size vs ps)

  pub at_packed : (i : ℕ) → i < packed_size vs ps → at (packed vs ps) i ≡ packed_place vs ps i
  unfolding packed
  at_packed i h = get_or-map-range_with_len (packed_place vs ps) 0 (packed_size vs ps) i i blank h (zero-add i)

-- Two storages of one size with the same places.
pub same_places : (m : List Place) (vs ps : List ℕ) → length m ≡ packed_size vs ps → ((k : ℕ) → k < packed_size vs ps → at m k ≡ packed_place vs ps k) → packed vs ps ≡ m
same_places m vs ps h e =
    let l = length-packed vs ps in
    ext_get_or blank (packed vs ps) m (l ∙ sym h) (λ k b. let b' : k < packed_size vs ps = omega arith in at_packed vs ps k b' ∙ sym (e k b'))

module _ (vs ps : List ℕ) where
  packed-written : (i v : ℕ) → i < packed_size vs ps → packed (set vs i v) ps ≡ set (packed vs ps) i (place_with_value (at (packed vs ps) i) v)
  packed-written i v h =
      let l = length-packed vs ps in
      same_places (set (packed vs ps) i (place_with_value (at (packed vs ps) i) v)) (set vs i v) ps (simp length-set l)
      (λ k b. let a = at_packed vs ps k (simp length-set at b) in grind (arith, common_steps, at_packed vs ps i h))

  -- The protect bits after that of place i was put.
  abbrev bits : ℕ → Bool → List ℕ
  bits i b = set ps (i / 16) (number_with_bit (get_or ps (i / 16) 0) (from_right i) b)

  bit_kept : (i k : ℕ) (b : Bool) → k ≢ i → i / 16 < length ps → bit_of (get_or (bits i b) (k / 16) 0) (from_right k) ≡ bit_of (get_or ps (k / 16) 0) (from_right k)
  bit_kept i k b ne h =
      let w = get_or ps (i / 16) 0 in
      let x = number_with_bit w (from_right i) b in
      ⊎_elim
      (λ (q : k / 16 ≡ i / 16). rw (q, get_or-set_same ps (i / 16) x 0 h) (put_other w (from_right i) b (from_right k) (λ s. omega arith)))
      (λ (n : k / 16 ≢ i / 16). ap (λ (y : ℕ). bit_of y (from_right k)) (get_or-set_other ps (i / 16) (k / 16) x 0 n))
      (cases_eq (k / 16) (i / 16))

  packed-guarded : (i : ℕ) (b : Bool) → i < packed_size vs ps → packed vs (bits i b) ≡ set (packed vs ps) i (place_with_protect (at (packed vs ps) i) b)
  packed-guarded i b h =
      let w = get_or ps (i / 16) 0 in
      let l = length-packed vs ps in
      same_places (set (packed vs ps) i (place_with_protect (at (packed vs ps) i) b)) vs (bits i b) (simp length-set l)
      (λ k t. let a = at_packed vs ps k (simp length-set at t) in grind (arith, common_steps, at_packed vs ps i h, put_same w (from_right i) b, bit_kept i k b))

  -- What the code does at an index i, which it got by the test whether place p lies below the size.
  module _ (p : ℕ) (r : Option ℕ) (e : r ≡ cond (within (packed vs ps) p) (Some p) None) (i : ℕ) (s : r ≡ Some i) where
    same : i ≡ p
    same = grind (arith, nat_tests)

    below : i < packed_size vs ps
    below = grind (arith, nat_tests, length-packed vs ps)

    pub found_read : (v : ℕ) → v ≡ get_or vs i v → Some (v, true) ≡ read_of (packed vs ps) p
    found_read v f =
        let b = below in
        grind (arith, nat_tests, same, length-packed vs ps, at_packed vs ps i b, get_or_read vs i v (omega arith) f 0)

    pub found_protected : (w : ℕ) → w ≡ get_or ps (i / 16) w → Some (bit_of w (from_right p)) ≡ protected_of (packed vs ps) p
    found_protected w f =
        let b = below in
        grind (arith, nat_tests, same, length-packed vs ps, at_packed vs ps i b, get_or_read ps (i / 16) w (omega arith) f 0)

    pub found_written : (v : ℕ) → packed (set vs i v) ps ≡ written (packed vs ps) p v
    found_written v = grind (arith, nat_tests, same, length-packed vs ps, packed-written i v below)

    pub found_guarded : (w x : ℕ) (b : Bool) → w ≡ get_or ps (i / 16) w → x ≡ number_with_bit w (from_right p) b → packed vs (set ps (i / 16) x) ≡ guarded (packed vs ps) p b
    found_guarded w x b f h =
        let k = below in
        grind (arith, nat_tests, same, length-packed vs ps, packed-guarded i b k, get_or_read ps (i / 16) w (omega arith) f 0)

pub ruleset sizes = (length-packed, nat_tests)

pub ruleset found = (found_read, found_protected, found_written, found_guarded)
