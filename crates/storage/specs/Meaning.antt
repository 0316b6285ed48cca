-- What a storage means: one place after another, each a halfword, a protect bit and a mark, sound or unsound.
use Rattle.std.specs.Prelude.{◌≡◌, ℕ, Bool, true, false, cond, List, map, length, take, Some, None, Option, nat_lt, slice_get, slice_index_or, slice_set}

pub record Place : Type 0 where
  pub value : ℕ
  pub protected : Bool
  pub sound : Bool

abbrev pub blank : Place
blank = record { value = 0; protected = false; sound = true }

abbrev pub at : List Place → ℕ → Place
at m i = slice_index_or m i blank

-- Place i lies below the size.
abbrev pub within : List Place → ℕ → Bool
within m i = nat_lt i (length m)

-- Read: the halfword and the mark, or none at or above the size.
abbrev pub read_of : List Place → ℕ → Option (ℕ × Bool)
read_of m i = cond (within m i) (Some ((at m i).value, (at m i).sound)) None

-- Protected: the protect bit, or none at or above the size.
abbrev pub protected_of : List Place → ℕ → Option Bool
protected_of m i = cond (within m i) (Some (at m i).protected) None

-- A halfword put into a place makes it sound and keeps its protect bit.
abbrev pub place_with_value : Place → ℕ → Place
place_with_value p v = record { value = v; protected = p.protected; sound = true }

-- A protect bit set at a place keeps the halfword and the mark.
abbrev pub place_with_protect : Place → Bool → Place
place_with_protect p b = record { value = p.value; protected = b; sound = p.sound }

-- Write: one place changes; at or above the size none does.
abbrev pub written : List Place → ℕ → ℕ → List Place
written m i v = cond (within m i) (slice_set m i (place_with_value (at m i) v)) m

-- Guard: one place changes; at or above the size none does.
abbrev pub guarded : List Place → ℕ → Bool → List Place
guarded m i b = cond (within m i) (slice_set m i (place_with_protect (at m i) b)) m

-- What a write, and what a guard, makes of a storage that means m: it answers r, and the storage means n afterwards.
pub record Writes (m : List Place) (i v : ℕ) (r : Bool) (n : List Place) : Type 0 where
  pub answer : r ≡ within m i
  pub after : n ≡ written m i v

pub record Guards (m : List Place) (i : ℕ) (b r : Bool) (n : List Place) : Type 0 where
  pub answer : r ≡ within m i
  pub after : n ≡ guarded m i b

-- What a list means whose elements each stand for a place: at most 524,288 places.
unfoldable pub places_of : {X : Type 0} → (X → Place) → List X → List Place
places_of place xs = map place (take 524288 xs)

-- The list after the element of place i was changed: every other element is kept, those at or above the size too.
unfoldable pub changed : {X : Type 0} → (X → X) → List X → ℕ → List X
changed change xs i = elim (slice_get (take 524288 xs) i) [ Some x ↦ slice_set xs i (change x) | None ↦ xs ]
