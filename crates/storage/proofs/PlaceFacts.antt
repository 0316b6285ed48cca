-- A list whose elements each stand for a place, read and changed.
use Rattle.std.proofs.Common.{◌≡◌, ℕ, ◌<◌, ◌≤◌, min, Bool, true, cond, List, map, length, get_or, take, set, Some, None, Option, slice_get, sym, ap, ◌∙◌, arith}
use lib.Seq.{take-set-lt}
use Rattle.std.proofs.lemmas.List.{get_or_read, length-map, length-take, get_or-map, get_or-take, map-set}
use Rattle.std.proofs.lemmas.Bool.{cond_below, ltb-true}
use Rattle.std.proofs.lemmas.Bool.Decides.{nat_tests}
use Rattle.std.proofs.lemmas.Option.{slice_get-get_or, slice_get_past}
use Rattle.storage.specs.Meaning.{Place, at, blank, changed, guarded, place_with_protect, place_with_value, places_of, protected_of, read_of, within, written}

module _ {X : Type 0} (place : X → Place) (xs : List X) where
  pub length-places_of : length (places_of place xs) ≡ min (length xs) 524288
  unfolding places_of
  length-places_of = simp (length-map, length-take) (omega arith)

  pub at_places : (i : ℕ) (d : X) → i < length (places_of place xs) → at (places_of place xs) i ≡ place (get_or xs i d)
  unfolding places_of
  at_places i d h =
      let h' : i < length (take 524288 xs) = simp length-map at h in
      let l = length-take 524288 xs in
      get_or-map place (take 524288 xs) i d blank h' ∙ ap place (get_or-take 524288 xs i d (omega arith))

  places_set : (i : ℕ) (x : X) → i < length (places_of place xs) → places_of place (set xs i x) ≡ set (places_of place xs) i (place x)
  unfolding places_of
  places_set i x h =
      let l = length-places_of in
      ap (map place) (take-set-lt 524288 xs i x (omega arith)) ∙ map-set place (take 524288 xs) i x

  pub places_put : (i : ℕ) (x : X) → within (places_of place xs) i ≡ true → places_of place (set xs i x) ≡ set (places_of place xs) i (place x)
  places_put i x h = places_set i x (ltb-true i (length (places_of place xs)) h)

  -- An element x that was found at an index below the size.
  module _ (i : ℕ) (x : X) (h : i < length (places_of place xs)) (found : x ≡ get_or xs i x) where
    pub places_inside : i < length xs
    places_inside = let l = length-places_of in omega arith

    pub places_found : Some (place x) ≡ cond (within (places_of place xs) i) (Some (at (places_of place xs) i)) None
    places_found =
        ap (λ (p : Place). Some p) (sym (at_places i x h ∙ ap place (sym found)))
        ∙ cond_below i (length (places_of place xs)) _ None h

    pub element_found : (d : X) → Some x ≡ cond (within (places_of place xs) i) (Some (get_or xs i d)) None
    element_found d =
        ap (λ (y : X). Some y) (get_or_read xs i x places_inside found d) ∙ cond_below i (length (places_of place xs)) _ None h

  -- What the code does at an index i, which it got by the test whether place p lies below the size.
  module _ (p : ℕ) (r : Option ℕ) (e : r ≡ cond (within (places_of place xs) p) (Some p) None) where
    module _ (i : ℕ) (s : r ≡ Some i) where
      same : i ≡ p
      same = grind (arith, nat_tests)

      below : i < length (places_of place xs)
      below = grind (arith, nat_tests)

      pub found_read : (x : X) → x ≡ get_or xs i x → Some ((place x).value, (place x).sound) ≡ read_of (places_of place xs) p
      found_read x f = grind (arith, nat_tests, same, at_places i x below)

      pub found_protected : (x : X) → x ≡ get_or xs i x → Some (place x).protected ≡ protected_of (places_of place xs) p
      found_protected x f = grind (arith, nat_tests, same, at_places i x below)

      pub found_written : (d y : X) (v : ℕ) → place y ≡ place_with_value (place (get_or xs i d)) v → places_of place (set xs i y) ≡ written (places_of place xs) p v
      found_written d y v f = grind (arith, nat_tests, same, at_places i d below, places_set i y below)

      pub found_guarded : (d y : X) (b : Bool) → place y ≡ place_with_protect (place (get_or xs i d)) b → places_of place (set xs i y) ≡ guarded (places_of place xs) p b
      found_guarded d y b f = grind (arith, nat_tests, same, at_places i d below, places_set i y below)

      pub found_changed : (f : X → X) (d y : X) → y ≡ f (get_or xs i d) → set xs i y ≡ changed f xs p
      unfolding changed
      found_changed f d y h =
          let b = below in
          let l = length-places_of in
          let k = length-take 524288 xs in
          let g = slice_get-get_or (take 524288 xs) i d (omega arith) in
          let t = get_or-take 524288 xs i d (omega arith) in
          let at_i : slice_get (take 524288 xs) i ≡ Some (get_or xs i d) = g ∙ ap (λ (x : X). Some x) t in
          ap (set xs i) h
          ∙ (sym (ap (λ (o : Option X). elim o [ Some x ↦ set xs i (f x) | None ↦ xs ]) at_i) ∙ ap (changed f xs) same)

    pub none_changed : (f : X → X) → r ≡ None → xs ≡ changed f xs p
    unfolding changed
    none_changed f s =
        let b : length (places_of place xs) ≤ p = grind (arith, nat_tests) in
        let l = length-places_of in
        let k = length-take 524288 xs in
        let g = slice_get_past (take 524288 xs) p (omega arith) in
        sym (ap (λ (o : Option X). elim o [ Some x ↦ set xs p (f x) | None ↦ xs ]) g)

pub ruleset sizes = (length-places_of, nat_tests)

pub ruleset found = (found_read, found_protected, found_written, found_guarded, found_changed, none_changed)
