-- What a list holds after a write, and a list of equal values.
use Rattle.std.proofs.Common.{◌≡◌, ℕ, zero, suc, ◌⊎◌, List, [], ◌∷◌, get_or, set, replicate, refl, ap, inl, inr, ⊎_elim}

-- The new value at its place, or what stood there.
pub get_or-set_either : {X : Type 0} (l : List X) (i : ℕ) (a : X) (j : ℕ) (d : X) → ((j ≡ i) × (get_or (set l i a) j d ≡ a)) ⊎ (get_or (set l i a) j d ≡ get_or l j d)
get_or-set_either [] i a j d = inr refl
get_or-set_either (x ∷ xs) zero a zero d = inl (refl, refl)
get_or-set_either (x ∷ xs) zero a (suc j) d = inr refl
get_or-set_either (x ∷ xs) (suc i) a zero d = inr refl
get_or-set_either (x ∷ xs) (suc i) a (suc j) d =
    ⊎_elim (λ p. inl (ap suc p.0, p.1)) inr (get_or-set_either xs i a j d)

pub get_or_same : {X : Type 0} (n : ℕ) (a : X) (j : ℕ) → get_or (replicate n a) j a ≡ a
get_or_same zero a j = refl
get_or_same (suc n) a zero = refl
get_or_same (suc n) a (suc j) = get_or_same n a j
