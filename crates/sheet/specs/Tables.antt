-- What a table of 1,280 keys may hold.
use Rattle.std.specs.Prelude.{◌≡◌, ℕ, ◌/◌, Bool, true, List, replicate, Some, None, Option, slice_index_or}
use Rattle.sheet.specs.declared.operation.Operation.{Operation}
use Rattle.sheet.specs.Operations.{admits}

-- The operation at each key, or none.
abbrev pub Entries : Type 0
Entries = List (Option Operation)

abbrev pub empty_entries : Entries
empty_entries = replicate 1280 None

-- What stands at a key may stand in a class: it is no operation, or one that the class admits.
abbrev pub fits_in : Option Operation → ℕ → Bool
fits_in None c = true
fits_in (Some o) c = admits o c

-- Every operation may stand in the class of its key.
abbrev pub Admitted : Entries → Type 0
Admitted t = (k : ℕ) → fits_in (slice_index_or t k None) (k / 256) ≡ true
