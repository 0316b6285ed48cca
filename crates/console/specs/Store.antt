-- What the storage of a session means.
use Rattle.std.specs.Prelude.{ℕ, ◌+◌, Bool, false, cond, List, [], ◌++◌, length, take, drop, Some, None, vec_items, Option, nat_le}
use Rattle.console.specs.declared.store.Store.{Store}
use Rattle.console.specs.declared.store.Store.TheVariants.{Cells, Packed}
use Rattle.storage.specs.Cells.{cells}
use Rattle.storage.specs.Meaning.{Place}
use Rattle.storage.specs.Packed.{packed}

abbrev pub meaning_of : Store → List Place
meaning_of (Cells s) = cells (vec_items s.cells)
meaning_of (Packed s) = packed (vec_items s.values) (vec_items s.protects)

-- Its raw cells; a packed storage has none.
abbrev pub cells_of : Store → List ℕ
cells_of (Cells s) = vec_items s.cells
cells_of (Packed s) = []

-- So many cells from an address on lie in a cell storage.
abbrev pub has_cells : Store → ℕ → ℕ → Bool
has_cells (Cells s) a n = nat_le (a + n) (length (cells (vec_items s.cells)))
has_cells (Packed s) a n = false

-- A list with another put over it from a place on.
abbrev pub overlaid : List ℕ → ℕ → List ℕ → List ℕ
overlaid cs from raw = take from cs ++ (raw ++ drop (from + length raw) cs)

-- The storage with raw cells put from an address on, by its cells, or none where it has not so many.
abbrev pub cells_with : Store → ℕ → List ℕ → Option (List ℕ)
cells_with s a raw = cond (has_cells s a (length raw)) (Some (overlaid (cells_of s) a raw)) None

abbrev pub told_cells : Option Store → Option (List ℕ)
told_cells (Some s) = Some (cells_of s)
told_cells None = None
