-- Cell storage: a cell's low 16 bits are the value, then come the parity bit, the protect bit, and 14 bits that are kept.
use Rattle.std.specs.Prelude.{ℕ, ◌+◌, ◌-◌, ◌*◌, ◌/◌, ◌%◌, Bool, List, ◌==◌, count_ones, vec_items}
use Rattle.word.specs.Bits.{num}
use Rattle.storage.specs.Meaning.{Place, changed, places_of}
use Rattle.storage.specs.declared.cells.CellStorage.{CellStorage}

-- A cell is sound when value and parity bit together hold an odd count of ones.
abbrev pub cell_of : ℕ → Place
cell_of c =
    record { value = c % 65536; protected = (c / 131072 % 2 == 1); sound = (count_ones (c % 131072) % 2 == 1) }

-- The parity bit that makes the count of ones odd.
abbrev pub parity_of : ℕ → ℕ
parity_of v = 1 - count_ones v % 2

-- The cell after a write: the protect bit and the 14 bits above are kept.
abbrev pub cell_written : ℕ → ℕ → ℕ
cell_written c v = c / 131072 * 131072 + parity_of v * 65536 + v

-- The cell after a guard: all but the protect bit is kept.
abbrev pub cell_guarded : ℕ → Bool → ℕ
cell_guarded c b = (c / 262144 * 2 + num b) * 131072 + c % 131072

-- What a list of cells means: at most 524,288 places.
abbrev pub cells : List ℕ → List Place
cells cs = places_of cell_of cs

abbrev pub cell_places : CellStorage → List Place
cell_places s = cells (vec_items s.cells)

-- The list of cells after a write and after a guard: every other cell is kept, those at or above the size too.
abbrev pub cells_written : List ℕ → ℕ → ℕ → List ℕ
cells_written cs i v = changed (λ c. cell_written c v) cs i

abbrev pub cells_guarded : List ℕ → ℕ → Bool → List ℕ
cells_guarded cs i b = changed (λ c. cell_guarded c b) cs i
