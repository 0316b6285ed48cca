-- What cell storage means: the facts of a list whose elements each stand for a place, at cells.
use Rattle.std.proofs.Common.{◌≡◌, ℕ, ◌<◌, ◌≤◌, min, true, cond, List, length, get_or, set, Some, None, arith}
use Rattle.storage.specs.Meaning.{at, within}
use Rattle.storage.specs.Cells.{cell_of, cells}
use Rattle.storage.proofs.PlaceFacts.{at_places, element_found, length-places_of, places_found, places_inside, places_put}

module _ (cs : List ℕ) where
  pub length-cells : length (cells cs) ≡ min (length cs) 524288
  length-cells = length-places_of cell_of cs

  pub cells_few : length (cells cs) ≤ 524288
  cells_few = let l = length-cells in omega arith

  pub at_cells : (i : ℕ) → i < min (length cs) 524288 → at (cells cs) i ≡ cell_of (get_or cs i 0)
  at_cells i h = let l = length-cells in at_places cell_of cs i 0 (omega arith)

  pub cells_put : (i c : ℕ) → within (cells cs) i ≡ true → cells (set cs i c) ≡ set (cells cs) i (cell_of c)
  cells_put i c h = places_put cell_of cs i c h

  -- A cell c that was found at a place below the size.
  module _ (i c : ℕ) (h : i < length (cells cs)) (found : c ≡ get_or cs i c) where
    pub cells_inside : i < length cs
    cells_inside = places_inside cell_of cs i c h found

    pub cells_found : Some (cell_of c) ≡ cond (within (cells cs) i) (Some (at (cells cs) i)) None
    cells_found = places_found cell_of cs i c h found

    pub cells_in : Some c ≡ cond (within (cells cs) i) (Some (get_or cs i 0)) None
    cells_in = element_found cell_of cs i c h found 0
