use Rattle.std.proofs.Common.{◌≡◌, ℕ, length, vec_items, Vec, ap, arith}
use Rattle.std.specs.declared.alloc.Global.{Global}
use Rattle.storage.specs.Cells.{cells}
use Rattle.storage.proofs.CellFacts.{length-cells}
use Rattle.console.proofs.store.Store.with_cells.Goals as goal

pub overlay-requires : goal.overlay-requires
overlay-requires c =
    let l = length-cells (vec_items c.into_cells-cells.result) in
    let e : length (cells (vec_items c.into_cells-cells.result)) ≡ length (cells (vec_items c.in-Cells.storage.cells)) =
    ap (λ (v : Vec ℕ Global). length (cells (vec_items v))) c.into_cells-cells.ensures
    in
    let k = c.into_cells-cells.result.ok in
    omega arith
