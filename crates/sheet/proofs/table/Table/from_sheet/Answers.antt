use Rattle.std.proofs.Common.{◌≡◌, sym, subst, rules}
use Rattle.sheet.specs.Sheets.{Fills, table_of}
use Rattle.sheet.specs.Tabled.{tabled}
use Rattle.sheet.proofs.Filling.{fills, halves_fill}
use Rattle.sheet.proofs.table.Table.from_sheet.Goals as goal

pub returns-in_err-entries : goal.returns-in_err-entries
unfolding table_of
returns-in_err-entries c =
    let s = c.args.sheet.now in
    let e : tabled c.from_residual.result ≡ table_of s = search rules in
    record { answer = e; fills = subst (Fills s) (sym e) (fills s) }

pub returns : goal.returns
returns c =
    let s = c.args.sheet.now in
    let e : tabled c.table.result ≡ table_of s = halves_fill s _ _ _ c.in_ok-entries.ensures c.table.ensures in
    record { answer = e; fills = subst (Fills s) (sym e) (fills s) }
