-- The answer of reading a sheet, in the terms of the definitions.
use Rattle.std.specs.Prelude.{ℕ, List, Ok, Err, Result}
use Rattle.sheet.specs.declared.refusal.SheetFault.{SheetFault}
use Rattle.sheet.specs.declared.table.Table.{Table}
use Rattle.sheet.specs.declared.table.reading.entries.Entries.{Entries}
use Rattle.sheet.specs.Refusals.{Refused, sheet_of}
use Rattle.sheet.specs.Tables.{Entries as Table_entries}

abbrev pub tabled : Result Table SheetFault → Result Table_entries Refused
tabled (Ok t) = Ok t.entries
tabled (Err e) = Err (sheet_of e)

-- The entries of a sheet as its two lists, or its refusal.
abbrev pub told_entries : Result Entries SheetFault → Result (List ℕ × List ℕ) Refused
told_entries (Ok e) = Ok (e.keys.now, e.numbers.now)
told_entries (Err e) = Err (sheet_of e)
