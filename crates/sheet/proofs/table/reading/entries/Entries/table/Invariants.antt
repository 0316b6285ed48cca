use Rattle.std.proofs.Common.{◌≡◌, Ok}
use Rattle.sheet.specs.Sheets.{entries_to}
use Rattle.sheet.proofs.table.reading.entries.Entries.table.Given as goal

abbrev pub invariant-loop-i : goal.invariant-loop-i
invariant-loop-i l = entries_to l.self.keys.now l.self.numbers.now l.i ≡ Ok l.table.entries
