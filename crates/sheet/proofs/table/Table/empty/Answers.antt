use Rattle.std.proofs.Common.{sym, subst}
use Rattle.sheet.specs.Tables.{Admitted}
use Rattle.sheet.proofs.Admitting.{admitted_empty}
use Rattle.sheet.proofs.table.Table.empty.Goals as goal

pub invariant_of-result : goal.invariant_of-result
invariant_of-result c = record { admitted = subst Admitted (sym c.no_operations-entries.ensures) admitted_empty }
