use Rattle.sheet.proofs.Admitting.{admitted_set}
use Rattle.sheet.proofs.table.Table.put.Goals as goal

pub invariant_of-self : goal.invariant_of-self
invariant_of-self c =
    record { admitted = rw c.from.ensures (admitted_set c.args.self.now.entries c.args.key c.args.operation c.args.self.now.admitted c.requires.fits) }
