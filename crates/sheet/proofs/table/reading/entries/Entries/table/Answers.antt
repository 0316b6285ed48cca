use Rattle.std.proofs.Common.{◌≡◌, length, Ok, sym, ap, ◌∙◌, slice_index, arith}
use Rattle.std.proofs.lemmas.Result.{err_from_is_err_and}
use Rattle.sheet.specs.Sheets.{putting}
use Rattle.sheet.specs.Tables.{Entries}
use Rattle.sheet.proofs.Loading.{taken, entries_more, refusal_stays}
use Rattle.sheet.proofs.table.reading.entries.Entries.table.Goals as goal

-- The first entry that is refused decides.
pub returns-in_err-operation : goal.returns-in_err-operation
returns-in_err-operation c =
    let p = err_from_is_err_and c.from_residual.result c.from_residual.ensures.1 in
    let bad = sym c.in_err-operation.ensures in
    rw (p.1, p.2)
    (sym (refusal_stays c.args.self.now.keys.now c.args.self.now.numbers.now (length c.args.self.now.keys.now) c.loop-i.i c.loop-i.table.entries _ c.loop-i-test.true c.loop-i.invariant bad))

-- An entry that is taken may be put.
pub put-requires : goal.put-requires
put-requires c =
    let q = taken c.args.self.now.keys.now c.args.self.now.numbers.now c.loop-i.i c.in_ok-operation.operation (sym c.in_ok-operation.ensures) in
    record { below = q.below; fits = q.fits }

pub loop-i-preserved : goal.loop-i-preserved
loop-i-preserved c =
    entries_more c.args.self.now.keys.now c.args.self.now.numbers.now c.loop-i.i c.loop-i.table.entries c.loop-i.invariant
    ∙ (ap (putting c.loop-i.table.entries (slice_index c.args.self.now.keys.now c.loop-i.i)) (sym c.in_ok-operation.ensures)
    ∙ ap (λ (t : Entries). Ok t) (sym c.put.ensures))

pub returns : goal.returns
returns c = let e : c.loop-i.i ≡ length c.args.self.now.keys.now = omega arith in let h = c.loop-i.invariant in cc
