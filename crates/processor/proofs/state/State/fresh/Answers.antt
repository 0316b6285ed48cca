use mathlib.Core.Path.{◌≡◌, ◌∙◌, sym, subst}
use Rattle.sheet.specs.Tables.{Admitted, empty_entries}
use Rattle.processor.specs.declared.state.State.{State}
use Rattle.processor.specs.Sectors.{Narrow}
use Rattle.processor.specs.State.{fresh_state, no_levels, zero_psw}
use Rattle.processor.proofs.Fresh.{fresh_admitted, fresh_narrow}
use Rattle.processor.proofs.state.State.fresh.Goals as goal

pub returns : goal.returns
unfolding fresh_state
returns c =
    let t : c.entries-table.result ≡ empty_entries = c.entries-table.ensures ∙ c.empty.ensures in
    let made : State = record { psw = zero_psw; low = c.zero_registers.result; high = c.zero_registers-2.result; pending = no_levels; table = c.entries-table.result } in
    let e : made ≡ fresh_state =
    λ i. record { psw = zero_psw; low = c.zero_registers.ensures i; high = c.zero_registers-2.ensures i; pending = no_levels; table = t i }
    in
    record {
      fresh = e;
      admitted = subst (λ (s : State). Admitted s.table) (sym e) fresh_admitted;
      low = subst (λ (s : State). Narrow s.low) (sym e) fresh_narrow;
      high = subst (λ (s : State). Narrow s.high) (sym e) fresh_narrow;
    }
