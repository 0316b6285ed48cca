-- A fresh processor holds only admitted operations, and sector registers below 16.
use mathlib.Core.Path.{sym, subst}
use Prim.Native.Nat.{ℕ, ◌<◌}
use native.Mathlib.Omega.{arith}
use lib.ListN.{replicate}
use Rattle.sheet.proofs.Admitting.{admitted_empty}
use Rattle.sheet.proofs.Lists.{get_or_same}
use Rattle.sheet.specs.Tables.{Admitted}
use Rattle.processor.specs.Sectors.{Narrow, blank_register}
use Rattle.processor.specs.declared.state.Register.{Register}
use Rattle.processor.specs.State.{blank_registers, fresh_state}

pub fresh_admitted : Admitted fresh_state.table
unfolding fresh_state
fresh_admitted = admitted_empty

narrow_blank : (n : ℕ) → Narrow (replicate n blank_register)
narrow_blank n k = subst (λ (r : Register). r.sector < 16) (sym (get_or_same n blank_register k)) (omega arith)

pub fresh_narrow : Narrow blank_registers
fresh_narrow = narrow_blank 8
