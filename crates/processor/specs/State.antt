-- What a processor holds: a fresh one, and one whose table is replaced.
use Rattle.std.specs.Prelude.{false, List, replicate}
use Rattle.processor.specs.declared.state.Pending.{Pending}
use Rattle.processor.specs.declared.state.Register.{Register}
use Rattle.processor.specs.declared.state.State.{State}
use Rattle.processor.specs.Sectors.{blank_register}
use Rattle.sheet.specs.Tables.{Entries, empty_entries}
use Rattle.word.specs.declared.psw.Psw.{Psw}

abbrev pub zero_psw : Psw
zero_psw = record { counter = 0; status = 0; control = 0; code = 0 }

abbrev pub blank_registers : List Register
blank_registers = replicate 8 blank_register

abbrev pub no_levels : Pending
no_levels = record { levels = replicate 5 false }

-- A fresh processor: all zero, with an empty table.
unfoldable pub fresh_state : State
fresh_state =
    record { psw = zero_psw; low = blank_registers; high = blank_registers; pending = no_levels; table = empty_entries }

-- The processor with another table: all else is kept.
abbrev pub with_table : State → Entries → State
with_table s t = record { psw = s.psw; low = s.low; high = s.high; pending = s.pending; table = t }
