-- What sector registers may hold.
use Rattle.std.specs.Prelude.{List, ℕ, ◌<◌, get_or}
use Rattle.processor.specs.declared.state.Register.{Register}

abbrev pub blank_register : Register
blank_register = record { word = 0; sector = 0 }

-- The sector register of every register has four bits.
abbrev pub Narrow : List Register → Type 0
Narrow rs = (k : ℕ) → (get_or rs k blank_register).sector < 16
