-- The register host: 32 fullwords.
use Rattle.std.specs.Prelude.{ℕ, ◌%◌, true, List, slice_index, slice_set}
use Rattle.host.specs.Devices.{Input, Machine, Output, Transfer, behaves, device_meaning}
use Rattle.host.specs.Meaning.{Meaning}
use Rattle.host.specs.declared.device.DeviceHost.{DeviceHost}
use Rattle.host.specs.declared.registers.Registers.{Registers}

-- The register that a command's low five bits number.
abbrev pub register_of : ℕ → ℕ
register_of c = c % 32

-- A word moved out leaves the registers; a word moved in takes the place of the command's register.
abbrev pub registers_after : List ℕ → Transfer → List ℕ
registers_after ws (Input c) = ws
registers_after ws (Output c w) = slice_set ws (register_of c) w

-- Every command is taken, and uses its register.
abbrev pub registers : Machine (List ℕ)
registers =
    record { offer = λ ws. record { takes = λ c. true; word = λ c. slice_index ws (register_of c) }; next = registers_after }

-- What a register host means.
abbrev pub register_meaning : DeviceHost Registers → Meaning
register_meaning h = device_meaning (λ d. behaves registers d.words) h
