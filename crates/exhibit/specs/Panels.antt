-- A panel of switches and lamps at one address. It is its own state.
use Rattle.std.specs.Prelude.{◌%◌, ◌==◌}
use Rattle.exhibit.specs.declared.panel.Panel.{Panel}
use Rattle.host.specs.Devices.{Input, Machine, Output, Transfer}

-- A word moved in sets the lamps.
abbrev pub panel_after : Panel → Transfer → Panel
panel_after p (Input c) = p
panel_after p (Output c w) = record p { lamps = w }

-- It takes the commands whose low eight bits are its address, and offers its switches.
abbrev pub panel : Machine Panel
panel =
    record { offer = λ p. record { takes = λ c. (c % 256 == p.address); word = λ c. p.switches }; next = panel_after }
