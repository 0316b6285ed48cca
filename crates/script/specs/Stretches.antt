-- The addresses of a stretch.
use Rattle.std.specs.Prelude.{ℕ, ◌-◌, List, take}
use Rattle.std.specs.List.{range_with_len}
use Rattle.script.specs.declared.command.Stretch.{Stretch}

-- Those from its own up to address FFFFFFFF, as many as it counts.
unfoldable pub addresses_of : Stretch → List ℕ
addresses_of s = take s.count (range_with_len s.address (4294967296 - s.address))
