-- A storage over lent slots.
use Rattle.std.specs.Prelude.{ℕ, Bool, true, List}
use Rattle.exhibit.specs.declared.lent.Slot.{Slot}
use Rattle.storage.specs.Meaning.{Place, places_of}

-- The place that a slot stands for.
abbrev pub slot_place : Slot → Place
slot_place s = record { value = s.value; protected = s.protected; sound = s.sound }

-- The slot after a halfword was put, and after its protect bit was.
abbrev pub slot_with_value : Slot → ℕ → Slot
slot_with_value s v = record s { value = v; sound = true }

abbrev pub slot_with_protect : Slot → Bool → Slot
slot_with_protect s b = record s { protected = b }

-- What the slots mean.
abbrev pub lent_places : List Slot → List Place
lent_places slots = places_of slot_place slots
