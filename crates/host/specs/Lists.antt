-- The list host: words that wait, and a list with room for words given.
use Rattle.std.specs.Prelude.{ℕ, Bool, cond, List, [], ◌∷◌, ◌++◌, length, drop, vec_items, vec_capacity, nat_lt, slice_index}
use Rattle.host.specs.Devices.{Input, Machine, Output, Transfer, behaves, device_meaning}
use Rattle.host.specs.Meaning.{Meaning, command_is_input}
use Rattle.host.specs.declared.device.DeviceHost.{DeviceHost}
use Rattle.host.specs.declared.lists.Lists.{Lists as ListDevice}

-- The words that wait, the words given so far, and how many the output list has room for.
pub record Lists : Type 0 where
  pub waiting : List ℕ
  pub written : List ℕ
  pub capacity : ℕ

-- The output list has a free place.
abbrev pub room_is_left : Lists → Bool
room_is_left s = nat_lt (length s.written) s.capacity

-- An input command is taken while a word waits, an output command while there is a free place.
abbrev pub lists_take : Lists → ℕ → Bool
lists_take s c = cond (command_is_input c) (nat_lt 0 (length s.waiting)) (room_is_left s)

-- A word moved out is the first that waits, and waits no longer; a word moved in is put behind those written before.
abbrev pub lists_after : Lists → Transfer → Lists
lists_after s (Input c) = record s { waiting = drop 1 s.waiting }
lists_after s (Output c w) = record s { written = cond (room_is_left s) (s.written ++ (w ∷ [])) s.written }

abbrev pub lists : Machine Lists
lists =
    record { offer = λ s. record { takes = lists_take s; word = λ c. slice_index s.waiting 0 }; next = lists_after }

-- The state of the device.
abbrev pub lists_of : ListDevice → Lists
lists_of d =
    record { waiting = drop d.taken (vec_items d.words); written = vec_items d.written; capacity = vec_capacity d.written }

-- What a list host means.
abbrev pub list_meaning : DeviceHost ListDevice → Meaning
list_meaning h = device_meaning (λ d. behaves lists (lists_of d)) h
