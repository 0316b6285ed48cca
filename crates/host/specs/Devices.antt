-- What a device does, and what a host over a device means.
use Rattle.std.specs.Prelude.{ℕ, cond, ◌&&◌, List, [], ◌∷◌, Some, None, Option}
use Rattle.host.specs.Meaning.{HostCall, Command, Take, Give, Clear, Offer, Meaning, is_idle, command_is_input}
use Rattle.host.specs.declared.device.DeviceHost.{DeviceHost}

-- One word moved for a command: out of the device, or into it.
pub data Transfer : Type 0 where
  Input : ℕ → Transfer
  Output : ℕ → ℕ → Transfer

-- What a device offers now and after each list of further transfers.
abbrev pub Behaviour : Type 0
Behaviour = List Transfer → Offer

-- The behaviour after a transfer.
abbrev pub after : Behaviour → Transfer → Behaviour
after b t = λ l. b (t ∷ l)

-- A device whose states are S: what each offers, and the state after a transfer.
pub record Machine (S : Type 0) : Type 0 where
  pub offer : S → Offer
  pub next : S → Transfer → S

-- The behaviour of such a device from a state on.
abbrev pub behaves : {S : Type 0} → Machine S → S → Behaviour
behaves M s [] = M.offer s
behaves M s (t ∷ l) = behaves M (M.next s t) l

-- A host over a device: the open command, the latest word given with its command, and the device's behaviour.
pub record Attached : Type 0 where
  pub current : Option ℕ
  pub latest : Option (ℕ × ℕ)
  pub behaviour : Behaviour

-- Take moves a word out of the device for an open input command, and none else.
abbrev pub input_for : Option ℕ → Behaviour → Behaviour
input_for None b = b
input_for (Some c) b = cond (command_is_input c) (after b (Input c)) b

-- Give moves a word into the device for an open output command, and none else.
abbrev pub output_for : Option ℕ → ℕ → Behaviour → Behaviour
output_for None w b = b
output_for (Some c) w b = cond (command_is_input c) b (after b (Output c w))

-- The latest word once w is given.
abbrev pub latest_for : Option ℕ → ℕ → Option (ℕ × ℕ) → Option (ℕ × ℕ)
latest_for None w old = old
latest_for (Some c) w old = cond (command_is_input c) old (Some (c, w))

-- A host over a device after a call.
abbrev pub next : Attached → HostCall → Attached
next a (Command c) = cond (is_idle a.current && (a.behaviour []).takes c) (record a { current = Some c }) a
next a Take = record a { current = None; behaviour = input_for a.current a.behaviour }
next a (Give w) =
    record { current = None; latest = latest_for a.current w a.latest; behaviour = output_for a.current w a.behaviour }
next a Clear = record a { current = None }

-- And after a list of calls.
abbrev pub follow : Attached → List HostCall → Attached
follow a [] = a
follow a (x ∷ l) = follow (next a x) l

-- What it means: its offer is the device's.
abbrev pub host_of : Attached → Meaning
host_of a = record { current = a.current; latest = a.latest; offers = λ l. (follow a l).behaviour [] }

-- What the struct means, with the behaviour of its device.
abbrev pub device_meaning : {D : Type 0} → (D → Behaviour) → DeviceHost D → Meaning
device_meaning behaviour h =
    host_of (record { current = h.current; latest = h.latest; behaviour = behaviour h.device })
