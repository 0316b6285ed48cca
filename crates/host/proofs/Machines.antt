-- A host over a device, call by call: what becomes of the open command, the latest word and the state of the device's machine.
use Rattle.std.proofs.Common.{◌≡◌, ℕ, cond, ◌&&◌, List, [], ◌∷◌, Some, None, Option, refl, arith}
use Rattle.host.specs.Devices.{Input, Machine, Output, behaves, host_of, latest_for}
use Rattle.host.specs.Meaning.{HostCall, Command, Take, Give, Clear, Meaning, is_idle, command_is_input}
use Rattle.host.specs.Runs.{called, ran}
use Rattle.std.proofs.lemmas.Grind.{common_steps}

pub record At (S : Type 0) : Type 0 where
  pub current : Option ℕ
  pub latest : Option (ℕ × ℕ)
  pub inner : S

module _ {S : Type 0} (M : Machine S) where
  -- The state after a take and after a give.
  abbrev pub drawn : Option ℕ → S → S
  drawn None s = s
  drawn (Some c) s = cond (command_is_input c) (M.next s (Input c)) s

  abbrev pub filled : Option ℕ → ℕ → S → S
  filled None w s = s
  filled (Some c) w s = cond (command_is_input c) s (M.next s (Output c w))

  -- One call.
  abbrev pub moved : At S → HostCall → At S
  moved a (Command c) = cond (is_idle a.current && (M.offer a.inner).takes c) (record a { current = Some c }) a
  moved a Take = record a { current = None; inner = drawn a.current a.inner }
  moved a (Give w) =
      record { current = None; latest = latest_for a.current w a.latest; inner = filled a.current w a.inner }
  moved a Clear = record a { current = None }

  abbrev pub means : At S → Meaning
  means a = host_of (record { current = a.current; latest = a.latest; behaviour = behaves M a.inner })

  pub moves : (a : At S) (x : HostCall) → called (means a) x ≡ means (moved a x)
  moves a x = grind (arith, common_steps)

  -- A list of calls.
  abbrev pub ended : At S → List HostCall → At S
  ended a [] = a
  ended a (x ∷ l) = ended (moved a x) l

  pub ends : (a : At S) (l : List HostCall) → ran (means a) l ≡ means (ended a l)
  ends a [] = refl
  ends a (x ∷ l) = rw (moves a x) (ends (moved a x) l)
