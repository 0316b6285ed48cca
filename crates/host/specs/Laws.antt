-- What the supplied hosts do over every list of calls, whatever these are.
use Rattle.std.specs.Prelude.{◌≡◌, ℕ, true, false, cond, ◌&&◌, List, [], ◌∷◌, length, take, Some, ◌==◌, nat_lt, slice_index}
use Rattle.host.specs.Meaning.{HostCall, Meaning, accepts, is_idle, command_is_input, word_taken}
use Rattle.host.specs.Registers.{register_of}
use Rattle.host.specs.Runs.{givings, ran, takings}

-- The latest word given to a register, or the word that it held before.
abbrev pub latest_to : ℕ → List (ℕ × ℕ) → ℕ → ℕ
latest_to r [] old = old
latest_to r (g ∷ gs) old = latest_to r gs (cond (register_of g.0 == r) g.1 old)

-- A host with registers that held the words ws at first.
pub record Keeps (ws : List ℕ) (m : Meaning) : Type 0 where
  -- While idle it accepts every command.
  pub accepts_all : (l : List HostCall) (c : ℕ) → accepts (ran m l) c ≡ is_idle (ran m l).current
  -- What is taken from a register is the latest word given to it, and until one is given the word that it held at first.
  pub keeps : (l : List HostCall) (c : ℕ) → (ran m l).current ≡ Some c → command_is_input c ≡ true → word_taken (ran m l) ≡ latest_to (register_of c) (givings m l) (slice_index ws (register_of c))

-- A host with the words ws to give, and room for so many words given to it.
pub record InOrder (ws : List ℕ) (room : ℕ) (m : Meaning) : Type 0 where
  -- The words taken are the first of ws, each once and in order.
  pub in_order : (l : List HostCall) → takings m l ≡ take (length (takings m l)) ws
  -- While idle it accepts an input command until all of them are taken, and then refuses.
  pub input : (l : List HostCall) (c : ℕ) → command_is_input c ≡ true → accepts (ran m l) c ≡ (is_idle (ran m l).current && nat_lt (length (takings m l)) (length ws))
  -- While idle it accepts an output command until its room is used up, and then refuses.
  pub output : (l : List HostCall) (c : ℕ) → command_is_input c ≡ false → accepts (ran m l) c ≡ (is_idle (ran m l).current && nat_lt (length (givings m l)) room)
