-- What a host means, and what each call of it answers and leaves.
use Rattle.std.specs.Prelude.{◌≡◌, ℕ, Bool, true, false, cond, not, ◌&&◌, List, [], ◌∷◌, Some, None, Option}
use Rattle.word.specs.Bits.{bit_of}

-- The calls of a host.
pub data HostCall : Type 0 where
  Command : ℕ → HostCall
  Take : HostCall
  Give : ℕ → HostCall
  Clear : HostCall

-- Which commands a host would take, and the word that it would give to each.
pub record Offer : Type 0 where
  pub takes : ℕ → Bool
  pub word : ℕ → ℕ

-- The open command, the latest word given with its command, and the offer now and after each list of further calls.
pub record Meaning : Type 0 where
  pub current : Option ℕ
  pub latest : Option (ℕ × ℕ)
  pub offers : List HostCall → Offer

-- A command is a fullword; its bit 0, 31 places from the right, is one for input.
abbrev pub command_is_input : ℕ → Bool
command_is_input c = bit_of c 31

-- No command is open.
abbrev pub is_idle : Option ℕ → Bool
is_idle None = true
is_idle (Some c) = false

-- An input command is open, or an output command.
abbrev pub on_input : Option ℕ → Bool
on_input None = false
on_input (Some c) = command_is_input c

abbrev pub on_output : Option ℕ → Bool
on_output None = false
on_output (Some c) = not (command_is_input c)

-- What a host would take and give after a call and a list is what its meaning held at that call followed by the list.
abbrev pub later : Meaning → HostCall → List HostCall → Offer
later m x = λ l. m.offers (x ∷ l)

-- A command is accepted if the host is idle and would take it.
abbrev pub accepts : Meaning → ℕ → Bool
accepts m c = is_idle m.current && (m.offers []).takes c

-- A command that is accepted opens the host; else nothing changes.
abbrev pub commanded : Meaning → ℕ → Meaning
commanded m c = cond (accepts m c) (record m { current = Some c; offers = later m (Command c) }) m

-- Clear leaves the host idle, and moves no word.
abbrev pub cleared : Meaning → Meaning
cleared m = record m { current = None; offers = later m Clear }

-- Take on input leaves the host idle and keeps the latest word; else it acts as clear.
abbrev pub taken : Meaning → Meaning
taken m = cond (on_input m.current) (record m { current = None; offers = later m Take }) (cleared m)

-- Take on input answers the word that the host would give to the open command; else 0.
abbrev pub word_for : Option ℕ → (ℕ → ℕ) → ℕ
word_for None word = 0
word_for (Some c) word = cond (command_is_input c) (word c) 0

abbrev pub word_taken : Meaning → ℕ
word_taken m = word_for m.current (m.offers []).word

-- A word with the command that is open.
abbrev pub with_command : Option ℕ → ℕ → Option (ℕ × ℕ)
with_command None w = None
with_command (Some c) w = Some (c, w)

-- Give on output leaves the host idle and makes its word the latest; else it acts as clear.
abbrev pub given : Meaning → ℕ → Meaning
given m w =
    cond (on_output m.current) (record { current = None; latest = with_command m.current w; offers = later m (Give w) })
    (cleared m)

-- What each call makes of a host that means m: it answers r, and the host means n afterwards. What m held at this call followed
-- by a list is on offer after that list, also where the command is refused. At a command the words on offer stay.
pub record Commands (m : Meaning) (c : ℕ) (r : Bool) (n : Meaning) : Type 0 where
  pub answer : r ≡ accepts m c
  pub after : n ≡ commanded m c
  pub later : n.offers ≡ later m (Command c)
  pub words : (n.offers []).word ≡ (m.offers []).word

pub record Takes (m : Meaning) (r : ℕ) (n : Meaning) : Type 0 where
  pub answer : r ≡ word_taken m
  pub after : n ≡ taken m
  pub later : n.offers ≡ later m Take

pub record Gives (m : Meaning) (w : ℕ) (n : Meaning) : Type 0 where
  pub after : n ≡ given m w
  pub later : n.offers ≡ later m (Give w)

pub record Clears (m n : Meaning) : Type 0 where
  pub after : n ≡ cleared m
  pub later : n.offers ≡ later m Clear
