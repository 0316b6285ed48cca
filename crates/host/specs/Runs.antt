-- Lists of calls of a host: what it means after them, and which words they moved.
use Rattle.std.specs.Prelude.{ℕ, cond, List, [], ◌∷◌, ◌++◌, Some, None, Option}
use Rattle.host.specs.Meaning.{HostCall, Command, Take, Give, Clear, Meaning, cleared, commanded, given, command_is_input, on_input, taken, word_taken}

-- One call.
abbrev pub called : Meaning → HostCall → Meaning
called m (Command c) = commanded m c
called m Take = taken m
called m (Give w) = given m w
called m Clear = cleared m

-- A list of calls.
abbrev pub ran : Meaning → List HostCall → Meaning
ran m [] = m
ran m (x ∷ l) = ran (called m x) l

-- The word that a call takes from the host, if it takes one.
abbrev pub taken_by : Meaning → HostCall → List ℕ
taken_by m (Command c) = []
taken_by m Take = cond (on_input m.current) (word_taken m ∷ []) []
taken_by m (Give w) = []
taken_by m Clear = []

-- The words that a list of calls takes, in order.
abbrev pub takings : Meaning → List HostCall → List ℕ
takings m [] = []
takings m (x ∷ l) = taken_by m x ++ takings (called m x) l

-- A word for an open output command, with the command.
abbrev pub output_of : Option ℕ → ℕ → List (ℕ × ℕ)
output_of None w = []
output_of (Some c) w = cond (command_is_input c) [] ((c, w) ∷ [])

-- The word that a call gives to the host with its command, if it gives one.
abbrev pub given_by : Meaning → HostCall → List (ℕ × ℕ)
given_by m (Command c) = []
given_by m Take = []
given_by m (Give w) = output_of m.current w
given_by m Clear = []

-- The words that a list of calls gives, each with its command, in order.
abbrev pub givings : Meaning → List HostCall → List (ℕ × ℕ)
givings m [] = []
givings m (x ∷ l) = given_by m x ++ givings (called m x) l
