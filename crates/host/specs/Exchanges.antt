-- The exchange of one word: a command, and if it is accepted a take or a give.
use Rattle.std.specs.Prelude.{ℕ, cond, [], Some, None, Option}
use Rattle.host.specs.Meaning.{Meaning, accepts, commanded, given, command_is_input, taken, word_taken}
use Rattle.host.specs.declared.exchange.Exchanged.{Exchanged}
use Rattle.host.specs.declared.exchange.Exchanged.TheVariants.{NotAccepted, Given, Taken}

-- The condition code that an exchange sets, and the word that was taken, if any.
pub record Answer : Type 0 where
  pub code : ℕ
  pub word : Option ℕ

-- What each case of the code's answer tells.
abbrev pub told : Exchanged → Answer
told NotAccepted = record { code = 1; word = None }
told Given = record { code = 0; word = None }
told (Taken w) = record { code = 0; word = Some w }

-- An accepted command is closed by a take on input and by a give on output.
abbrev pub closed_by : Meaning → ℕ → ℕ → Meaning
closed_by m c w = cond (command_is_input c) (taken m) (given m w)

-- The answer is code 0 and on input the word that was taken.
abbrev pub closed_answer : Meaning → ℕ → Answer
closed_answer m c = record { code = 0; word = cond (command_is_input c) (Some (word_taken m)) None }

-- The answer of an exchange: code 0 and on input the word that the host would give; code 1 where the command is not accepted.
abbrev pub exchange_answer : Meaning → ℕ → Answer
exchange_answer m c =
    cond (accepts m c) (record { code = 0; word = cond (command_is_input c) (Some ((m.offers []).word c)) None })
    (record { code = 1; word = None })

-- The host afterwards: unchanged where the command is not accepted.
abbrev pub exchanged : Meaning → ℕ → ℕ → Meaning
exchanged m c w = cond (accepts m c) (closed_by (commanded m c) c w) m
