-- What the lines of the script say.
use Rattle.std.specs.Prelude.{◌≡◌, ℕ, ◌+◌, ◌^◌, Bool, cond, ◌&&◌, List, length, drop, Some, None, Ok, Err, vec_items, string_bytes, codes, Option, Result, ◌==◌, nat_le, nat_lt}
use Rattle.listing.specs.Lines.{kind_named}
use Rattle.listing.specs.declared.line.Kind.{Kind}
use Rattle.script.specs.Numbers.{number_in, numbers_by}
use Rattle.script.specs.Words.{LineWords, word_at}
use Rattle.script.specs.Names.{bit_named, number_of_operation}
use Rattle.script.specs.Verbs.{verb_of}
use Rattle.script.specs.declared.verb.Verb.{Verb}
use Rattle.script.specs.declared.verb.Verb.TheVariants as verb
use Rattle.script.specs.declared.unread.Unread.{Unread}
use Rattle.script.specs.declared.unread.Unread.TheVariants.{Memory, Text}
use Rattle.script.specs.declared.command.Stretch.{Stretch}
use Rattle.script.specs.declared.command.Command.{Command}
use Rattle.script.specs.declared.command.Command.TheVariants.{Blank, Storage, Cell, Sheet, Entry, Do, Load, Deposit, Protect, Examine, View}

-- What a line says.
pub data Said : Type 0 where
  blank : Said
  storage : Kind → ℕ → Said
  cell : ℕ → List ℕ → Said
  sheet : List ℕ → Said
  entry : ℕ → ℕ → Said
  perform : List ℕ → Said
  load : Said
  deposit : ℕ → List ℕ → Said
  protect : ℕ → Bool → ℕ → Said
  examine : ℕ → ℕ → Said
  view : ℕ → ℕ → Said

-- What a command of the code says.
abbrev pub told : Command → Said
told Blank = blank
told (Storage kind size) = storage kind size
told (Cell address cells) = cell address (vec_items cells)
told (Sheet halfwords) = sheet (vec_items halfwords)
told (Entry e) = entry e.key e.number
told (Do file) = perform (string_bytes file)
told Load = load
told (Deposit address values) = deposit address (vec_items values)
told (Protect stretch bit) = protect stretch.address bit stretch.count
told (Examine stretch) = examine stretch.address stretch.count
told (View stretch) = view stretch.address stretch.count

-- The code's answer agrees with what is said; nothing is known where there was no memory.
abbrev pub Agrees : Result Command Unread → Option Said → Type 0
Agrees (Ok c) s = Some (told c) ≡ s
Agrees (Err Text) s = None ≡ s
Agrees (Err Memory) s = Unit {0}

-- What follows from a value; nothing where there is none.
abbrev pub given : {V W : Type 0} → Option V → (V → Option W) → Option W
given (Some v) f = f v
given None f = None

-- A value where a rule is kept, and else none.
abbrev pub where_kept : {V : Type 0} → Bool → V → Option V
where_kept kept v = cond kept (Some v) None

-- What is said by a line of so many words, the verb among them.
abbrev pub of_words : {V : Type 0} → ℕ → List (List ℕ) → Option V → Option V
of_words n ws s = cond (length ws == n) s None

-- A stretch of places ends at address FFFFFFFF or below.
abbrev pub fits : ℕ → ℕ → Bool
fits address count = nat_le (address + count) 4294967296

-- A hexadecimal address of 32 bits, and a decimal size or count.
abbrev pub hex32 : List ℕ → Option ℕ
hex32 bs = number_in 16 (2 ^ 32) bs

abbrev pub decimal32 : List ℕ → Option ℕ
decimal32 bs = number_in 10 (2 ^ 32) bs

-- The address that a list of so many values begins at: there is at least one, and their stretch fits.
abbrev pub start_said : List ℕ → ℕ → Option ℕ
start_said address count = given (hex32 address) (λ a. where_kept (nat_lt 0 count && fits a count) a)

-- The stretch with an address and a count, if it fits.
abbrev pub stretch_said : List ℕ → List ℕ → Option Stretch
stretch_said address count =
    given (hex32 address) (λ a. given (decimal32 count) (λ n. where_kept (fits a n) (record { address = a; count = n })))

-- `storage KIND SIZE`
abbrev pub storage_said : List ℕ → List ℕ → Option Said
storage_said kind size = given (kind_named kind) (λ k. given (decimal32 size) (λ n. Some (storage k n)))

-- `cell ADDRESS RAW ..`, with the raw cells read
abbrev pub cell_said : List ℕ → List ℕ → Option Said
cell_said address cells = given (start_said address (length cells)) (λ a. Some (cell a cells))

-- `sheet HALFWORD ..`, with the halfwords read
abbrev pub sheet_said : List ℕ → Option Said
sheet_said halfwords = where_kept (nat_lt 0 (length halfwords)) (sheet halfwords)

-- `entry KEY OPERATION`
abbrev pub entry_said : List ℕ → List ℕ → Option Said
entry_said key operation =
    given (number_in 16 (2 ^ 16) key) (λ k. given (number_of_operation operation) (λ n. Some (entry k n)))

-- `deposit ADDRESS VALUE ..`, with the values read
abbrev pub deposit_said : List ℕ → List ℕ → Option Said
deposit_said address values = given (start_said address (length values)) (λ a. Some (deposit a values))

-- The stretch in the words of a line: its address is word 1, and its count the word with a number, which is the last one.
-- A count that is left out is 1.
abbrev pub stretch_in : ℕ → List (List ℕ) → Option Stretch
stretch_in last ws =
    cond (length ws == last) (stretch_said (word_at ws 1) (codes "1"))
    (of_words (last + 1) ws (stretch_said (word_at ws 1) (word_at ws last)))

-- `protect ADDRESS BIT COUNT`, with the stretch read
abbrev pub protect_said : List ℕ → Stretch → Option Said
protect_said bit s = given (bit_named bit) (λ b. Some (protect s.address b s.count))

-- `examine ADDRESS COUNT`, with the stretch read
abbrev pub examine_said : Stretch → Option Said
examine_said s = Some (examine s.address s.count)

-- `view ADDRESS COUNT`, with the stretch read
abbrev pub view_said : Stretch → Option Said
view_said s = Some (view s.address s.count)

-- What the words of a line say that begins with a verb.
abbrev pub said_by : Verb → List (List ℕ) → Option Said
said_by verb.Storage ws = of_words 3 ws (storage_said (word_at ws 1) (word_at ws 2))
said_by verb.Cell ws = given (numbers_by (number_in 16 (2 ^ 32)) (drop 2 ws)) (cell_said (word_at ws 1))
said_by verb.Sheet ws = given (numbers_by (number_in 16 (2 ^ 16)) (drop 1 ws)) sheet_said
said_by verb.Entry ws = of_words 3 ws (entry_said (word_at ws 1) (word_at ws 2))
said_by verb.Do ws = of_words 2 ws (Some (perform (word_at ws 1)))
said_by verb.Load ws = of_words 1 ws (Some load)
said_by verb.Deposit ws = given (numbers_by (number_in 16 (2 ^ 16)) (drop 2 ws)) (deposit_said (word_at ws 1))
said_by verb.Protect ws = given (stretch_in 3 ws) (protect_said (word_at ws 2))
said_by verb.Examine ws = given (stretch_in 2 ws) examine_said
said_by verb.View ws = given (stretch_in 2 ws) view_said

-- What the words of a line say, or nothing where it cannot be read.
abbrev pub said_in : List (List ℕ) → Option Said
said_in ws = cond (length ws == 0) (Some blank) (given (verb_of (word_at ws 0)) (λ v. said_by v ws))

-- A command is what the words of the line say, and a line cannot be read where its words say nothing.
abbrev pub ReadAs : List ℕ → Result Command Unread → Type 0
ReadAs line (Ok c) = (ws : List (List ℕ)) × LineWords line ws × (Some (told c) ≡ said_in ws)
ReadAs line (Err Text) = (ws : List (List ℕ)) × LineWords line ws × (None ≡ said_in ws)
ReadAs line (Err Memory) = Unit {0}
