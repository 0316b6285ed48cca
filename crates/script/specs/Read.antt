-- The words that were read of a line.
use Rattle.std.specs.Prelude.{◌≡◌, ℕ, List, Option, Some, None, Ok, Err, vec_items, Result, Vec}
use Rattle.std.specs.declared.alloc.Global.{Global}
use Rattle.script.specs.Numbers.{numbers_by}
use Rattle.script.specs.Words.{LineWords, texts}
use Rattle.script.specs.declared.unread.Unread.{Unread}
use Rattle.script.specs.declared.unread.Unread.TheVariants.{Memory, Text}
use Rattle.script.specs.declared.words.Words.{Words}

-- What the words hold.
abbrev pub words_in : Words → List (List ℕ)
words_in w = texts (vec_items w.words)

-- The words that were read are those of the line; else there was no memory.
abbrev pub WordsRead : List ℕ → Result Words Unread → Type 0
WordsRead line (Ok w) = LineWords line (words_in w)
WordsRead line (Err e) = e ≡ Memory

-- The numbers that were read are those that the words write by a reading, if they write numbers.
abbrev pub NumbersRead : {N : Type 0} → (List ℕ → Option N) → List (List ℕ) → Result (Vec N Global) Unread → Type 0
NumbersRead reading ws (Ok ns) = Some (vec_items ns) ≡ numbers_by reading ws
NumbersRead reading ws (Err Text) = None ≡ numbers_by reading ws
NumbersRead reading ws (Err Memory) = Unit {0}
