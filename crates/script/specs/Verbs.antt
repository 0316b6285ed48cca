-- The verbs of the script.
use Rattle.std.specs.Prelude.{ℕ, List, [], ◌∷◌, codes, Option}
use Rattle.sheet.specs.Names.{named}
use Rattle.script.specs.declared.verb.Verb.{Verb}
use Rattle.script.specs.declared.verb.Verb.TheVariants.{Storage, Cell, Sheet, Entry, Do, Load, Deposit, Protect, Examine, View}

-- How a verb is written.
abbrev pub verb_text : Verb → List ℕ
verb_text Storage = codes "storage"
verb_text Cell = codes "cell"
verb_text Sheet = codes "sheet"
verb_text Entry = codes "entry"
verb_text Do = codes "do"
verb_text Load = codes "load"
verb_text Deposit = codes "deposit"
verb_text Protect = codes "protect"
verb_text Examine = codes "examine"
verb_text View = codes "view"

-- Every verb.
abbrev pub verbs : List Verb
verbs = Storage ∷ Cell ∷ Sheet ∷ Entry ∷ Do ∷ Load ∷ Deposit ∷ Protect ∷ Examine ∷ View ∷ []

-- The verb that is written so, or none.
abbrev pub verb_of : List ℕ → Option Verb
verb_of bs = named verb_text verbs bs
