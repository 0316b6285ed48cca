-- The words that stand for a value.
use Rattle.std.specs.Prelude.{ℕ, ◌^◌, Bool, true, false, List, [], ◌∷◌, Some, None, Option}
use Rattle.sheet.specs.Names.{named, operation_named}
use Rattle.sheet.specs.Operations.{number_of}
use Rattle.sheet.specs.declared.operation.Operation.{Operation}
use Rattle.script.specs.Numbers.{number_in}
use Rattle.listing.specs.Lines.{bit_text}

-- The number of an operation that is named, else a number.
abbrev pub number_or : Option Operation → Option ℕ → Option ℕ
number_or (Some o) n = Some (number_of o)
number_or None n = n

-- The number of an operation: of its name, or as it is written in decimal; or none.
abbrev pub number_of_operation : List ℕ → Option ℕ
number_of_operation bs = number_or (operation_named bs) (number_in 10 (2 ^ 16) bs)

-- The protect bit with a digit, or none.
abbrev pub bit_named : List ℕ → Option Bool
bit_named bs = named bit_text (false ∷ true ∷ []) bs
