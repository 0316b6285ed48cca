-- Words that stand for a value.
use Rattle.std.specs.Prelude.{ℕ, cond, List, [], ◌∷◌, Some, None, Option}
use Rattle.std.specs.Str.{bytes_eq}
use Rattle.sheet.specs.Operations.{operations, name_of}
use Rattle.sheet.specs.declared.operation.Operation.{Operation}

-- The first of some values that is written so.
abbrev pub named : {V : Type 0} → (V → List ℕ) → List V → List ℕ → Option V
named text [] bs = None
named text (v ∷ vs) bs = cond (bytes_eq bs (text v)) (Some v) (named text vs bs)

-- The operation with a name, or none.
abbrev pub operation_named : List ℕ → Option Operation
operation_named bs = named name_of operations bs
