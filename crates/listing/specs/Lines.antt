-- The lines that the program prints.
use Rattle.std.specs.Prelude.{ℕ, Bool, cond, List, [], ◌∷◌, ◌++◌, codes, decimal, Option}
use Rattle.listing.specs.Numbers.{halfword_text, address_text}
use Rattle.listing.specs.Answers.{answer_text}
use Rattle.sheet.specs.Names.{named}
use Rattle.listing.specs.declared.line.Kind.{Kind}
use Rattle.listing.specs.declared.line.Kind.TheVariants.{Cells, Packed}
use Rattle.listing.specs.declared.line.Line.{Line}
use Rattle.listing.specs.declared.line.Line.TheVariants.{Storage, Load, Deposit, Protect, Examine, Place, Outside}

-- The name of a kind of storage.
abbrev pub kind_text : Kind → List ℕ
kind_text Cells = codes "cells"
kind_text Packed = codes "packed"

-- The kind of storage with a name, or none.
abbrev pub kind_named : List ℕ → Option Kind
kind_named bs = named kind_text (Cells ∷ Packed ∷ []) bs

-- A protect bit as a digit.
abbrev pub bit_text : Bool → List ℕ
bit_text bit = cond bit (codes "1") (codes "0")

-- Whether a place is protected, as a word.
abbrev pub guard_text : Bool → List ℕ
guard_text protected = cond protected (codes "protected") (codes "open")

-- Whether a place is sound, as a word.
abbrev pub state_text : Bool → List ℕ
state_text sound = cond sound (codes "sound") (codes "unsound")

-- The lines, each with the text of its answer.
abbrev pub storage_text : Kind → ℕ → List ℕ
storage_text kind size = codes "storage " ++ (kind_text kind ++ (codes " " ++ decimal size))

abbrev pub load_text : List ℕ → List ℕ
load_text answer = codes "load: " ++ answer

abbrev pub deposit_text : ℕ → ℕ → List ℕ → List ℕ
deposit_text address value answer =
    codes "deposit " ++ (address_text address ++ (codes " " ++ (halfword_text value ++ (codes ": " ++ answer))))

abbrev pub protect_text : ℕ → Bool → List ℕ → List ℕ
protect_text address bit answer =
    codes "protect " ++ (address_text address ++ (codes " " ++ (bit_text bit ++ (codes ": " ++ answer))))

abbrev pub examine_text : ℕ → List ℕ → List ℕ
examine_text address answer = codes "examine " ++ (address_text address ++ (codes ": " ++ answer))

abbrev pub place_text : ℕ → ℕ → Bool → Bool → List ℕ
place_text address value protected sound =
    address_text address
    ++ (codes ": " ++ (halfword_text value ++ (codes " " ++ (guard_text protected ++ (codes " " ++ state_text sound)))))

abbrev pub outside_text : ℕ → List ℕ
outside_text address = address_text address ++ codes ": outside"

-- The text of each line.
abbrev pub line_text : Line → List ℕ
line_text (Storage kind size) = storage_text kind size
line_text (Load answer) = load_text (answer_text answer)
line_text (Deposit address value answer) = deposit_text address value (answer_text answer)
line_text (Protect address bit answer) = protect_text address bit (answer_text answer)
line_text (Examine address answer) = examine_text address (answer_text answer)
line_text (Place address value protected sound) = place_text address value protected sound
line_text (Outside address) = outside_text address
