-- What is printed of a line that cannot be read.
use Rattle.std.specs.Prelude.{ℕ, List, ◌++◌, Some, None, codes, decimal, Option}

-- The file's name stands first, unless it is the script itself.
abbrev pub unread_text : Option (List ℕ) → ℕ → List ℕ → List ℕ
unread_text None number line = codes "line " ++ (decimal number ++ (codes ": cannot read: " ++ line))
unread_text (Some file) number line =
    file ++ (codes " line " ++ (decimal number ++ (codes ": cannot read: " ++ line)))
