-- A line, and the words of a text.
use Rattle.std.specs.Prelude.{◌≡◌, ℕ, ◌<◌, ◌⊎◌, List, [], ◌∷◌, ◌++◌, length, map, slice_index_or}
use Rattle.std.specs.Borrow.{Bor}
use Rattle.std.specs.Str.Iter.{LacksByte}
use Rattle.std.specs.Str.{NoCharPasses, EmptyOrStartsWithPassing}
use Rattle.std.specs.Char.{is_whitespace, is_not_whitespace}

-- The body is the line up to its first `#`, or all of it.
abbrev pub Uncommented : List ℕ → List ℕ → Type 0
Uncommented line body = LacksByte 35 body × ((line ≡ body) ⊎ ((rest : List ℕ) × (line ≡ body ++ (35 ∷ rest))))

-- The word w stands first in the text, and the rest after it: only blanks before it, none in it, and one or the end after it.
abbrev pub First : List ℕ → List ℕ → List ℕ → Type 0
First text w rest = (gap : List ℕ) × (text ≡ gap ++ (w ++ rest)) × (0 < length w) × NoCharPasses is_not_whitespace gap × NoCharPasses is_whitespace w × ((more : List ℕ) × EmptyOrStartsWithPassing is_whitespace rest more)

-- The words ws stand first in the text, and the rest after them.
abbrev pub Firsts : List ℕ → List (List ℕ) → List ℕ → Type 0
Firsts text [] rest = text ≡ rest
Firsts text (w ∷ ws) rest = (after : List ℕ) × First text w after × Firsts after ws rest

-- The words of a text are ws.
abbrev pub TextWords : List ℕ → List (List ℕ) → Type 0
TextWords text ws = (rest : List ℕ) × Firsts text ws rest × NoCharPasses is_not_whitespace rest

-- The words of a line are ws: those before its comment.
abbrev pub LineWords : List ℕ → List (List ℕ) → Type 0
LineWords line ws = (body : List ℕ) × Uncommented line body × TextWords body ws

-- What each of some words holds.
abbrev pub texts : List (Bor (List ℕ)) → List (List ℕ)
texts ws = map (λ w. w.now) ws

-- The word with a number, counted from 0; no bytes where there is none.
abbrev pub word_at : List (List ℕ) → ℕ → List ℕ
word_at ws i = slice_index_or ws i []
