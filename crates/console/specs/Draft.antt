-- The code sheet that the script's lines write.
use Rattle.std.specs.Prelude.{ℕ, min, List, [], ◌∷◌, ◌++◌, length, map}
use Rattle.script.specs.declared.command.Entry.{Entry}

-- What a load hands over: the halfwords of the `sheet` lines, or with no such line the count, the keys and the numbers
-- of the `entry` lines. (A count that is no halfword stands as 65,535, which no sheet may have.)
abbrev pub handed_over : List ℕ → List Entry → List ℕ
handed_over (h ∷ hs) entries = h ∷ hs
handed_over [] entries = min (length entries) 65535 ∷ (map (λ e. e.key) entries ++ map (λ e. e.number) entries)
