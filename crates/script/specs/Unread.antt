-- Why a line was not read.
use Rattle.std.specs.Prelude.{ℕ, List, codes}
use Rattle.script.specs.declared.unread.Unread.{Unread}
use Rattle.script.specs.declared.unread.Unread.TheVariants.{Memory, Text}

-- The same in words.
abbrev pub unread_text : Unread → List ℕ
unread_text Memory = codes "there is no memory left"
unread_text Text = codes "the line cannot be read"
