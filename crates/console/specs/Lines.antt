-- What a look at a place shows, as its line tells it.
use Rattle.std.specs.Prelude.{ℕ, cond, List}
use Rattle.listing.specs.Lines.{outside_text, place_text}
use Rattle.storage.specs.Meaning.{Place, at, within}

-- A place: its halfword, protect bit and mark, or that it lies at or above the size.
abbrev pub view_text : List Place → ℕ → List ℕ
view_text m a =
    cond (within m a) (place_text a (at m a).value (at m a).protected (at m a).sound) (outside_text a)
