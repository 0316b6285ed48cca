use Rattle.std.proofs.Common.{◌≡◌, Some, map, vec_items}
use Rattle.script.specs.Numbers.{number_by, numbers_by}
use Rattle.script.specs.Words.{texts}
use Rattle.script.proofs.words.Words.numbers.Given as goal

abbrev pub invariant-loop-word : goal.invariant-loop-word
invariant-loop-word g l = Some (vec_items l.all) ≡ numbers_by (number_by g.T.Numeral.from_value 16 g.T.Numeral.limit) (texts (map (λ y. y.now) l.yielded))
