use Rattle.std.proofs.Common.{arith, rules}
use Rattle.script.proofs.Numbers.{plus_is_none}
use Rattle.script.proofs.number.number.Goals as goal

pub returns-then-starts_with : goal.returns-then-starts_with
returns-then-starts_with g c = plus_is_none g.T.Numeral.from_value c.args.radix g.T.Numeral.limit c.args.word.now (omega arith) (search rules)
