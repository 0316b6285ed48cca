use Rattle.std.proofs.Common.{◌^◌, rules}
use Rattle.script.proofs.Numbers.{read_is}
use Rattle.script.proofs.number.U32Numeral.read.Goals as goal

pub returns : goal.returns
returns c = read_is (λ n. n) c.args.radix (2 ^ 32) _ c.ok.result (search rules)
