use Rattle.std.proofs.Common.{rules}
use Rattle.host.proofs.RegisterRuns.{registers_keep}
use Rattle.host.proofs.registers.RegisterHost.with_words.Goals as goal

pub returns-clause-keeps : goal.returns-clause-keeps
returns-clause-keeps c = registers_keep c.idle.result c.args.words (search rules) (search rules)
