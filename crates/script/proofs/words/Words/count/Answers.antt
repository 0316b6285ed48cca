use Rattle.std.proofs.Common.{rules}
use Rattle.std.proofs.lemmas.List.{length-map}
use Rattle.script.proofs.words.Words.count.Goals as goal

pub returns : goal.returns
returns c = let e = length-map c.args.self.now.words.items (λ w. w.now) in search rules
