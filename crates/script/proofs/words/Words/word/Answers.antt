use Rattle.std.proofs.Common.{ℕ, List, Bor, rules}
use Rattle.std.proofs.Math.ListN.{get_or-map}
use Rattle.script.proofs.words.Words.word.Goals as goal

pub returns : goal.returns
returns c =
    let ws = c.args.self.now.words.items in
    let e = get_or-map (λ (w : Bor (List ℕ)). w.now) ws c.args.number in
    search rules
