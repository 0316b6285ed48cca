use Rattle.std.proofs.Common.{◌≡◌, Some, rules}
use Rattle.script.specs.Read.{words_in}
use Rattle.script.specs.Verbs.{verb_of}
use Rattle.script.specs.Words.{word_at}
use Rattle.script.proofs.Taken.{something_said}
use Rattle.script.proofs.words.Words.said.Goals as goal

pub returns : goal.returns
returns c =
    let found : verb_of (word_at (words_in c.args.self.now) 0) ≡ Some c.in_ok-verb.verb = something_said _ c.in_ok-verb.verb (search rules) in
    search rules
