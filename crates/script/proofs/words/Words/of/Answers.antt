use Rattle.script.proofs.Taken.{words_taken}
use Rattle.script.proofs.words.Words.of.Goals as goal

pub returns : goal.returns
returns c =
    let ran = c.in_ok-words.ensures.ran in
    let words = words_taken c.split_whitespace.result c.uncommented.result.now c.in_ok-words.words.items ran.0 c.split_whitespace.ensures.rest ran.2.0 ran.1 in
    (c.uncommented.result.now, c.uncommented.ensures, words)
