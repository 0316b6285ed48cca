use Rattle.std.proofs.Common.{ℕ, List, Bor, drop, length, map, vec_items, sym, ◌∙◌}
use Rattle.std.proofs.lemmas.Iterator.{YieldsList-from_slice}
use Rattle.std.proofs.lemmas.Iterator.Adapters.{YieldsList-from_skip}
use Rattle.std.proofs.lemmas.Iterator.Consumers.{YieldsList-end, YieldsList-turn}
use Rattle.std.proofs.lemmas.List.{drop-map, map_push}
use Rattle.std.proofs.lemmas.Result.{err_from_is_err_and}
use Rattle.script.specs.Numbers.{number_by}
use Rattle.script.proofs.Taken.{nothing_said, numbers_none, numbers_push, something_said}
use Rattle.script.proofs.words.Words.numbers.Goals as goal

pub returns-in_err-ok_or : goal.returns-in_err-ok_or
returns-in_err-ok_or g c =
    let reading = number_by g.T.Numeral.from_value 16 g.T.Numeral.limit in
    let words = drop c.args.from c.args.self.now.words.items in
    let road = YieldsList-from_skip c.args.from (YieldsList-from_slice c.args.self.now.words.items (cc)) (cc) in
    let turn = YieldsList-turn road c.loop-word.yielded c.loop-word.word-iterator c.loop-word.yielded_by c.next.result c.next.new.self c.in-Some.word c.in-Some.is c.next.ensures.steps in
    let p = err_from_is_err_and c.from_residual.result c.from_residual.ensures.1 in
    let none = nothing_said c.number.result c.in_err-ok_or.field-0.0 c.in_err-ok_or.ensures.value in
    rw (p.1, p.2, none.1, drop-map) (numbers_none reading words (length c.loop-word.yielded) c.in-Some.word.now turn.0 turn.1 (none.0 ∙ c.number.ensures))

pub loop-word-preserved : goal.loop-word-preserved
loop-word-preserved g c =
    let reading = number_by g.T.Numeral.from_value 16 g.T.Numeral.limit in
    let taken = map (λ (y : Bor (Bor (List ℕ))). y.now) c.loop-word.yielded in
    let n = c.in_ok-ok_or.field-0 in
    let found = sym (something_said c.number.result n c.in_ok-ok_or.ensures.value) ∙ c.number.ensures in
    rw (c.in_ok-push.ensures.items, map_push) (numbers_push reading taken c.in-Some.word.now (vec_items c.loop-word.all) n c.loop-word.invariant found)

pub returns : goal.returns
returns g c =
    let road = YieldsList-from_skip c.args.from (YieldsList-from_slice c.args.self.now.words.items (cc)) (cc) in
    let all = YieldsList-end road c.loop-word.yielded c.loop-word.word-iterator c.loop-word.yielded_by c.next.result c.next.new.self c.in-None.is c.next.ensures.steps in
    rw (drop-map, ← all.0) c.loop-word.invariant
