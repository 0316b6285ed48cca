-- The text of an answer.
use Rattle.std.specs.Prelude.{ℕ, List, Some, None, Ok, Err, codes, Option, Result}
use Rattle.sheet.specs.Refusals.{Refused, refused_text, refusal_of}
use Rattle.sheet.specs.declared.refusal.Refusal.{Refusal}
use Rattle.listing.specs.Numbers.{halfword_text}
use Rattle.listing.specs.declared.answer.Answer.{Answer}

-- The answer of a call that serves without a value: that it is done, or what its refusal carries.
abbrev pub done_text : Result (Unit {0}) Refused → List ℕ
done_text (Ok u) = codes "done"
done_text (Err e) = refused_text e

-- The answer of a call that reads: the halfword, or what its refusal carries.
abbrev pub value_text : Result ℕ Refused → List ℕ
value_text (Ok h) = halfword_text h
value_text (Err e) = refused_text e

-- The text of what is served, a halfword or that it is done, or of the refusal.
abbrev pub served_text : Result (Option ℕ) Refusal → List ℕ
served_text (Ok None) = codes "done"
served_text (Ok (Some value)) = halfword_text value
served_text (Err refusal) = refused_text (refusal_of refusal)

-- The text of an answer.
abbrev pub answer_text : Answer → List ℕ
answer_text a = served_text a.0
