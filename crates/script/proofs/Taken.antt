-- Words that are taken one by one, and the numbers that they write.
use Rattle.std.proofs.Common.{◌≡◌, ℕ, zero, suc, ◌<◌, List, [], ◌∷◌, ◌++◌, length, get_or, Some, None, Ok, Err, Option, sym, refl, ap, ◌∙◌, Bor, arith}
use Rattle.std.specs.Bool.{⊤}
use Rattle.std.specs.Iterator.{DrainsIf, Yields}
use Rattle.std.specs.Option.{ok_or}
use Rattle.std.specs.Str.Iter.{split_whitespace_rest, split_whitespace_steps}
use Rattle.std.specs.declared.str.SplitWhitespace.{SplitWhitespace}
use Rattle.script.specs.Numbers.{before, numbers_by}
use Rattle.script.specs.Words.{TextWords, texts}
use Rattle.script.specs.declared.unread.Unread.{Unread}
use Rattle.script.specs.declared.unread.Unread.TheVariants.{Text}

taken : (s t u : SplitWhitespace) (ws : List (Bor (List ℕ))) → Yields split_whitespace_steps s ws t → split_whitespace_steps t None u → TextWords (split_whitespace_rest s) (texts ws)
taken s t u [] e end = (split_whitespace_rest t, ap split_whitespace_rest e, end.1)
taken s t u (w ∷ ws) h end =
    let rest = taken h.0 t u ws h.2 end in
    (rest.0, (split_whitespace_rest h.0, h.1, rest.1), rest.2)

-- What the library gives of a text, up to the end, are its words.
pub words_taken : (s : SplitWhitespace) (text : List ℕ) (ws xs : List (Bor (List ℕ))) → split_whitespace_rest s ≡ text → ws ≡ xs → DrainsIf split_whitespace_steps ⊤ s xs → TextWords text (texts ws)
words_taken s text ws xs e f d = let end = d.2 tt in rw (← e, f) (taken s d.0 end.0 xs d.1 end.1)

module _ {N : Type 0} where
  -- A number after others, where there is none missing.
  after : Option (List N) → Option N → Option (List N)
  after None n = None
  after (Some ns) None = None
  after (Some ns) (Some n) = Some (ns ++ (n ∷ []))

  after_none : (n : Option N) → before n (Some []) ≡ after (Some []) n
  unfolding after
  after_none None = refl
  after_none (Some n) = refl

  before_after : (m : Option N) (ns : Option (List N)) (n : Option N) → before m (after ns n) ≡ after (before m ns) n
  unfolding after
  before_after None ns n = refl
  before_after (Some m) None n = refl
  before_after (Some m) (Some ns) None = refl
  before_after (Some m) (Some ns) (Some n) = refl

  before_none : (n : Option N) → None ≡ before n None
  before_none None = refl
  before_none (Some n) = refl

  module _ (reading : List ℕ → Option N) where
    push : (ws : List (Bor (List ℕ))) (w : Bor (List ℕ)) → numbers_by reading (texts (ws ++ (w ∷ []))) ≡ after (numbers_by reading (texts ws)) (reading w.now)
    push [] w = after_none (reading w.now)
    push (v ∷ vs) w = ap (before (reading v.now)) (push vs w) ∙ before_after (reading v.now) (numbers_by reading (texts vs)) (reading w.now)

    -- One more word that writes a number.
    pub numbers_push : (ws : List (Bor (List ℕ))) (w : Bor (List ℕ)) (ns : List N) (n : N) → Some ns ≡ numbers_by reading (texts ws) → Some n ≡ reading w.now → Some (ns ++ (n ∷ [])) ≡ numbers_by reading (texts (ws ++ (w ∷ [])))
    unfolding after
    numbers_push ws w ns n e f = ap (λ o. after o (Some n)) e ∙ (ap (after (numbers_by reading (texts ws))) f ∙ sym (push ws w))

    -- A word that writes none.
    pub numbers_none : (ws : List (Bor (List ℕ))) (i : ℕ) (w : Bor (List ℕ)) → i < length ws → w ≡ get_or ws i w → None ≡ reading w.now → None ≡ numbers_by reading (texts ws)
    numbers_none [] i w h e f = absurd (omega (arith, h))
    numbers_none (v ∷ vs) zero w h e f = ap (λ (o : Option N). before o (numbers_by reading (texts vs))) (f ∙ ap (λ x. reading x.now) e)
    numbers_none (v ∷ vs) (suc i) w h e f = before_none (reading v.now) ∙ ap (before (reading v.now)) (numbers_none vs i w (omega (arith, h)) e f)

  -- A word that says nothing is why a line cannot be read.
  pub nothing_said : (o : Option N) (e : Unread) → Err e ≡ ok_or o Text → (None ≡ o) × (e ≡ Text)
  nothing_said None e said = (refl, cc)
  nothing_said (Some n) e said = cc

  pub something_said : (o : Option N) (n : N) → Ok n ≡ ok_or o Text → o ≡ Some n
  something_said None n said = cc
  something_said (Some m) n said = cc
