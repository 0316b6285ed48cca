-- The operator's calls on a stopped processor: what each answers and leaves. A refused call changes nothing.
use Rattle.std.specs.Prelude.{ℕ, Bool, cond, List, length, Ok, Err, Result, nat_lt}
use Rattle.processor.specs.declared.state.State.{State}
use Rattle.processor.specs.State.{with_table}
use Rattle.sheet.specs.declared.refusal.Layer.TheVariants as layer
use Rattle.sheet.specs.Refusals.{Refused, refused}
use Rattle.sheet.specs.Sheets.{table_of}
use Rattle.storage.specs.Meaning.{Place, at, guarded, within, written}

abbrev pub Done : Type 0
Done = Result (Unit {0}) Refused

-- Done, or the refusal.
abbrev pub done : {X : Type 0} → Result X Refused → Done
done (Ok x) = Ok tt
done (Err e) = Err e

-- What follows where nothing is refused.
abbrev pub then : {X Y : Type 0} → Result X Refused → (X → Result Y Refused) → Result Y Refused
then (Ok x) f = f x
then (Err e) f = Err e

-- What a call leaves: the new, or the old where it is refused.
abbrev pub leaving : {X Y : Type 0} → Result X Refused → Y → (X → Y) → Y
leaving (Ok x) old new = new x
leaving (Err e) old new = old

-- Load: the sheet's table takes the place of the old one.
abbrev pub load_answer : List ℕ → Done
load_answer sheet = done (table_of sheet)

abbrev pub after_load : List ℕ → State → State
after_load sheet s = leaving (table_of sheet) s (with_table s)

-- Refusal 8 where the storage has fewer than 256 places, then 4 where the address is at or above its size.
abbrev pub reached : List Place → ℕ → Done
reached m a =
    cond (nat_lt (length m) 256) (Err (refused 8 0 layer.Storage))
    (cond (within m a) (Ok tt) (Err (refused 4 a layer.Storage)))

-- Deposit writes a halfword.
abbrev pub after_deposit : List Place → ℕ → ℕ → List Place
after_deposit m a v = leaving (reached m a) m (λ _. written m a v)

-- Protect sets a protect bit.
abbrev pub after_protect : List Place → ℕ → Bool → List Place
after_protect m a b = leaving (reached m a) m (λ _. guarded m a b)

-- The halfword at a place: refusal 4 at or above the size, then 5 where it is unsound.
abbrev pub is_sound_at : List Place → ℕ → Result ℕ Refused
is_sound_at m a =
    cond (within m a) (cond (at m a).sound (Ok (at m a).value) (Err (refused 5 a layer.Storage)))
    (Err (refused 4 a layer.Storage))

-- Examine reads a halfword: refusal 8, then 4, then 5.
abbrev pub examine_answer : List Place → ℕ → Result ℕ Refused
examine_answer m a = then (reached m a) (λ _. is_sound_at m a)
