-- The addresses that a range gives, one by one.
use Rattle.std.proofs.Common.{◌≡◌, ℕ, zero, suc, ◌+◌, ◌-◌, ◌<◌, Bool, true, false, Option, refl, ◌∙◌, arith}
use Rattle.std.proofs.lemmas.Iterator.{YieldsList, YieldsList-from_take}
use Rattle.std.proofs.lemmas.Iterator.Consumers.{YieldsList-at}
use Rattle.std.specs.Iterator.Adapters.{take_count, take_source, take_steps}
use Rattle.std.specs.declared.iter.Take.{Take}
use Rattle.std.specs.contracts.prelude.U32Step.TheImpl as step
use Rattle.script.specs.Stretches.{addresses_of}
use Rattle.script.specs.declared.command.Stretch.{Stretch}
use Rattle.std.specs.Iterator.{AlwaysYields}
use Rattle.std.specs.List.{range_with_len}
use Rattle.std.specs.Range.{range_inclusive_end, range_inclusive_exhausted, range_inclusive_len, range_inclusive_left, range_inclusive_start, range_inclusive_steps}
use Rattle.std.specs.declared.ops.RangeInclusive.{RangeInclusive}

abbrev pub left : RangeInclusive ℕ → ℕ
left s = range_inclusive_left (λ x y. y - x) s

abbrev pub steps : RangeInclusive ℕ → Option ℕ → RangeInclusive ℕ → Type 0
steps = range_inclusive_steps step.steps_between-value.it step.is_successor-value.it

not_exhausted : (a b : ℕ) (spent : Bool) → 0 < range_inclusive_len (λ x y. y - x) a b spent → spent ≡ false
not_exhausted a b true h = absurd (omega (arith, h))
not_exhausted a b false h = refl

yields : (n a : ℕ) (s : RangeInclusive ℕ) → left s ≡ n → (0 < n → range_inclusive_start s ≡ a) → AlwaysYields steps (λ x. x) s (range_with_len a n)
yields zero a s e at = λ x j h. absurd (omega (arith, h.1.1))
yields (suc n) a s e at = (
  λ j h. absurd (omega (arith, h.1.0)),
  λ x j h.
      let still : left j ≡ n = omega (arith, h.1.1) in
      let first : x ≡ a = h.1.0 ∙ at (omega arith) in
      let next : 0 < n → range_inclusive_start j ≡ a + 1 = λ more.
      let in_range = not_exhausted (range_inclusive_start j) (range_inclusive_end j) (range_inclusive_exhausted j) (omega arith) in
      omega (arith, first, h.1.0, h.1.2 in_range)
      in
      (first, yields n (a + 1) j still next),
)

-- A range with n numbers left gives n, from its start on.
pub range_gives : (n a : ℕ) (s : RangeInclusive ℕ) → left s ≡ n → (0 < n → range_inclusive_start s ≡ a) → YieldsList steps (λ x. x) s (range_with_len a n)
range_gives n a s e at = record { runs = yields n a s e at }

-- The first of them, as many as a stretch counts, are its addresses.
pub stretch_gives : (s : Stretch) (r : RangeInclusive ℕ) (t : Take (RangeInclusive ℕ))
    → range_inclusive_start r ≡ s.address → range_inclusive_end r ≡ 4294967295 → range_inclusive_exhausted r ≡ false → take_source t ≡ r → take_count t ≡ s.count → s.address < 4294967296
    → AlwaysYields (take_steps steps) (λ x. x) t (addresses_of s)
unfolding addresses_of
stretch_gives s r t start end fresh source count small =
    let n = 4294967296 - s.address in
    let still : left r ≡ n = rw (start, end, fresh) (omega arith) in
    let road = range_gives n s.address r still (λ more. start) in
    (YieldsList-from_take s.count (YieldsList-at source road) count).runs
