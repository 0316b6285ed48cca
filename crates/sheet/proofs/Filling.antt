-- A sheet that is accepted fills its table: each entry stands at its key, and nothing else stands in it.
use Rattle.std.proofs.Common.{◌≡◌, ℕ, zero, suc, ◌+◌, ◌-◌, ◌*◌, ◌<◌, ◌≤◌, true, false, cond, eqb, List, length, drop, get_or, set, slice_index, Some, None, Ok, Err, Option, Result, sym, refl, ap, ◌∙◌, subst, ⊎_elim, arith, length-drop}
use Rattle.std.proofs.lemmas.Grind.{get_or_after_one}
use Rattle.std.proofs.lemmas.List.{get_or-drop, get_or-take, length-set, get_or-set_same, get_or-set_other, length-replicate, length-take}
use Rattle.std.proofs.lemmas.Bool.{and_parts, cases_Bool, cases_eq, cond-false, cond-true, cond_both, eqb-true, ltb-true, ne_eqb}
use Rattle.sheet.specs.declared.operation.Operation.{Operation}
use Rattle.sheet.specs.Operations.{operation_of}
use Rattle.sheet.specs.declared.refusal.Layer.TheVariants as layer
use Rattle.sheet.specs.Refusals.{Refused, refused}
use Rattle.sheet.specs.Sheets.{Fills, adding, count_of, entries_to, entry_of, key_at, keys_of, number_at, numbers_of, putting, shaped, table_of}
use Rattle.sheet.specs.Tables.{Entries, empty_entries}
use Rattle.sheet.proofs.Lists.{get_or_same}
use Rattle.sheet.proofs.Loading.{Taken, err_ok, taken}

-- The first i entries stand in a table, and nothing else does; their keys rise.
record Holds (ks ns : List ℕ) (i : ℕ) (t : Entries) : Type 0 where
  size : length t ≡ 1280
  rise : (j : ℕ) → j < i → slice_index ks j ≤ slice_index ks (i - 1)
  listed : (j : ℕ) → j < i → get_or t (slice_index ks j) None ≡ operation_of (slice_index ns j)
  unlisted : (k : ℕ) → ((j : ℕ) → j < i → slice_index ks j ≡ k → ⊥) → get_or t k None ≡ None

holds_none : (ks ns : List ℕ) → Holds ks ns 0 empty_entries
holds_none ks ns =
    record {
      size = length-replicate {A = Option Operation} 1280 None;
      rise = λ j h. absurd (omega arith);
      listed = λ j h. absurd (omega arith);
      unlisted = λ k h. get_or_same 1280 None k;
    }

-- The key of the entry that is taken is above those before it.
above : (ks ns : List ℕ) (i : ℕ) (t : Entries) (o : Operation) → Holds ks ns i t → Taken ks ns i o → (j : ℕ) → j < i → slice_index ks j < slice_index ks i
above ks ns i t o h e j lt =
    let r = h.rise j lt in
    let z : eqb i 0 ≡ false = ne_eqb i 0 (λ q. omega arith) in
    let q : slice_index ks (i - 1) < slice_index ks i = ltb-true _ _ (rw z at e.rises) in
    omega arith

holds_more : (ks ns : List ℕ) (i : ℕ) (t : Entries) (o : Operation) → Holds ks ns i t → Taken ks ns i o → Holds ks ns (suc i) (set t (slice_index ks i) (Some o))
holds_more ks ns i t o h e =
    let lt : slice_index ks i < length t = rw h.size e.below in
    let here = get_or-set_same t (slice_index ks i) (Some o) None lt in
    let other = λ (k : ℕ) (ne : k ≡ slice_index ks i → ⊥). get_or-set_other t (slice_index ks i) k (Some o) None ne in
    let up = above ks ns i t o h e in
    let last : suc i - 1 ≡ i = omega arith in
    let rise-same : (j : ℕ) → j ≡ i → slice_index ks j ≤ slice_index ks (suc i - 1) = λ j q. rw (last, q) (omega arith) in
    let rise-before : (j : ℕ) → slice_index ks j < slice_index ks i → slice_index ks j ≤ slice_index ks (suc i - 1) = λ j q. rw last (omega arith) in
    record {
      size = length-set t (slice_index ks i) (Some o) ∙ h.size;
      rise = λ j hj. ⊎_elim (λ (q : j ≡ i). rise-same j q) (λ (ne : j ≡ i → ⊥). rise-before j (up j (omega arith))) (cases_eq j i);
      listed = λ j hj. ⊎_elim (λ (q : j ≡ i). rw q (here ∙ sym e.named)) (λ (ne : j ≡ i → ⊥). let l = up j (omega arith) in other (slice_index ks j) (λ q. omega arith) ∙ h.listed j (omega arith)) (cases_eq j i);
      unlisted = λ k no. other k (λ q. no i (omega arith) (sym q)) ∙ h.unlisted k (λ j hj q. no j (omega arith) q);
    }

-- The entries that give a table, one by one.
holds_by : (ks ns : List ℕ) (i : ℕ) (t : Entries) (y : Result Operation Refused) (u : Entries) → Holds ks ns i t → entry_of ks ns i ≡ y → putting t (slice_index ks i) y ≡ Ok u → Holds ks ns (suc i) u
holds_by ks ns i t (Ok o) u h e p =
    let q : set t (slice_index ks i) (Some o) ≡ u = cc in
    subst (λ (x : Entries). Holds ks ns (suc i) x) q (holds_more ks ns i t o h (taken ks ns i o e))
holds_by ks ns i t (Err f) u h e p = absurd (err_ok p)

holds_from : (ks ns : List ℕ) (i : ℕ) (x : Result Entries Refused) (u : Entries) → ((t : Entries) → x ≡ Ok t → Holds ks ns i t) → adding ks ns i x ≡ Ok u → Holds ks ns (suc i) u
holds_from ks ns i (Ok t) u h p = holds_by ks ns i t (entry_of ks ns i) u (h t refl) refl p
holds_from ks ns i (Err f) u h p = absurd (err_ok p)

holds : (ks ns : List ℕ) (i : ℕ) (t : Entries) → entries_to ks ns i ≡ Ok t → Holds ks ns i t
holds ks ns zero t p = let q : empty_entries ≡ t = cc in subst (λ (x : Entries). Holds ks ns zero x) q (holds_none ks ns)
holds ks ns (suc i) t p = holds_from ks ns i (entries_to ks ns i) t (holds ks ns i) p

-- An entry of the two lists stands on the sheet.
key_there : (s : List ℕ) (i : ℕ) → i < count_of s → slice_index (keys_of s) i ≡ key_at s i
key_there s i h = get_or-take (count_of s) (drop 1 s) i 0 h ∙ get_or_after_one s i 0

number_there : (s : List ℕ) (i : ℕ) → slice_index (numbers_of s) i ≡ number_at s i
number_there s i = get_or-drop (1 + count_of s) s i 0

filled : (s : List ℕ) (x : Result Entries Refused) → entries_to (keys_of s) (numbers_of s) (count_of s) ≡ x → Fills s x
filled s (Ok t) p =
    let h = holds (keys_of s) (numbers_of s) (count_of s) t p in
    record {
      listed = λ i lt. ap (λ (k : ℕ). get_or t k None) (sym (key_there s i lt)) ∙ (h.listed i lt ∙ ap operation_of (number_there s i));
      unlisted = λ k no. h.unlisted k (λ i lt q. no i lt (sym (key_there s i lt) ∙ q));
    }
filled s (Err e) p = tt

pub fills : (s : List ℕ) → Fills s (table_of s)
unfolding table_of
fills s = cond_both (shaped s) (entries_to (keys_of s) (numbers_of s) (count_of s)) _ (Fills s) (λ e. filled s _ refl) (λ e. tt)

-- A sheet of the right shape has as many keys as it counts.
length-keys : (s : List ℕ) → shaped s ≡ true → length (keys_of s) ≡ count_of s
length-keys s h =
    let long : length s ≡ 1 + 2 * count_of s = eqb-true _ _ (and_parts _ _ h).0 in
    simp (length-take, length-drop) (omega arith)

-- What its two lists fill is its table.
pub halves_fill : (s ks ns : List ℕ) (x : Result Entries Refused)
    → ◌≡◌ {A = Result (List ℕ × List ℕ) Refused} (Ok (ks, ns)) (cond (shaped s) (Ok (keys_of s, numbers_of s)) (Err (refused 1 0 layer.Sheet)))
    → x ≡ entries_to ks ns (length ks) → x ≡ table_of s
unfolding table_of
halves_fill s ks ns x e f =
    ⊎_elim
    (λ (h : shaped s ≡ true).
    let g : ◌≡◌ {A = Result (List ℕ × List ℕ) Refused} (Ok (ks, ns)) (Ok (keys_of s, numbers_of s)) = e ∙ cond-true (shaped s) _ _ h in
    let p : (ks, ns) ≡ (keys_of s, numbers_of s) = cc in
    let k : ks ≡ keys_of s = ap (λ (q : List ℕ × List ℕ). q.0) p in
    let n : ns ≡ numbers_of s = ap (λ (q : List ℕ × List ℕ). q.1) p in
    f ∙ (rw (k, n, length-keys s h) refl ∙ sym (cond-true (shaped s) _ _ h)))
    (λ (h : shaped s ≡ false). absurd (err_ok (sym (e ∙ cond-false (shaped s) _ _ h))))
    (cases_Bool (shaped s))
