-- Reading the entries of a sheet: what is known of an entry that is taken, and that the first refusal stays.
use Rattle.std.proofs.Common.{◌≡◌, ℕ, zero, suc, ◌+◌, ◌-◌, ◌/◌, ◌<◌, Bool, true, false, cond, ◌&&◌, ltb, List, Some, None, Ok, Err, Option, Result, sym, refl, ap, ◌∙◌, subst, add-zero, add-suc, add-one, slice_index, arith}
use Rattle.std.proofs.lemmas.Bool.{ltb-true}
use Rattle.sheet.specs.declared.operation.Operation.{Operation}
use Rattle.sheet.specs.Operations.{admits, operation_of}
use Rattle.sheet.specs.Refusals.{Refused}
use Rattle.sheet.specs.Sheets.{adding, allowed, entries_to, entry_of, putting, rising}
use Rattle.sheet.specs.Tables.{Entries}

pub err_ok : {X : Type 0} {e : Refused} {x : X} → ◌≡◌ {A = Result X Refused} (Err e) (Ok x) → ⊥
err_ok p = let z : ◌≡◌ {A = ℕ} 0 1 = cc in omega arith

chosen : (b : Bool) (e : Refused) (p o : Operation) → cond b (Ok p) (Err e) ≡ Ok o → (b ≡ true) × (p ≡ o)
chosen true e p o h = (refl, cc)
chosen false e p o h = absurd (err_ok h)

allowed-taken : (x : Option Operation) (c i : ℕ) (o : Operation) → allowed x c i ≡ Ok o → (admits o c ≡ true) × (x ≡ Some o)
allowed-taken None c i o h = absurd (err_ok h)
allowed-taken (Some p) c i o h =
    let q = chosen (admits p c) _ p o h in (ap (λ (r : Operation). admits r c) (sym q.1) ∙ q.0, ap Some q.1)

tested : (a b : Bool) (x : Result Operation Refused) (e : Refused) (o : Operation) → cond (a && b) x (Err e) ≡ Ok o → (a ≡ true) × (b ≡ true) × (x ≡ Ok o)
tested true true x e o h = (refl, refl, h)
tested true false x e o h = absurd (err_ok h)
tested false b x e o h = absurd (err_ok h)

-- An entry that is taken: its key is below 1,280 and rises, and its class admits its operation.
pub record Taken (ks ns : List ℕ) (i : ℕ) (o : Operation) : Type 0 where
  pub below : slice_index ks i < 1280
  pub rises : rising ks i ≡ true
  pub fits : admits o (slice_index ks i / 256) ≡ true
  pub named : operation_of (slice_index ns i) ≡ Some o

pub taken : (ks ns : List ℕ) (i : ℕ) (o : Operation) → entry_of ks ns i ≡ Ok o → Taken ks ns i o
taken ks ns i o h =
    let q = tested (ltb (slice_index ks i) 1280) (rising ks i) (allowed (operation_of (slice_index ns i)) (slice_index ks i / 256) i) _ o h in
    let p = allowed-taken (operation_of (slice_index ns i)) (slice_index ks i / 256) i o q.2 in
    record { below = ltb-true (slice_index ks i) 1280 q.0; rises = q.1; fits = p.0; named = p.1 }

-- One more entry.
pub entries_more : (ks ns : List ℕ) (i : ℕ) (t : Entries) → entries_to ks ns i ≡ Ok t → entries_to ks ns (i + 1) ≡ adding ks ns i (Ok t)
entries_more ks ns i t h = rw add-one (ap (adding ks ns i) h)

refusal_stays_by : (ks ns : List ℕ) (i m : ℕ) (e : Refused) → entries_to ks ns i ≡ Err e → entries_to ks ns (i + m) ≡ Err e
refusal_stays_by ks ns i zero e h = rw add-zero h
refusal_stays_by ks ns i (suc m) e h = rw add-suc (ap (adding ks ns (i + m)) (refusal_stays_by ks ns i m e h))

-- The refusal of an entry is the refusal of all entries up to a later one.
pub refusal_stays : (ks ns : List ℕ) (m i : ℕ) (t : Entries) (e : Refused) → i < m → entries_to ks ns i ≡ Ok t → entry_of ks ns i ≡ Err e → entries_to ks ns m ≡ Err e
refusal_stays ks ns m i t e lt h bad =
    let k : (i + 1) + (m - (i + 1)) ≡ m = omega arith in
    subst (λ (j : ℕ). entries_to ks ns j ≡ Err e) k
    (refusal_stays_by ks ns (i + 1) (m - (i + 1)) e
    (entries_more ks ns i t h ∙ ap (λ (r : Result Operation Refused). putting t (slice_index ks i) r) bad))
