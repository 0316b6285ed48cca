-- Only admitted operations stand in a table: in the empty one, and after one more is put.
use Rattle.std.proofs.Common.{◌≡◌, ℕ, ◌/◌, true, set, Some, None, Option, ap, ◌∙◌, ⊎_elim}
use Rattle.sheet.specs.declared.operation.Operation.{Operation}
use Rattle.sheet.specs.Operations.{admits}
use Rattle.sheet.specs.Tables.{Admitted, Entries, empty_entries, fits_in}
use Rattle.sheet.proofs.Lists.{get_or_same, get_or-set_either}

pub admitted_empty : Admitted empty_entries
admitted_empty k = ap (λ (e : Option Operation). fits_in e (k / 256)) (get_or_same 1280 None k)

pub admitted_set : (t : Entries) (i : ℕ) (o : Operation) → Admitted t → admits o (i / 256) ≡ true → Admitted (set t i (Some o))
admitted_set t i o old new k =
    ⊎_elim
    (λ p. let e : k ≡ i = p.0 in ap (λ (e : Option Operation). fits_in e (k / 256)) p.1 ∙ (ap (λ (j : ℕ). admits o (j / 256)) e ∙ new))
    (λ q. ap (λ (e : Option Operation). fits_in e (k / 256)) q ∙ old k)
    (get_or-set_either t i (Some o) k None)
