-- A code sheet: the count n, then n keys strictly rising, then n operation numbers; and the table that it fills.
use Rattle.std.specs.Prelude.{◌≡◌, ℕ, zero, suc, ◌+◌, ◌-◌, ◌*◌, ◌/◌, ◌<◌, Bool, true, cond, ◌&&◌, List, length, take, drop, Some, None, Ok, Err, Option, Result, ◌==◌, ◌≢◌, nat_lt, slice_index, slice_index_or, slice_set}
use Rattle.sheet.specs.declared.operation.Operation.{Operation}
use Rattle.sheet.specs.declared.refusal.Layer.TheVariants as layer
use Rattle.sheet.specs.Operations.{admits, operation_of}
use Rattle.sheet.specs.Refusals.{Refused, refused}
use Rattle.sheet.specs.Tables.{Entries, empty_entries}

abbrev pub count_of : List ℕ → ℕ
count_of s = slice_index s 0

-- Its keys, and its operation numbers.
abbrev pub keys_of : List ℕ → List ℕ
keys_of s = take (count_of s) (drop 1 s)

abbrev pub numbers_of : List ℕ → List ℕ
numbers_of s = drop (1 + count_of s) s

-- The length is 1 + 2n, and n is 1 to 1,280.
abbrev pub shaped : List ℕ → Bool
shaped s = length s == 1 + 2 * count_of s && (nat_lt 0 (count_of s) && nat_lt (count_of s) 1281)

-- Key i is above the one before it.
abbrev pub rising : List ℕ → ℕ → Bool
rising ks i = cond (i == 0) true (nat_lt (slice_index ks (i - 1)) (slice_index ks i))

-- The operation of an entry, if there is one and the class admits it; else refusal 3.
abbrev pub allowed : Option Operation → ℕ → ℕ → Result Operation Refused
allowed None c i = Err (refused 3 i layer.Sheet)
allowed (Some o) c i = cond (admits o c) (Ok o) (Err (refused 3 i layer.Sheet))

-- Entry i of keys and numbers: its operation, or refusal 2 where its key is above 1,279 or does not rise, and then refusal 3.
abbrev pub entry_of : List ℕ → List ℕ → ℕ → Result Operation Refused
entry_of ks ns i =
    cond (nat_lt (slice_index ks i) 1280 && rising ks i)
    (allowed (operation_of (slice_index ns i)) (slice_index ks i / 256) i)
    (Err (refused 2 i layer.Sheet))

abbrev pub putting : Entries → ℕ → Result Operation Refused → Result Entries Refused
putting t k (Ok o) = Ok (slice_set t k (Some o))
putting t k (Err e) = Err e

abbrev pub adding : List ℕ → List ℕ → ℕ → Result Entries Refused → Result Entries Refused
adding ks ns i (Ok t) = putting t (slice_index ks i) (entry_of ks ns i)
adding ks ns i (Err e) = Err e

-- The table of the first i entries, or the refusal of the first entry that is refused.
abbrev pub entries_to : List ℕ → List ℕ → ℕ → Result Entries Refused
entries_to ks ns zero = Ok empty_entries
entries_to ks ns (suc i) = adding ks ns i (entries_to ks ns i)

-- The table of a whole sheet, or its refusal: 1 first, then that of the first entry that is refused.
unfoldable pub table_of : List ℕ → Result Entries Refused
table_of s = cond (shaped s) (entries_to (keys_of s) (numbers_of s) (count_of s)) (Err (refused 1 0 layer.Sheet))

-- The key of entry i on a sheet, and its operation number.
abbrev pub key_at : List ℕ → ℕ → ℕ
key_at s i = slice_index s (1 + i)

abbrev pub number_at : List ℕ → ℕ → ℕ
number_at s i = slice_index s (1 + count_of s + i)

-- A table that a sheet fills: at the key of each entry its operation, and at every other key none.
pub record Filled (s : List ℕ) (t : Entries) : Type 0 where
  pub listed : (i : ℕ) → i < count_of s → slice_index_or t (key_at s i) None ≡ operation_of (number_at s i)
  pub unlisted : (k : ℕ) → ((i : ℕ) → i < count_of s → key_at s i ≢ k) → slice_index_or t k None ≡ None

-- Wherever reading a sheet gives a table, the sheet fills it.
abbrev pub Fills : List ℕ → Result Entries Refused → Type 0
Fills s (Ok t) = Filled s t
Fills s (Err e) = Unit {0}
