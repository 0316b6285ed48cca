-- Refused calls: what each case of the code's enums says, as number, place and layer.
use Rattle.std.specs.Prelude.{ℕ, List, ◌++◌, Ok, Err, codes, decimal, Result}
use Rattle.sheet.specs.declared.refusal.Layer.{Layer}
use Rattle.sheet.specs.declared.refusal.Layer.TheVariants as layer
use Rattle.sheet.specs.declared.refusal.SheetFault.{SheetFault}
use Rattle.sheet.specs.declared.refusal.SheetFault.TheVariants.{Shape, Key, Code}
use Rattle.sheet.specs.declared.refusal.StorageFault.{StorageFault}
use Rattle.sheet.specs.declared.refusal.StorageFault.TheVariants.{Outside, Unsound, TooSmall}
use Rattle.sheet.specs.declared.refusal.Refusal.{Refusal}
use Rattle.sheet.specs.declared.refusal.Refusal.TheVariants.{Sheet, Storage}

-- What a refusal carries.
pub record Refused : Type 0 where
  pub number : ℕ
  pub place : ℕ
  pub layer : Layer

abbrev pub refused : ℕ → ℕ → Layer → Refused
refused n p l = record { number = n; place = p; layer = l }

-- A fault of a code sheet: 1 its shape, 2 a key, 3 an operation; 2 and 3 at the entry, counted from 0.
abbrev pub sheet_of : SheetFault → Refused
sheet_of Shape = refused 1 0 layer.Sheet
sheet_of (Key i) = refused 2 i layer.Sheet
sheet_of (Code i) = refused 3 i layer.Sheet

-- A fault of a storage: 4 an address at or above its size, 5 an unsound place, 8 fewer than 256 places.
abbrev pub storage_of : StorageFault → Refused
storage_of (Outside a) = refused 4 a layer.Storage
storage_of (Unsound a) = refused 5 a layer.Storage
storage_of TooSmall = refused 8 0 layer.Storage

-- A refusal of one of the operator's calls.
abbrev pub refusal_of : Refusal → Refused
refusal_of (Sheet f) = sheet_of f
refusal_of (Storage f) = storage_of f

-- An answer in these terms: a value, or what the refusal carries.
abbrev pub told : {T : Type 0} → Result T Refusal → Result T Refused
told (Ok v) = Ok v
told (Err e) = Err (refusal_of e)

abbrev pub told_sheet : {T : Type 0} → Result T SheetFault → Result T Refused
told_sheet (Ok v) = Ok v
told_sheet (Err e) = Err (sheet_of e)

abbrev pub told_storage : {T : Type 0} → Result T StorageFault → Result T Refused
told_storage (Ok v) = Ok v
told_storage (Err e) = Err (storage_of e)

-- The name of a layer.
abbrev pub layer_text : Layer → List ℕ
layer_text layer.Sheet = codes "sheet"
layer_text layer.Storage = codes "storage"

-- What a refusal carries, as it is printed: its number, its place and its layer.
abbrev pub refused_text : Refused → List ℕ
refused_text r = codes "refused " ++ (decimal r.number ++ (codes " at " ++ (decimal r.place ++ (codes " by " ++ layer_text r.layer))))
