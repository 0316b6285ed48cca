-- The operations: each with its number, its name and the classes that admit it, in one table.
use Rattle.std.specs.Prelude.{ℕ, Bool, true, false, cond, ◌&&◌, List, [], ◌∷◌, ◌++◌, Some, None, codes, Option, ◌==◌, nat_lt}
use Rattle.sheet.specs.declared.operation.Format.{Format}
use Rattle.sheet.specs.declared.operation.Format.TheVariants.{Srs, Rr, Rs}
use Rattle.sheet.specs.declared.operation.Operation.{Operation}
use Rattle.sheet.specs.declared.operation.Operation.TheVariants.{L, Lh, A, Ah, S, Sh, C, Ch, N, O, X, St, Sth, La, Lxa, Bc, Bal, Bct, Bo, Sll, Srl, Sra, Ahi, Lhi, Svc, Lps, Ispb, Pc}

-- What the table says of an operation.
pub record Row : Type 0 where
  pub number : ℕ
  pub name : List ℕ
  pub srs : Bool
  pub rr : Bool
  pub rs : Bool

abbrev pub row : ℕ → List ℕ → Bool → Bool → Bool → Row
row n s a b c = record { number = n; name = s; srs = a; rr = b; rs = c }

-- The table: number, name, and whether the operation may stand in SRS, RR and RS.
abbrev pub row_of : Operation → Row
row_of L = row 1 (codes "L") true true true
row_of Lh = row 2 (codes "LH") true false true
row_of A = row 3 (codes "A") true true true
row_of Ah = row 4 (codes "AH") true false true
row_of S = row 5 (codes "S") true true true
row_of Sh = row 6 (codes "SH") true false true
row_of C = row 7 (codes "C") true true true
row_of Ch = row 8 (codes "CH") true false true
row_of N = row 10 (codes "N") true true true
row_of O = row 11 (codes "O") true true true
row_of X = row 12 (codes "X") true true true
row_of St = row 13 (codes "ST") true false true
row_of Sth = row 14 (codes "STH") true false true
row_of La = row 15 (codes "LA") true false true
row_of Lxa = row 16 (codes "LXA") false false true
row_of Bc = row 17 (codes "BC") false true true
row_of Bal = row 18 (codes "BAL") false true true
row_of Bct = row 19 (codes "BCT") false true true
row_of Bo = row 20 (codes "BO") false true true
row_of Sll = row 23 (codes "SLL") true false false
row_of Srl = row 24 (codes "SRL") true false false
row_of Sra = row 25 (codes "SRA") true false false
row_of Ahi = row 26 (codes "AHI") false true false
row_of Lhi = row 27 (codes "LHI") false true false
row_of Svc = row 31 (codes "SVC") false false true
row_of Lps = row 32 (codes "LPS") false false true
row_of Ispb = row 34 (codes "ISPB") false false true
row_of Pc = row 35 (codes "PC") false true false

abbrev pub number_of : Operation → ℕ
number_of o = (row_of o).number

abbrev pub name_of : Operation → List ℕ
name_of o = (row_of o).name

-- The formats in which the table lets an operation stand.
abbrev pub formats_where : Bool → Bool → Bool → List Format
formats_where a b c = cond a (Srs ∷ []) [] ++ (cond b (Rr ∷ []) [] ++ cond c (Rs ∷ []) [])

abbrev pub formats_of : Operation → List Format
formats_of o = formats_where (row_of o).srs (row_of o).rr (row_of o).rs

-- Every operation, in the order of the numbers.
abbrev pub operations : List Operation
operations =
    L ∷ Lh ∷ A ∷ Ah ∷ S ∷ Sh ∷ C ∷ Ch ∷ N ∷ O ∷ X ∷ St ∷ Sth ∷ La ∷ Lxa ∷ Bc ∷ Bal ∷ Bct ∷ Bo ∷ Sll ∷ Srl ∷ Sra ∷ Ahi ∷ Lhi ∷ Svc ∷ Lps ∷ Ispb ∷ Pc ∷ []

-- The first of some operations that has a number.
abbrev pub among : List Operation → ℕ → Option Operation
among [] n = None
among (o ∷ os) n = cond (n == number_of o) (Some o) (among os n)

-- The operation with a number, or none.
unfoldable pub operation_of : ℕ → Option Operation
operation_of n = among operations n

-- The format of a class: 0 is SRS, 1 and 2 are RR, 3 and 4 are RS.
abbrev pub format_of_class : ℕ → Option Format
format_of_class c = cond (c == 0) (Some Srs) (cond (nat_lt c 3) (Some Rr) (cond (nat_lt c 5) (Some Rs) None))

-- Whether an operation may stand in a class: 0 is SRS, 1 and 2 are RR, 3 and 4 are RS.
abbrev pub admits : Operation → ℕ → Bool
admits o c = cond (c == 0) (row_of o).srs (cond (nat_lt c 3) (row_of o).rr (nat_lt c 5 && (row_of o).rs))
