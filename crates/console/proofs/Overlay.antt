-- A part of a list put in the place of another, as a `Vec` holds it when the part is given back.
use Rattle.std.proofs.Common.{◌≡◌, ℕ, ◌+◌, ◌-◌, ◌≤◌, List, ◌++◌, length, take, drop, refl, ◌∙◌, append_assoc, arith, length-append, length-drop}
use borrow.Rule.Slice.PartMut.{put_mid}
use Rattle.std.proofs.lemmas.List.{length-take, take_all, take_at}
use Rattle.std.proofs.lemmas.Slice.{put_mid-paste}

pub overlay_is : (items d last raw : List ℕ) (from k len : ℕ) → d ≡ items → last ≡ raw → k ≡ from + length raw - from → len ≡ length items → from + length raw ≤ len
    → take len (put_mid from k d last ++ drop (length (put_mid from k d last)) items) ≡ take from items ++ (raw ++ drop (from + length raw) items)
overlay_is items d last raw from k len e r q l h =
    let whole : take (length raw) raw ≡ raw = take_all (length raw) raw (omega arith) in
    let new = take from items ++ (raw ++ drop (from + length raw) items) in
    let mid : put_mid from k d last ≡ new = put_mid-paste from k d last raw (length raw) r (omega arith) refl ∙ rw (whole, e, append_assoc) refl in
    let size : length new ≡ len = simp (length-append, length-take, length-drop) (omega arith) in
    rw mid (take_at new (drop (length new) items) len size)
