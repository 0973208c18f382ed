-- What is answered to a file: by its last bytes, and then by its windows. Assumes nothing.
use Rattle.std.specs.Prelude.{Err, Ok, Result}
use mathlib.Core.Path.{◌≡◌, refl, sym, ap, ◌∙◌}
use mathlib.Core.Bool.{Bool, true, false, cond}
use mathlib.Core.List.{List, ◌++◌}
use Prim.Native.Nat.{ℕ, ◌-◌, ◌≤◌, ◌<◌}
use native.Mathlib.Omega.{arith}
use lib.Dec.{ltb}
use lib.ListN.{length, replicate, length-append, length-replicate}
use lib.Seq.{drop_at}
use borrow.Author.Tests.{ltb-true, ltb-false}
use Rattle.dayfile.specs.DayFile.{version1, Sound, trailer_size}
use Rattle.dayfile.specs.Opening.{offsets_in, open_by, agree, lines_part, index_part, or_wrong_lines, tail_of, open_of}
use Rattle.dayfile.specs.declared.Trailer.{Trailer}
use Rattle.dayfile.specs.declared.Contents.{Contents}
use Rattle.dayfile.proofs.Files.{sound_1, eight_bytes}
use Rattle.dayfile.proofs.Opening.{too_short, no_day}
use Rattle.keeper.specs.Lists.{Judged, Told}
use Rattle.dayfile.specs.declared.NotOpened.TheVariants.{TooShort, UnknownVersion, WrongLength, WrongLines}
use Rattle.dayfile.specs.declared.NotOpened.{NotOpened}

-- ---- by the last bytes

pub end_short : (size : ℕ) (tail : List ℕ) → size < 8 → Err TooShort ≡ open_by version1 size tail
end_short size tail h = too_short version1 size tail 8 (sym eight_bytes) h

module _ (t : Trailer) (e : t ≡ version1) (n : ℕ) (tail : List ℕ) where
  pub end_long : length tail ≡ 8 → Sound t × (trailer_size t ≤ n → length tail ≡ trailer_size t)
  end_long long = rw e (sound_1, λ h. long ∙ sym eight_bytes)

  pub end_told : {r : (Result Contents NotOpened)} (size : ℕ) → n ≡ size → r ≡ open_by t n tail → r ≡ open_by version1 size tail
  end_told size same q = q ∙ rw (e, same)

-- some file of this size ends in these bytes
pub told_by_lem : {r : (Result Contents NotOpened)} (size : ℕ) (tail : List ℕ) → length tail ≡ 8 → r ≡ open_by version1 size tail → Told size r
told_by_lem {r = r} size tail e told = go (ltb size 8) refl
  where
    go : (b : Bool) → ltb size 8 ≡ b → Told size r
    go true q =
        let file : List ℕ = replicate size 0 in
        let same : length file ≡ size = length-replicate size 0 in
        let h = ltb-true size 8 q in
        record { file = file; sized = same; tells = told ∙ sym (end_short size tail h) ∙ end_short (length file) (tail_of version1 file) (omega arith) }
    go false q =
        let front : List ℕ = replicate (size - 8) 0 in
        let long : length front ≡ size - 8 = length-replicate (size - 8) 0 in
        let file = front ++ tail in
        let same : length file ≡ size = length-append front tail ∙ omega (arith, ltb-false size 8 q) in
        let last : tail_of version1 file ≡ tail = drop_at front tail (length file - trailer_size version1) (omega (arith, eight_bytes)) in
        record { file = file; sized = same; tells = told ∙ ap (λ (n : ℕ). open_by version1 n tail) (sym same) ∙ ap (open_by version1 (length file)) (sym last) }

-- 20 to 22 are `open`'s answers
pub told_judged : {size : ℕ} {r : (Result Contents NotOpened)} {e : NotOpened} → Told size r → r ≡ Err e → Judged size r
told_judged t h = record { file = t.file; sized = t.sized; answer = no_day (record { by = t.tells }) h }

-- what opens is told by its last bytes
module _ {size : ℕ} {c : Contents} (j : Judged size (Ok c)) where
  pub judged_told : Told size (Ok c)
  unfolding open_of
  judged_told = record { file = j.file; sized = j.sized; tells = go (open_by version1 (length j.file) (tail_of version1 j.file)) j.answer }
    where
      go : (o : Result Contents NotOpened) → Ok c ≡ or_wrong_lines o j.file → Ok c ≡ o
      go (Ok d) e = by (agree (lines_part d j.file) (offsets_in (index_part d j.file))) e
        where
          by : (b : Bool) → ◌≡◌ {A = Result Contents NotOpened} (Ok c) (cond b (Ok d) (Err WrongLines)) → ◌≡◌ {A = Result Contents NotOpened} (Ok c) (Ok d)
          by true q = q
          by false q = cc
      go (Err TooShort) e = cc
      go (Err UnknownVersion) e = cc
      go (Err WrongLength) e = cc
      go (Err WrongLines) e = cc
