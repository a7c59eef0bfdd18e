-- What calls of a desk say of the file that is read, over plain values.
use Rattle.std.proofs.Common.{◌≡◌, ◌∙◌, ◌++◌, ◌+◌, ◌≤◌, [], ℕ, Option, Some, None, true, is_some, option_map, length, take, drop, refl, sym, ap, arith, append-nil}
use Rattle.std.proofs.lemmas.Grind.{common_steps}
use Rattle.std.proofs.lemmas.List.{length-take-le, take-append-drop, take-append-le}
use Rattle.std.proofs.Math.Seq.{take-add}
use Rattle.std.specs.Option.{ForSome, option_and_then}
use Rattle.std.specs.FinMap.{get, contains_key}
use Rattle.desk_io.specs.Files.{Bytes, FileMap}
use Rattle.desk_io.specs.DeskState.{DeskState, after_start, after_read}

-- a value that is there
the_value : {X : Type 0} (o : Option X) → is_some o ≡ true → (x : X) × (o ≡ Some x)
the_value None h = cc
the_value (Some x) h = (x, refl)

-- so many bytes of a file that was started were read
pub left_of : (s : DeskState) (name : Bytes) (k : ℕ) (fs : FileMap) (file : Bytes)
    → s.files ≡ Some fs → get fs name ≡ Some file
    → (after_read (after_start s name) k).left ≡ Some (drop k file)
left_of s name k fs file told there =
    ap (λ (o : Option FileMap). option_map (drop k) (option_and_then (λ files. get files name) o))
    told ∙ ap (option_map (drop k)) there

drops : (m n : ℕ) (o : Option Bytes)
    → option_map (drop n) (option_map (drop m) o) ≡ option_map (drop (m + n)) o
drops m n None = refl
drops m n (Some bytes) = ap Some (grind (arith, common_steps))

-- to read twice is to read as many bytes at once
pub after_read-after_read : (s : DeskState) (m n : ℕ)
    → after_read (after_read s m) n ≡ after_read s (m + n)
after_read-after_read s m n = ap (λ (o : Option Bytes). record s { left = o }) (drops m n s.left)

-- a front of a file, and the next bytes behind it
pub front_grows : (k n : ℕ) (file items buffer tail : Bytes) → items ≡ take k file
    → n ≤ length buffer → take n buffer ≡ take n (drop k file)
    → items ++ take n (buffer ++ tail) ≡ take (k + n) file
front_grows k n file items buffer tail e within next =
    rw (take-append-le n buffer tail within, e, next) (sym (take-add k n file))

-- a front of a buffer, whatever stands behind the buffer
pub length-front : (n : ℕ) (buffer tail : Bytes) → n ≤ length buffer
    → length (take n (buffer ++ tail)) ≡ n
length-front n buffer tail within =
    rw (take-append-le n buffer tail within) (length-take-le n buffer within)

-- nothing is left of the file: what was read is the whole
pub whole_is_read : (desk s : DeskState) (name items : Bytes) (k : ℕ) (fs : FileMap)
    → s.files ≡ Some fs → contains_key fs name ≡ true
    → desk ≡ after_read (after_start s name) k
    → ForSome (after_start s name).left (λ file. items ≡ take k file)
    → ForSome desk.left (λ rest. rest ≡ [])
    → get fs name ≡ Some items
whole_is_read desk s name items k fs told has now front none =
    let there = the_value _ has in
    let left : (after_read (after_start s name) k).left ≡ Some (drop k there.0) =
    left_of s name k fs there.0 told there.1 in
    let ended : drop k there.0 ≡ [] = none _ (ap (λ (d : DeskState). d.left) now ∙ left) in
    let is : items ≡ take k there.0 =
    front there.0 (ap (option_and_then (λ files. get files name)) told ∙ there.1) in
    there.1 ∙ ap Some (sym (take-append-drop k there.0)
    ∙ ap (λ (l : Bytes). take k there.0 ++ l) ended ∙ append-nil _ ∙ sym is)
