-- Writing the texts of a row of items, one after another.
use Rattle.std.proofs.Common.{◌≡◌, ◌∙◌, ◌+◌, ◌++◌, ℕ, suc, List, length, take, drop, Some, sym, ap, subst, add-one}
use Rattle.std.specs.Prelude.{flat_map, slice_get}
use Rattle.list_laws.proofs.FrontParts.{made-next, made-parts, made-whole}
use Rattle.desk_io.specs.Files.{Bytes}
use Rattle.desk_io.specs.ShelfState.{ShelfState, FailsToAppend}
use Rattle.desk_io.specs.Writing.{PassesOn}
use Rattle.desk_io.proofs.WritingLaws.{fails-longer, passes-then-fails, passes-then-passes}

module _ {T : Type 0} (f : T → Bytes) (xs : List T) (i : ℕ) (x : T)
    (at : slice_get xs i ≡ Some x) where
  -- the item at a place is written behind the front ones
  pub row-passes : {a b c : ShelfState} {w y z : Bytes} → PassesOn a w (flat_map f (take i xs)) b y
      → PassesOn b y (f x) c z → PassesOn a w (flat_map f (take (i + 1) xs)) c z
  row-passes p q = rw (add-one, made-next f xs i x at) (passes-then-passes p q)

  -- the item at a place fails to be written behind the front ones
  pub row-fails : {a b c : ShelfState} {w y : Bytes} → PassesOn a w (flat_map f (take i xs)) b y
      → FailsToAppend b (y ++ f x) c → FailsToAppend a (w ++ flat_map f xs) c
  row-fails {a} {b} {c} {w} {y} p q =
      let front : Bytes = flat_map f (take i xs) in
      let rest : Bytes = flat_map f (drop (suc i) xs) in
      let cut : FailsToAppend a (w ++ (front ++ f x)) c = passes-then-fails y (f x) p q in
      let more : FailsToAppend a (w ++ ((front ++ f x) ++ rest)) c =
      fails-longer w (front ++ f x) rest cut in
      let whole : (front ++ f x) ++ rest ≡ flat_map f xs =
      ap (λ (t : Bytes). t ++ rest) (sym (made-next f xs i x at)) ∙ made-parts f xs (suc i) in
      subst (λ (t : Bytes). FailsToAppend a (w ++ t) c) whole more

-- all items are written
pub row-ends : {T : Type 0} (f : T → Bytes) (xs : List T) (i : ℕ) {a b : ShelfState} {w y : Bytes}
    → i ≡ length xs → PassesOn a w (flat_map f (take i xs)) b y → PassesOn a w (flat_map f xs) b y
row-ends f xs i {a} {b} {w} {y} e p =
    subst (λ (t : Bytes). PassesOn a w t b y) (made-whole f xs i e) p
