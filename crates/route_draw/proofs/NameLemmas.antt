-- Names of nets along a tree.
use Rattle.std.proofs.Common.{◌≡◌, Bool, true, false, List, [], ◌∷◌, refl, sym, ap, ap₂, ◌∙◌}
use Rattle.std.specs.Prelude.{◌||◌, bytes_eq, map}
use Rattle.std.specs.BTreeMap.{is_at}
use Rattle.std.specs.BTreeSet.{insert_key}
use Rattle.std.specs.Borrow.{Bor}
use Rattle.std.specs.Cmp.Lexicographic.{slice_cmp}
use Rattle.std.specs.List.{list_any}
use Rattle.std.specs.Ordering.{nat_cmp, is_eq, match_ordering}
use Rattle.std.specs.declared.cmp.Ordering.{Ordering}
use Rattle.std.specs.declared.cmp.Ordering.TheVariants.{Less, Equal, Greater}
use Rattle.std.proofs.lemmas.Map.Text.{is_eq-slice_cmp}
use Rattle.std.proofs.lemmas.Slice.Eq.{bytes_eq-Decides}
use Rattle.fpga_text.specs.Bytes.{Bytes}
use Rattle.fpga_text.specs.Said.{has_text}

-- the bytes of names that are lent
abbrev pub bytes_of : List (Bor Bytes) → List Bytes
bytes_of names = map (λ (name : Bor Bytes). name.now) names

-- the test of two names goes both ways
other_way : (a b : Bytes) → bytes_eq a b ≡ bytes_eq b a
other_way a b = go (bytes_eq a b) (bytes_eq b a) refl refl
  where
    go : (x y : Bool) → bytes_eq a b ≡ x → bytes_eq b a ≡ y → x ≡ y
    go true true p q = refl
    go false false p q = refl
    go true false p q =
        absurd (let e : bytes_eq b a ≡ true =
        (bytes_eq-Decides b a).1 (sym ((bytes_eq-Decides a b).0 p)) in cc)
    go false true p q =
        absurd (let e : bytes_eq a b ≡ true =
        (bytes_eq-Decides a b).1 (sym ((bytes_eq-Decides b a).0 q)) in cc)

-- a name is among them where the tree has it
pub found-name : (names : List (Bor Bytes)) (name : Bytes)
    → list_any (is_at (λ (k : Bor Bytes). slice_cmp nat_cmp name k.now)) names
    ≡ has_text (bytes_of names) name
found-name [] name = refl
found-name (k ∷ ks) name =
    ap₂ (λ (a b : Bool). a || b) (is_eq-slice_cmp name k.now ∙ other_way name k.now)
    (found-name ks name)

-- the order of lent names
abbrev pub by_bytes : Bor Bytes → Bor Bytes → Ordering
by_bytes a b = slice_cmp nat_cmp a.now b.now

or-turn : (a b : Bool) → (a || b) ≡ (b || a)
or-turn true true = refl
or-turn true false = refl
or-turn false true = refl
or-turn false false = refl

or-next : (a b c : Bool) → (a || (b || c)) ≡ ((a || b) || c)
or-next true b c = refl
or-next false b c = refl

or-twice : (a b : Bool) → (a || b) ≡ ((a || b) || a)
or-twice true b = refl
or-twice false true = refl
or-twice false false = refl

-- with one name more the others are among them as before
pub gains-name : (names : List (Bor Bytes)) (name : Bor Bytes) (other : Bytes)
    → has_text (bytes_of (insert_key by_bytes names name)) other
    ≡ (has_text (bytes_of names) other || bytes_eq name.now other)
gains-name [] name other = or-turn (bytes_eq name.now other) false
gains-name (k ∷ ks) name other =
    go (by_bytes name k) refl (gains-name ks name other)
  where
    go : (o : Ordering) → by_bytes name k ≡ o
        → has_text (bytes_of (insert_key by_bytes ks name)) other
        ≡ (has_text (bytes_of ks) other || bytes_eq name.now other)
        → has_text
        (bytes_of (match_ordering o (name ∷ k ∷ ks) (k ∷ ks) (k ∷ insert_key by_bytes ks name)))
        other ≡ (has_text (bytes_of (k ∷ ks)) other || bytes_eq name.now other)
    go Less is later = or-turn (bytes_eq name.now other) (has_text (bytes_of (k ∷ ks)) other)
    go Equal is later =
        let same : name.now ≡ k.now = (bytes_eq-Decides name.now k.now).0
        (sym (is_eq-slice_cmp name.now k.now) ∙ ap is_eq is) in
        or-twice (bytes_eq k.now other) (has_text (bytes_of ks) other)
        ∙ ap (λ (n : Bytes). has_text (bytes_of (k ∷ ks)) other || bytes_eq n other) (sym same)
    go Greater is later =
        ap (λ (b : Bool). bytes_eq k.now other || b) later
        ∙ or-next (bytes_eq k.now other) (has_text (bytes_of ks) other)
        (bytes_eq name.now other)
