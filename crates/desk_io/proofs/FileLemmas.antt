-- Files by name: to insert what is there, and to insert twice; and counts of faults.
use Rattle.std.proofs.Common.{◌≡◌, ◌∙◌, ℕ, Bool, true, false, cond, Option, Some, refl, sym, ap, subst, inl, inr, arith}
use Rattle.std.specs.declared.cmp.Ordering.{Ordering}
use Rattle.std.specs.declared.cmp.Ordering.TheVariants.{Less, Equal, Greater}
use Rattle.std.specs.Ordering.{nat_cmp, eq_by_cmp, is_eq}
use Rattle.std.specs.Cmp.{tied_itself}
use Rattle.std.specs.Cmp.Lexicographic.{slice_cmp, nat_list_cmp_total}
use Rattle.std.specs.FinMap.{get, insert, get-insert, same_map, slice_cmp-IsAntisymmetric, nat_cmp-IsAntisymmetric}
use Rattle.desk_io.specs.Files.{Bytes, FileMap, HasRisen, RisesByOne}

-- whether two names tie in the order of names
abbrev pub same_name : Bytes → Bytes → Bool
same_name q k = eq_by_cmp (slice_cmp nat_cmp) q k

equal_of : (o : Ordering) → is_eq o ≡ true → o ≡ Equal
equal_of Less h = cc
equal_of Equal h = refl
equal_of Greater h = cc

-- names that tie are the same
pub same_name-eq : (q k : Bytes) → same_name q k ≡ true → q ≡ k
same_name-eq q k h = slice_cmp-IsAntisymmetric nat_cmp-IsAntisymmetric q k (equal_of _ h)

-- a name ties with itself
pub same_name-refl : (q : Bytes) → same_name q q ≡ true
same_name-refl q = ap is_eq (tied_itself nat_list_cmp_total q)

-- maps that answer alike are the same
pub alike : (m n : FileMap) → ((q : Bytes) → get m q ≡ get n q) → m ≡ n
alike m n is =
    same_map nat_list_cmp_total (slice_cmp-IsAntisymmetric nat_cmp-IsAntisymmetric) m n is

-- a file that was inserted is there
pub get-inserted : (m : FileMap) (k v : Bytes) → get (insert m k v) k ≡ Some v
get-inserted m k v = get-insert nat_list_cmp_total m k v k
    ∙ ap (λ b. cond b (Some v) (get m k)) (same_name-refl k)

by_test : (b : Bool) (q k v : Bytes) (r : Option Bytes) → same_name q k ≡ b → (q ≡ k
    → r ≡ Some v) → cond b (Some v) r ≡ r
by_test true q k v r h f = sym (f (same_name-eq q k h))
by_test false q k v r h f = refl

-- to insert what is there changes nothing
pub insert_there : (m : FileMap) (k v : Bytes) → get m k ≡ Some v → insert m k v ≡ m
insert_there m k v at = alike _ _ (λ q.
    get-insert nat_list_cmp_total m k v q
    ∙ by_test _ q k v (get m q) refl (λ e. subst (λ (t : Bytes). get m t ≡ Some v) (sym e) at))

twice : (b : Bool) (v w : Bytes) (r : Option Bytes)
    → cond b (Some w) (cond b (Some v) r) ≡ cond b (Some w) r
twice true v w r = refl
twice false v w r = refl

-- of two files inserted under one name the second counts
pub insert-insert : (m : FileMap) (k v w : Bytes) → insert (insert m k v) k w ≡ insert m k w
insert-insert m k v w = alike _ _ (λ q.
    get-insert nat_list_cmp_total (insert m k v) k w q
    ∙ ap (cond (same_name q k) (Some w)) (get-insert nat_list_cmp_total m k v q)
    ∙ twice (same_name q k) v w (get m q)
    ∙ sym (get-insert nat_list_cmp_total m k w q))

-- a count that went up by one has risen
pub has_risen : (before now : ℕ) → RisesByOne before now → HasRisen before now
has_risen before now (inl is) = record { later = omega (arith, is); more = inl (omega (arith, is)) }
has_risen before now (inr end) = record { later = omega (arith, end.1); more = inr (end.1 ∙ end.0) }
