-- Look-ups in a table of named files.
use Rattle.std.proofs.Common.{◌≡◌, ◌≢◌, ◌∙◌, ◌+◌, ◌<◌, ℕ, zero, suc, Bool, true, false, cond, List, [], ◌∷◌, ◌++◌, length, take, slice_get, slice_set, get_or, Option, Some, None, option_map, refl, sym, ap, subst, arith, add-one}
use Rattle.std.proofs.lemmas.Grind.{common_steps}
use Rattle.std.specs.Ordering.{nat_cmp}
use Rattle.std.specs.Str.{bytes_eq}
use Rattle.std.proofs.lemmas.Option.{slice_get_read}
use Rattle.std.proofs.lemmas.Map.Text.{is_eq-slice_cmp}
use Rattle.std.specs.Cmp.Lexicographic.{slice_cmp, nat_list_cmp_total}
use Rattle.std.specs.FinMap.{find, from_entries, get, insert, get-from_entries, get-insert, same_map, from_entries_push, slice_cmp-IsAntisymmetric, nat_cmp-IsAntisymmetric}
use Rattle.std.specs.Prelude.{Vec, string_bytes}
use Rattle.std.specs.Global.{Global}
use Rattle.desk_io.specs.Files.{FileMap}
use Rattle.desk_io.proofs.FileLemmas.{same_name, same_name-eq, same_name-refl}
use Rattle.desk_io.specs.Table.{Named, entry_of, entries_of, table_map, bytes_at, name_at, IsFirst}

abbrev Entries : Type 0
Entries = List (List ℕ × List ℕ)

abbrev pub find_name : List ℕ → Entries → Option (List ℕ)
find_name q es = find (slice_cmp nat_cmp) q es

tail_none : (b : Bool) (x : List ℕ) (r s : Option (List ℕ)) → cond b (Some x) r ≡ None
    → (r ≡ None → s ≡ None) → cond b (Some x) s ≡ None
tail_none true x r s h f = cc
tail_none false x r s h f = f h

tail_same : (b : Bool) (x y : List ℕ) (r s : Option (List ℕ)) → cond b (Some x) r ≡ None
    → (r ≡ None → s ≡ Some y) → cond b (Some x) s ≡ Some y
tail_same true x y r s h f = cc
tail_same false x y r s h f = f h

take_next : (es : Entries) (i : ℕ) (q : List ℕ) (e : List ℕ × List ℕ) → slice_get es i ≡ Some e
    → find_name q (take i es) ≡ None → same_name q e.0 ≡ false
    → find_name q (take (suc i) es) ≡ None
take_next [] i q e at none apart = cc
take_next (x ∷ es) zero q e at none apart = let same : x ≡ e = cc in rw (same, apart) refl
take_next (x ∷ es) (suc i) q e at none apart =
    tail_none _ _ _ _ none (λ h. take_next es i q e at h apart)

-- a name that the first i have not, and the next has not
pub find-take_next : (es : Entries) (i : ℕ) (q : List ℕ) (e : List ℕ × List ℕ)
    → slice_get es i ≡ Some e → find_name q (take i es) ≡ None → same_name q e.0 ≡ false
    → find_name q (take (i + 1) es) ≡ None
find-take_next es i q e at none apart = rw add-one (take_next es i q e at none apart)

-- the first entry with a name is the one that is found
pub find-first : (es : Entries) (i : ℕ) (e : List ℕ × List ℕ) → slice_get es i ≡ Some e
    → find_name e.0 (take i es) ≡ None → find_name e.0 es ≡ Some e.1
find-first [] i e at none = cc
find-first (x ∷ es) zero e at none = let same : x ≡ e = cc in rw (same, same_name-refl e.0) refl
find-first (x ∷ es) (suc i) e at none = tail_same _ _ _ _ _ none (λ h. find-first es i e at h)

shadowed : (b : Bool) (x y : List ℕ) (r : Option (List ℕ))
    → cond b (Some x) r ≡ cond b (Some x) (cond b (Some y) r)
shadowed true x y r = refl
shadowed false x y r = refl

swapped : (a b : Bool) (x y : List ℕ) (r : Option (List ℕ)) → (a ≡ true → b ≡ true → ⊥)
    → cond a (Some x) (cond b (Some y) r) ≡ cond b (Some y) (cond a (Some x) r)
swapped true true x y r h = absurd (h refl refl)
swapped true false x y r h = refl
swapped false b x y r h = refl

not_found : (b : Bool) (x : List ℕ) (r : Option (List ℕ)) → cond b (Some x) r ≡ None
    → (b ≡ false) × (r ≡ None)
not_found true x r h = cc
not_found false x r h = (refl, h)

-- the first entry with a name takes other bytes
pub find-set : (es : Entries) (i : ℕ) (k x v q : List ℕ) → slice_get es i ≡ Some (k, x)
    → find_name k (take i es) ≡ None
    → find_name q (slice_set es i (k, v)) ≡ cond (same_name q k) (Some v) (find_name q es)
find-set [] i k x v q at none = cc
find-set (y ∷ es) zero k x v q at none =
    let same : y ≡ (k, x) = cc in rw same (shadowed (same_name q k) v x (find_name q es))
find-set (y ∷ es) (suc i) k x v q at none =
    let parts = not_found _ _ _ none in
    ap (λ r. cond (same_name q y.0) (Some y.1) r) (find-set es i k x v q at parts.1)
    ∙ swapped (same_name q y.0) (same_name q k) y.1 v (find_name q es) (λ a b.
    let e : q ≡ k = same_name-eq q k b in
    let f : same_name k y.0 ≡ true = subst (λ (t : List ℕ). same_name t y.0 ≡ true) e a in
    let bad : true ≡ false = sym f ∙ parts.0 in cc)

-- so the map has them
pub map-set : (es : Entries) (i : ℕ) (k x v : List ℕ) → slice_get es i ≡ Some (k, x)
    → find_name k (take i es) ≡ None
    → from_entries {R = slice_cmp nat_cmp} (slice_set es i (k, v)) ≡ insert (from_entries es) k v
map-set es i k x v at none =
    same_map nat_list_cmp_total (slice_cmp-IsAntisymmetric nat_cmp-IsAntisymmetric) _ _ (λ q.
    get-from_entries nat_list_cmp_total _ q ∙ find-set es i k x v q at none
    ∙ sym (get-insert nat_list_cmp_total _ k v q
    ∙ ap (cond (same_name q k) (Some v)) (get-from_entries nat_list_cmp_total es q)))

-- ---- the same of a table

pub get-entries_of : (files : List Named) (i : ℕ) (f : Named) → slice_get files i ≡ Some f
    → slice_get (entries_of files) i ≡ Some (entry_of f)
get-entries_of [] i f at = cc
get-entries_of (x ∷ files) zero f at =
    let same : x ≡ f = cc in ap (λ (g : Named). Some (entry_of g)) same
get-entries_of (x ∷ files) (suc i) f at = get-entries_of files i f at

pub length-entries_of : (files : List Named) → length (entries_of files) ≡ length files
length-entries_of [] = refl
length-entries_of (x ∷ files) = ap suc (length-entries_of files)

-- a name that no file of the table has
pub map-absent : (files : List Named) (q : List ℕ)
    → find_name q (take (length files) (entries_of files)) ≡ None → get (table_map files) q ≡ None
map-absent files q h =
    let all : take (length files) (entries_of files) ≡ entries_of files =
    rw (← length-entries_of files) (grind (arith, common_steps)) in
    get-from_entries nat_list_cmp_total _ q ∙ sym (ap (find_name q) all) ∙ h

-- the file at the first position of its name is what the map has
pub map-first : (files : List Named) (i : ℕ) (f : Named) → slice_get files i ≡ Some f
    → find_name (string_bytes f.0) (take i (entries_of files)) ≡ None
    → get (table_map files) (string_bytes f.0) ≡ Some f.1.items
map-first files i f at none = get-from_entries nat_list_cmp_total _ _
    ∙ find-first _ i _ (get-entries_of files i f at) none

pub at_index : (files : List Named) (i : ℕ) (f : Named) → i < length files
    → f ≡ get_or files i f → slice_get files i ≡ Some f
at_index files i f inside is = slice_get_read files (length files) i f refl inside is

pub none_yet : (files : List Named) (i : ℕ) (q : List ℕ) (f : Named)
    → slice_get files i ≡ Some f → find_name q (take i (entries_of files)) ≡ None
    → bytes_eq q (string_bytes f.0) ≡ false → find_name q (take (i + 1) (entries_of files)) ≡ None
none_yet files i q f at none apart =
    find-take_next _ i q _ (get-entries_of files i f at) none
    (is_eq-slice_cmp q (string_bytes f.0) ∙ apart)

pub same_bytes : (q k : List ℕ) → bytes_eq q k ≡ true → q ≡ k
same_bytes q k h = same_name-eq q k (is_eq-slice_cmp q k ∙ h)

pub the_name : (files : List Named) (i : ℕ) (q : List ℕ) (f : Named)
    → slice_get files i ≡ Some f → q ≡ string_bytes f.0 → name_at files (Some i) ≡ Some q
the_name files i q f at e = rw (at, e) refl

pub the_first : (files : List Named) (i : ℕ) (q : List ℕ) (f : Named)
    → slice_get files i ≡ Some f → q ≡ string_bytes f.0
    → find_name q (take i (entries_of files)) ≡ None → IsFirst files (Some i)
the_first files i q f at e none = λ p same g there.
    let i_is : i ≡ p = cc in
    let f_is : f ≡ g =
    (let h : slice_get files p ≡ Some f =
    subst (λ (n : ℕ). slice_get files n ≡ Some f) i_is at in let both : Some f ≡ Some g =
    sym h ∙ there in cc) in
    subst (λ (n : ℕ). find_name (string_bytes g.0) (take n (entries_of files)) ≡ None) i_is
    (subst (λ (t : List ℕ). find_name t (take i (entries_of files)) ≡ None) (e
    ∙ ap (λ (x : Named). string_bytes x.0) f_is) none)

-- a position that is the first of a name, and the file there
pub found_at : (files : List Named) (p : ℕ) (q : List ℕ) (f : Named)
    → slice_get files p ≡ Some f → name_at files (Some p) ≡ Some q → IsFirst files (Some p)
    → get (table_map files) q ≡ Some f.1.items
found_at files p q f at name first =
    let named : Some (string_bytes f.0) ≡ Some q =
    ap (option_map (λ (x : Named). string_bytes x.0)) (sym at) ∙ name in
    let same : string_bytes f.0 ≡ q = cc in
    subst (λ (t : List ℕ). get (table_map files) t ≡ Some f.1.items) same
    (map-first files p f at (first p refl f at))

-- ---- a file of the table with other bytes

entries-set : (files : List Named) (p : ℕ) (g : Named)
    → entries_of (slice_set files p g) ≡ slice_set (entries_of files) p (entry_of g)
entries-set [] p g = refl
entries-set (x ∷ files) zero g = refl
entries-set (x ∷ files) (suc p) g = ap (λ (es : Entries). entry_of x ∷ es) (entries-set files p g)

take-set : (es : Entries) (p : ℕ) (e : List ℕ × List ℕ) → take p (slice_set es p e) ≡ take p es
take-set [] p e = refl
take-set (x ∷ es) zero e = refl
take-set (x ∷ es) (suc p) e = ap (λ (t : Entries). x ∷ t) (take-set es p e)

set_same : (es : Entries) (p : ℕ) (e : List ℕ × List ℕ) → slice_get es p ≡ Some e
    → slice_set es p e ≡ es
set_same [] p e at = refl
set_same (x ∷ es) zero e at =
    let same : x ≡ e = cc in ap (λ (y : List ℕ × List ℕ). y ∷ es) (sym same)
set_same (x ∷ es) (suc p) e at = ap (λ (t : Entries). x ∷ t) (set_same es p e at)

get-set : (files : List Named) (p : ℕ) (f g : Named) → slice_get files p ≡ Some f
    → slice_get (slice_set files p g) p ≡ Some g
get-set [] p f g at = cc
get-set (x ∷ files) zero f g at = refl
get-set (x ∷ files) (suc p) f g at = get-set files p f g at

pub written-map : (files : List Named) (p : ℕ) (f : Named) (v : Vec ℕ Global)
    → slice_get files p ≡ Some f → IsFirst files (Some p)
    → table_map (slice_set files p (f.0, v)) ≡ insert (table_map files) (string_bytes f.0) v.items
written-map files p f v at first =
    ap (λ (es : Entries). from_entries {R = slice_cmp nat_cmp} es) (entries-set files p (f.0, v))
    ∙ map-set (entries_of files) p (string_bytes f.0) f.1.items v.items
    (get-entries_of files p f at) (first p refl f at)

pub written-entries : (files : List Named) (p : ℕ) (f : Named) (v : Vec ℕ Global)
    → slice_get files p ≡ Some f → v.items ≡ f.1.items
    → entries_of (slice_set files p (f.0, v)) ≡ entries_of files
written-entries files p f v at same =
    entries-set files p (f.0, v)
    ∙ ap (λ (t : List ℕ). slice_set (entries_of files) p (string_bytes f.0, t)) same
    ∙ set_same (entries_of files) p (entry_of f) (get-entries_of files p f at)

pub written-name : (files : List Named) (p : ℕ) (f : Named) (v : Vec ℕ Global)
    → slice_get files p ≡ Some f
    → name_at (slice_set files p (f.0, v)) (Some p) ≡ name_at files (Some p)
written-name files p f v at = rw (get-set files p f (f.0, v) at, at) refl

pub written-first : (files : List Named) (p : ℕ) (f : Named) (v : Vec ℕ Global)
    → slice_get files p ≡ Some f → IsFirst files (Some p)
    → IsFirst (slice_set files p (f.0, v)) (Some p)
written-first files p f v at first =
    the_first _ p (string_bytes f.0) (f.0, v) (get-set files p f (f.0, v) at) refl
    (ap (λ (es : Entries). find_name (string_bytes f.0) (take p es)) (entries-set files p (f.0, v))
    ∙ ap (find_name (string_bytes f.0)) (take-set _ p _) ∙ first p refl f at)

pub name_there : (files : List Named) (p : ℕ) (f : Named) → slice_get files p ≡ Some f
    → name_at files (Some p) ≡ Some (string_bytes f.0)
name_there files p f at = rw at refl

pub bytes_there : (files : List Named) (p : ℕ) (f : Named) → slice_get files p ≡ Some f
    → bytes_at files (Some p) ≡ Some f.1.items
bytes_there files p f at = rw at refl

-- ---- a new file behind the others

entries-push : (files : List Named) (f : Named)
    → entries_of (files ++ f ∷ []) ≡ entries_of files ++ entry_of f ∷ []
entries-push [] f = refl
entries-push (x ∷ files) f = ap (λ (es : Entries). entry_of x ∷ es) (entries-push files f)

get-push : (files : List Named) (f : Named) → slice_get (files ++ f ∷ []) (length files) ≡ Some f
get-push [] f = refl
get-push (x ∷ files) f = get-push files f

absent-find : (files : List Named) (q : List ℕ) → get (table_map files) q ≡ None
    → find_name q (entries_of files) ≡ None
absent-find files q h = sym (get-from_entries nat_list_cmp_total _ q) ∙ h

pub pushed-map : (files : List Named) (f : Named)
    → get (table_map files) (string_bytes f.0) ≡ None
    → table_map (files ++ f ∷ []) ≡ insert (table_map files) (string_bytes f.0) f.1.items
pushed-map files f h =
    ap (λ (es : Entries). from_entries {R = slice_cmp nat_cmp} es) (entries-push files f)
    ∙ from_entries_push nat_list_cmp_total (slice_cmp-IsAntisymmetric nat_cmp-IsAntisymmetric)
    (entries_of files) (string_bytes f.0) f.1.items (absent-find files _ h)

pub pushed-name : (files : List Named) (f : Named)
    → name_at (files ++ f ∷ []) (Some (length files)) ≡ Some (string_bytes f.0)
pushed-name files f = rw (get-push files f) refl

take-front : (es : Entries) (e : List ℕ × List ℕ) → take (length es) (es ++ e ∷ []) ≡ es
take-front [] e = refl
take-front (x ∷ es) e = ap (λ (t : Entries). x ∷ t) (take-front es e)

pub pushed-first : (files : List Named) (f : Named)
    → get (table_map files) (string_bytes f.0) ≡ None
    → IsFirst (files ++ f ∷ []) (Some (length files))
pushed-first files f h = the_first _ (length files) (string_bytes f.0) f (get-push files f) refl
    (ap (λ (es : Entries). find_name (string_bytes f.0) (take (length files) es))
    (entries-push files f)
    ∙ ap (λ (n : ℕ). find_name (string_bytes f.0) (take n (entries_of files ++ entry_of f ∷ [])))
    (sym (length-entries_of files))
    ∙ ap (find_name (string_bytes f.0)) (take-front _ _) ∙ absent-find files _ h)

pub name_is : (files : List Named) (p : ℕ) (f : Named) (q : List ℕ) → slice_get files p ≡ Some f
    → name_at files (Some p) ≡ Some q → string_bytes f.0 ≡ q
name_is files p f q at name =
    let both : Some (string_bytes f.0) ≡ Some q = sym (name_there files p f at) ∙ name in cc

-- ---- a write that failed

-- the same entries make the same map
pub same_map_of : (old new : List Named) → entries_of new ≡ entries_of old
    → table_map new ≡ table_map old
same_map_of old new e = ap (λ (es : Entries). from_entries {R = slice_cmp nat_cmp} es) e

pub others_stay : (old new : List Named) (name : List ℕ) → entries_of new ≡ entries_of old
    → (x : FileMap) → Some (table_map old) ≡ Some x
    → (after : FileMap) × (Some (table_map new) ≡ Some after) × ((q : List ℕ) → q ≢ name
    → get after q ≡ get x q)
others_stay old new name same x e =
    let is : table_map old ≡ x = cc in
    (table_map new, refl, λ q ne. ap (λ (m : FileMap). get m q) (same_map_of old new same ∙ is))
