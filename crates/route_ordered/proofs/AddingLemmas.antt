-- The clauses of a row of slots, as they are added, and how many there are.
use Rattle.std.proofs.Common.{◌≡◌, ℕ, zero, suc, ◌+◌, ◌-◌, ◌*◌, ◌/◌, ◌<◌, ◌≤◌, Bool, true, false, cond, List, [], ◌∷◌, ◌++◌, length, length-append, take, get_or, refl, sym, ap, subst, ◌∙◌, inl, inr, arith, All, append-nil}
use Rattle.std.specs.Prelude.{◌==◌, drop, flat_map, map}
use Rattle.std.specs.List.{enumerate_from, range_with_len}
use Rattle.std.proofs.Math.Nat.{mul-le-mul}
use Rattle.std.proofs.lemmas.Grind.{flat_map-append}
use Rattle.std.proofs.lemmas.List.{append_assoc, length-map, length-take, map-append, take_all, take_more}
use Rattle.std.proofs.lemmas.List.Concat.{flat_map_single}
use Rattle.std.proofs.lemmas.List.FromFn.{get_or-enumerate_from, length-enumerate_from}
use Rattle.std.proofs.lemmas.List.Sums.{sum_by-cons}
use Rattle.list_laws.proofs.Members.{In, In-all, In-append_cases, all-from_In, from_In-flat_map, from_In-map}
use Rattle.list_laws.proofs.Rows.{length-rows}
use Rattle.fpga_types.specs.declared.arch.Pattern.{Pattern}
use Rattle.sat_clause.specs.FormulaStore.{FormulaState}
use Rattle.sat_clause.specs.Literal.{Clause, IsWithin}
use Rattle.sat_clause.specs.declared.literal.Lit.{Lit}
use Rattle.route_encode.specs.Adding.{Adds, HasRoom, lit_count}
use Rattle.route_encode.specs.Encoding.{below, has, lacks}
use Rattle.route_encode.proofs.AddLemmas.{adds-more, room-next}
use Rattle.route_encode.proofs.BitLemmas.{place-inside}
use Rattle.route_encode.proofs.LiteralLemmas.{has-within}
use Rattle.problem_facts.specs.Groups.{group_count, track_group}
use Rattle.route_ordered.specs.Ordered.{group_clauses, only_behind, precedence, slot_clauses}
use Rattle.fpga_types.specs.declared.arch.Pattern.TheVariants.{Subset, Wilton, Universal}
use Rattle.route_encode.proofs.CompeteLemmas.{differs}
use Rattle.route_ordered.specs.Counts.{clauses_per_slot}

-- ---- one clause

pub push-more : (width s : ℕ) (group : List ℕ) (i t : ℕ) (start items : List Lit)
    → i < length group → t ≡ get_or group i t
    → items ≡ start ++ map (has width s) (take i group)
    → items ++ has width s t ∷ [] ≡ start ++ map (has width s) (take (i + 1) group)
push-more width s group i t start items low at h =
    let front : take (i + 1) group ≡ take i group ++ t ∷ [] =
    take_more group i t low ∙ ap (λ (u : ℕ). take i group ++ u ∷ []) (sym at) in
    ap (λ (ls : List Lit). ls ++ has width s t ∷ []) h
    ∙ append_assoc start (map (has width s) (take i group)) (has width s t ∷ [])
    ∙ ap (λ (ls : List Lit). start ++ ls)
    (sym (ap (map (has width s)) front ∙ map-append (has width s) (take i group) (t ∷ [])))

pub behind-more : (width : ℕ) (earlier group : List ℕ) (s t i e : ℕ) → i < length earlier
    → e ≡ get_or earlier i e
    → only_behind width (take i earlier) group s t ++ map (has width e) group
    ≡ only_behind width (take (i + 1) earlier) group s t
behind-more width earlier group s t i e low at =
    let front : take (i + 1) earlier ≡ take i earlier ++ e ∷ [] =
    take_more earlier i e low ∙ ap (λ (u : ℕ). take i earlier ++ u ∷ []) (sym at) in
    ap (λ (ls : Clause). lacks width s t ∷ ls)
    (sym (ap (flat_map (λ x. map (has width x) group)) front
    ∙ flat_map-append (λ x. map (has width x) group) (take i earlier) (e ∷ [])
    ∙ ap (λ (ls : Clause). flat_map (λ x. map (has width x) group) (take i earlier) ++ ls)
    (append-nil (map (has width e) group))))

-- its literals are of variables that are there
pub behind-within : (count width vars : ℕ) (earlier group : List ℕ) (s t : ℕ)
    → All (λ e. e < count) earlier → All (λ u. u < width) group → s < count → t < width
    → count * width ≤ vars → All (IsWithin vars) (only_behind width earlier group s t)
behind-within count width vars earlier group s t earlier_low group_low low inside few =
    all-from_In (IsWithin vars) (only_behind width earlier group s t) (λ l i. go l i)
  where
    go : (l : Lit) → In (only_behind width earlier group s t) l → IsWithin vars l
    go l (inl e) = subst (IsWithin vars) e
        (let place = place-inside count width s t low inside in
        (omega arith, omega (arith, place, few)))
    go l (inr i) =
        let of_slot = from_In-flat_map (λ x. map (has width x) group) earlier l i in
        let of_track = from_In-map (has width of_slot.0) group l of_slot.2 in
        let is = has-within count width of_slot.0 of_track.0
        (In-all (λ e. e < count) earlier of_slot.0 earlier_low of_slot.1)
        (In-all (λ u. u < width) group of_track.0 group_low of_track.1) in
        subst (IsWithin vars) of_track.2 (is.0, omega (arith, is.1, few))

-- ---- the tracks of a group

-- ---- clauses one behind another

module _ (width : ℕ) (earlier group : List ℕ) (s : ℕ) (tracks : List ℕ) (k t : ℕ)
    (low : k < length tracks) (at : t ≡ get_or tracks k t) where
  abbrev one : ℕ → List Clause
  one u = only_behind width earlier group s u ∷ []

  pub behind-room : (a b : FormulaState)
      → HasRoom a (map (only_behind width earlier group s) tracks)
      → Adds a (flat_map one (take k tracks)) b
      → HasRoom b (only_behind width earlier group s t ∷ [])
  behind-room a b room added =
      subst (λ (u : ℕ). HasRoom b (one u)) (sym at)
      (room-next one tracks k t low a b
      (subst (HasRoom a) (sym (flat_map_single (only_behind width earlier group s) tracks)) room)
      added)

  pub behind-added : (a b c : FormulaState) → Adds a (flat_map one (take k tracks)) b
      → Adds b (only_behind width earlier group s t ∷ []) c
      → Adds a (flat_map one (take (k + 1) tracks)) c
  behind-added a b c before now =
      adds-more one tracks k t low a b c before (subst (λ (u : ℕ). Adds b (one u) c) at now)

pub behind-all : (width : ℕ) (earlier group : List ℕ) (s : ℕ) (tracks : List ℕ) (k : ℕ)
    (a b : FormulaState) → length tracks ≤ k
    → Adds a (flat_map (λ u. only_behind width earlier group s u ∷ []) (take k tracks)) b
    → Adds a (map (only_behind width earlier group s) tracks) b
behind-all width earlier group s tracks k a b all added =
    subst (λ (cs : List Clause). Adds a cs b)
    (ap (flat_map (λ u. only_behind width earlier group s u ∷ [])) (take_all k tracks all)
    ∙ flat_map_single (only_behind width earlier group s) tracks) added

-- the clauses of a slot at its place in the row
module _ (pattern : Pattern) (width : ℕ) (row : List ℕ) where
  abbrev at_place : ℕ × ℕ → List Clause
  at_place at = slot_clauses pattern width (take at.0 row) at.1

  abbrev numbered_row : List (ℕ × ℕ)
  numbered_row = enumerate_from 0 row

  module _ (k s : ℕ) (low : k < length row) (at : s ≡ get_or row k s) where
    here : get_or numbered_row k (0, s) ≡ (k, s)
    here = get_or-enumerate_from 0 row k (0, s) low
        ∙ (let e : 0 + k ≡ k = omega arith in ap (λ (n : ℕ). (n, get_or row k s)) e)
        ∙ ap (λ (x : ℕ). (k, x)) (sym at)

    inside : k < length numbered_row
    inside = omega (arith, low, length-enumerate_from 0 row)

    pub slot-room : (a b : FormulaState) → HasRoom a (precedence pattern width row)
        → Adds a (flat_map at_place (take k numbered_row)) b
        → HasRoom b (slot_clauses pattern width (take k row) s)
    slot-room a b room added =
        subst (λ (z : ℕ × ℕ). HasRoom b (at_place z)) here
        (room-next at_place numbered_row k (0, s) inside a b room added)

    pub slot-added : (a b c : FormulaState) → Adds a (flat_map at_place (take k numbered_row)) b
        → Adds b (slot_clauses pattern width (take k row) s) c
        → Adds a (flat_map at_place (take (k + 1) numbered_row)) c
    slot-added a b c before now =
        adds-more at_place numbered_row k (0, s) inside a b c before
        (subst (λ (z : ℕ × ℕ). Adds b (at_place z) c) (sym here) now)

  pub slots-all : (a b : FormulaState) (k : ℕ) → length row ≤ k
      → Adds a (flat_map at_place (take k numbered_row)) b
      → Adds a (precedence pattern width row) b
  slots-all a b k all added =
      subst (λ (cs : List Clause). Adds a cs b)
      (ap (flat_map at_place) (take_all k numbered_row
      (omega (arith, all, length-enumerate_from 0 row)))) added

-- ---- how many there are

-- the tracks of a group, and those but the first
abbrev group-size : Pattern → ℕ
group-size Subset = 1
group-size Wilton = 0
group-size Universal = 2

length-group : (pattern : Pattern) (width p : ℕ)
    → length (track_group pattern width p) ≡ group-size pattern
length-group Subset width p = refl
length-group Wilton width p = refl
length-group Universal width p = refl

length-later : (pattern : Pattern) (width p : ℕ)
    → length (drop 1 (track_group pattern width p)) ≡ group-size pattern - 1
length-later Subset width p = refl
length-later Wilton width p = refl
length-later Universal width p = refl

module _ (pattern : Pattern) (width : ℕ) (earlier : List ℕ) (s : ℕ) where
  abbrev each : ℕ → List Clause
  each p = group_clauses pattern width earlier s p

  abbrev own : ℕ → List Clause
  own p = map (only_behind width earlier (track_group pattern width p) s)
      (drop 1 (track_group pattern width p))

  length-own : (p : ℕ) → length (own p) ≡ group-size pattern - 1
  length-own p =
      length-map (drop 1 (track_group pattern width p))
      (only_behind width earlier (track_group pattern width p) s) ∙ length-later pattern width p

  first-group : length (each 0) ≡ group-size pattern - 1
  first-group = length-own 0

  later-group : (p : ℕ) → 1 ≤ p → length (each p) ≡ group-size pattern + (group-size pattern - 1)
  later-group p high =
      let f : (p == 0) ≡ false = differs p 0 (λ e. omega (arith, e, high)) in
      let before : List Clause =
      map (only_behind width earlier (track_group pattern width (p - 1)) s)
      (track_group pattern width p) in
      ap (λ (b : Bool). length (cond b [] before ++ own p)) f
      ∙ length-append before (own p)
      ∙ omega (
        arith,
        length-own p,
        length-map (track_group pattern width p)
            (only_behind width earlier (track_group pattern width (p - 1)) s),
        length-group pattern width p,
      )

  later-groups : (a count : ℕ) → 1 ≤ a → length (flat_map each (range_with_len a count))
      ≡ (group-size pattern + (group-size pattern - 1)) * count
  later-groups a zero high = omega arith
  later-groups a (suc count) high =
      length-append (each a) (flat_map each (range_with_len (a + 1) count))
      ∙ omega (arith, later-group a high, later-groups (a + 1) count (omega (arith, high)))

  all-groups : (count : ℕ) → length (flat_map each (below (suc count)))
      ≡ group-size pattern - 1 + (group-size pattern + (group-size pattern - 1)) * count
  all-groups count =
      length-append (each 0) (flat_map each (range_with_len 1 count))
      ∙ omega (arith, first-group, later-groups 1 count (omega arith))

-- each slot has as many clauses
pub length-slot : (pattern : Pattern) (width : ℕ) (earlier : List ℕ) (s : ℕ)
    → length (slot_clauses pattern width earlier s) ≡ clauses_per_slot pattern width
length-slot Subset zero earlier s = refl
length-slot Subset (suc w) earlier s = all-groups Subset (suc w) earlier s w ∙ omega arith
length-slot Wilton width earlier s = refl
length-slot Universal width earlier s = go (width / 2)
  where
    go : (half : ℕ) → length (flat_map (group_clauses Universal width earlier s) (below half))
        ≡ 3 * half - 2
    go zero = omega arith
    go (suc half) = all-groups Universal width earlier s half ∙ omega arith

pub length-precedence : (pattern : Pattern) (width : ℕ) (row : List ℕ)
    → length (precedence pattern width row) ≡ length row * clauses_per_slot pattern width
length-precedence pattern width row =
    length-rows (λ at. slot_clauses pattern width (take at.0 row) at.1)
    (clauses_per_slot pattern width) (enumerate_from 0 row)
    (λ at. length-slot pattern width (take at.0 row) at.1)
    ∙ ap (λ (n : ℕ). n * clauses_per_slot pattern width) (length-enumerate_from 0 row)

-- ---- and how many literals at most

lits-few : (clauses : List Clause) (most : ℕ) → ((c : Clause) → In clauses c → length c ≤ most)
    → lit_count clauses ≤ length clauses * most
lits-few [] most h = omega arith
lits-few (c ∷ cs) most h =
    omega (arith, sum_by-cons length c cs, h c (inl refl), lits-few cs most (λ d i. h d (inr i)))

small-group : (pattern : Pattern) (width p : ℕ) → length (track_group pattern width p) ≤ 2
small-group Subset width p = omega arith
small-group Wilton width p = omega arith
small-group Universal width p = omega arith

module _ (pattern : Pattern) (width : ℕ) (row : List ℕ) where
  short-behind : (i s t p : ℕ)
      → length (only_behind width (take i row) (track_group pattern width p) s t)
      ≤ 1 + 2 * length row
  short-behind i s t p =
      let group : List ℕ = track_group pattern width p in
      let rows = length-rows (λ e. map (has width e) group) (length group) (take i row)
      (λ e. length-map group (has width e)) in
      let few : length (take i row) * length group ≤ length row * 2 =
      mul-le-mul (let e : length (take i row) ≤ length row = omega (arith, length-take i row) in e)
      (small-group pattern width p) in
      omega (arith, rows, few)

  short : (c : Clause) → In (precedence pattern width row) c → length c ≤ 1 + 2 * length row
  short c i =
      let at = from_In-flat_map (λ at. slot_clauses pattern width (take at.0 row) at.1)
      (enumerate_from 0 row) c i in
      let of_group = from_In-flat_map
      (group_clauses pattern width (take at.0.0 row) at.0.1)
      (below (group_count pattern width)) c at.2 in
      let p : ℕ = of_group.0 in
      elim (In-append_cases (cond (p == 0) []
      (map (only_behind width (take at.0.0 row) (track_group pattern width (p - 1)) at.0.1)
      (track_group pattern width p)))
      (map (only_behind width (take at.0.0 row) (track_group pattern width p) at.0.1)
      (drop 1 (track_group pattern width p))) c of_group.2) [
        | inl j ↦ of-first at.0.0 at.0.1 p (p == 0) c j
        | inr j ↦ of-map at.0.0 at.0.1 p (drop 1 (track_group pattern width p)) c j
      ]
    where
      of-map : (i s q : ℕ) (ts : List ℕ) (d : Clause)
          → In (map (only_behind width (take i row) (track_group pattern width q) s) ts) d
          → length d ≤ 1 + 2 * length row
      of-map i s q ts d j =
          let made = from_In-map
          (only_behind width (take i row) (track_group pattern width q) s) ts d j in
          subst (λ (e : Clause). length e ≤ 1 + 2 * length row) made.2
          (short-behind i s made.0 q)

      of-first : (i s p : ℕ) (b : Bool) (d : Clause)
          → In (cond b []
          (map (only_behind width (take i row) (track_group pattern width (p - 1)) s)
          (track_group pattern width p))) d
          → length d ≤ 1 + 2 * length row
      of-first i s p true d j = absurd j
      of-first i s p false d j = of-map i s (p - 1) (track_group pattern width p) d j

  pub few-lits : lit_count (precedence pattern width row)
      ≤ length row * clauses_per_slot pattern width * (1 + 2 * length row)
  few-lits =
      subst (λ (n : ℕ). lit_count (precedence pattern width row) ≤ n * (1 + 2 * length row))
      (length-precedence pattern width row)
      (lits-few (precedence pattern width row) (1 + 2 * length row) short)
