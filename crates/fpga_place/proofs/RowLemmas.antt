-- How the first block with a name is found in a row of numbers by name.
use Rattle.std.proofs.Common.{◌≡◌, ◌≢◌, ℕ, zero, suc, ◌+◌, ◌<◌, ◌≤◌, Bool, true, false, Option, Some, None, List, [], ◌∷◌, length, get_or, refl, sym, ap, ◌∙◌, inl, inr, subst, arith}
use Rattle.std.specs.Prelude.{Contains, bytes_eq, nat_lt, not, slice_get}
use Rattle.std.specs.Borrow.{Bor}
use Rattle.std.specs.Cmp.{IsStrictWeakOrder, IsTotalOrder}
use Rattle.std.specs.Fn.{AlwaysReturns, Called, ComputesKey, Mut, ReturnsEach}
use Rattle.std.specs.List.{range_with_len}
use Rattle.std.specs.List.Sorted.{IsPartitionPoint, IsPartitionedBy, IsPermutation, IsSorted}
use Rattle.std.specs.Option.{option_map_or}
use Rattle.std.specs.Ordering.{is_eq, is_lt, nat_cmp, ordering_reverse, ordering_then}
use Rattle.std.specs.declared.cmp.Ordering.{Ordering}
use Rattle.std.specs.declared.cmp.Ordering.TheVariants.{Less, Equal, Greater}
use Rattle.std.proofs.lemmas.Bool.{cases_lt, false_from_ne_true, false≢true}
use Rattle.std.proofs.lemmas.Bool.Decides.{nat_tests}
use Rattle.std.proofs.lemmas.Cmp.{nat_cmp_total, nat_list_cmp_total, on_total, then_total, tied_itself}
use Rattle.std.proofs.lemmas.List.Sorted.{All-permutation, Contains-permutation, IsPartitionPoint-from_clause, ranks_by, sorted_far}
use Rattle.std.proofs.lemmas.Map.Text.{is_eq-slice_cmp}
use Rattle.std.proofs.lemmas.Option.{get_or_from_slice_get, slice_get-get_or}
use Rattle.list_laws.proofs.Members.{In, In-range, all-from_In, contains-In, from_In-range}
use Rattle.fpga_types.specs.Placements.{HaveOwnNames}
use Rattle.fpga_types.specs.declared.netlist.Block.{Block}
use Rattle.fpga_text.specs.Bytes.{Bytes}
use Rattle.fpga_place.specs.Blocks.{has_name, number_named}
use Rattle.fpga_place.specs.BlockTables.{DifferAlong, StandByName, is_before, name_at, name_cmp, number_cmp}
use Rattle.list_laws.proofs.Searches.{position-first}
use Rattle.fpga_types.proofs.NameLaws.{name_itself, same_name}
use Rattle.fpga_place.proofs.BlockLemmas.{name-at, number-within, own_number}

-- a list has a block at each number below its length
block_at : (blocks : List Block) (n : ℕ) → n < length blocks
    → (block : Block) × (slice_get blocks n ≡ Some block)
block_at [] n within = absurd (omega arith)
block_at (b ∷ bs) zero within = (b, refl)
block_at (b ∷ bs) (suc n) within = block_at bs n (omega arith)

name_is : (blocks : List Block) (n : ℕ) (block : Block) → slice_get blocks n ≡ Some block
    → name_at blocks n ≡ block.name
name_is blocks n block here =
    ap (λ (o : Option Block). option_map_or (λ (b : Block). b.name) o []) here

-- names of which neither is before the other are one
same_by_order : (a b : Bytes) → is_lt (name_cmp a b) ≡ false → is_lt (name_cmp b a) ≡ false → a ≡ b
same_by_order a b front back =
    same_name a b (sym (is_eq-slice_cmp a b) ∙ tied (name_cmp a b) front
    (sym (ap is_lt (nat_list_cmp_total.antisymm b a)) ∙ back))
  where
    tied : (o : Ordering) → is_lt o ≡ false → is_lt (ordering_reverse o) ≡ false → is_eq o ≡ true
    tied Less f b = absurd (false≢true (sym f))
    tied Equal f b = refl
    tied Greater f b = absurd (false≢true (sym b))

not_before_itself : (a : Bytes) → is_lt (name_cmp a a) ≡ false
not_before_itself a = ap is_lt (tied_itself nat_list_cmp_total a)

pub numbers_total : (blocks : List Block) → IsTotalOrder (number_cmp blocks)
numbers_total blocks = then_total (on_total (name_at blocks) nat_list_cmp_total) nat_cmp_total

pub numbers_ranked : (blocks : List Block)
    → IsStrictWeakOrder (λ (a b : ℕ). is_lt (number_cmp blocks a b))
numbers_ranked blocks = ranks_by (numbers_total blocks) (λ (n : ℕ). n)

names_ranked : IsStrictWeakOrder (λ (a b : Bytes). is_lt (name_cmp a b))
names_ranked = ranks_by nat_list_cmp_total (λ (name : Bytes). name)

-- a closure that stays as it is answers each call alike
pub always-same : {F X R : Type 0} (g : Mut F X R) (P : X → R → Type 0) (f : F)
    → ((a : X) (r : R) (f' : F) → Called g f a r f' → P a r × (f' ≡ f)) → AlwaysReturns g P f
always-same {F} {X} g P f answers = record { at = go }
  where
    go : (xs : List X) → ReturnsEach g P f xs
    go [] = tt
    go (a ∷ xs) = λ r f' called.
        let h = answers a r f' called in
        (h.0, subst (λ (e : F). ReturnsEach g P e xs) (sym h.1) (go xs))

-- a row of all numbers that is in order
pub row-stands : (blocks : List Block) (count : ℕ) (all row : List ℕ) → count ≡ length blocks
    → all ≡ range_with_len 0 count → IsPermutation all row → IsSorted (number_cmp blocks) row
    → StandByName blocks row
row-stands blocks count all row is numbers moved sorted = record {
  each = λ number below. Contains-permutation all row number moved
      (contains-In all number (subst (λ (ns : List ℕ). In ns number) (sym numbers)
      (In-range 0 count number (omega arith) (omega arith))));
  within = All-permutation (λ (number : ℕ). number < length blocks) all row moved
      (all-from_In (λ (number : ℕ). number < length blocks) all
      (λ number has. let r = from_In-range 0 count number
      (subst (λ (ns : List ℕ). In ns number) numbers has) in omega (arith, r.1)));
  sorted = sorted;
}

-- a name that was read and differs
pub other_name : (a b read : Bytes) → read ≡ a → true ≡ not (bytes_eq read b) → a ≢ b
other_name a b read is differs same =
    let e : bytes_eq read b ≡ true = (λ i. bytes_eq (is i) b) ∙ (λ i. bytes_eq (same i) b)
    ∙ name_itself b in
    absurd (let clash : true ≡ false = differs ∙ ap not e in cc)

-- one that does not differ
pub one_name : (a b read : Bytes) → read ≡ a → false ≡ not (bytes_eq read b) → a ≡ b
one_name a b read is differs = sym is ∙ same_name read b (go (bytes_eq read b) refl)
  where
    go : (t : Bool) → bytes_eq read b ≡ t → t ≡ true
    go true e = refl
    go false e = absurd (let clash : false ≡ true = differs ∙ ap not e in cc)

module _ (blocks : List Block) (row : List ℕ) (name : Bytes) (is : StandByName blocks row) where
  -- the name of an earlier number is not behind that of a later one
  later-name : (i j d : ℕ) → i ≤ j → j < length row
      → is_lt (name_cmp (name_at blocks (get_or row j d)) (name_at blocks (get_or row i d))) ≡ false
  later-name i j d before below =
      first _ _ (sorted_far (λ (a b : ℕ). is_lt (number_cmp blocks a b)) (numbers_ranked blocks) row
      is.sorted i j d before below)
    where
      first : (p q : Ordering) → is_lt (ordering_then p q) ≡ false → is_lt p ≡ false
      first Less q e = e
      first Equal q e = refl
      first Greater q e = refl

  -- those before a name stand in front
  pub partitioned : IsPartitionedBy (is_before blocks name) row
  partitioned i j d before below passes = go (is_before blocks name (get_or row i d)) refl
    where
      go : (b : Bool) → is_before blocks name (get_or row i d) ≡ b → b ≡ true
      go true e = refl
      go false e = absurd (false≢true (sym (names_ranked.chain (name_at blocks (get_or row j d))
          (name_at blocks (get_or row i d)) name (later-name i j d before below) e)
          ∙ passes))

  -- what the search in the row says
  pub row-point : (seen : List ℕ) → seen ≡ row → {F : Type 0} {g : Mut F (Bor ℕ × Unit {0}) Bool}
      {f : F} → (place : ℕ)
      → ((q : ℕ → Bool) → ComputesKey g q f → IsPartitionedBy q seen
      → IsPartitionPoint (λ y. q y ≡ true) (λ y. q y ≡ false) seen place)
      → ((a : Bor ℕ × Unit {0}) (r : Bool) (f' : F) → Called g f a r f'
      → (r ≡ is_before blocks name a.0.now) × (f' ≡ f))
      → IsPartitionPoint (λ number. is_before blocks name number ≡ true)
      (λ number. is_before blocks name number ≡ false) row place
  row-point seen same place clause answers =
      subst (λ (xs : List ℕ). IsPartitionPoint (λ number. is_before blocks name number ≡ true)
      (λ number. is_before blocks name number ≡ false) xs place) same
      (IsPartitionPoint-from_clause (is_before blocks name) seen place clause
      (subst (IsPartitionedBy (is_before blocks name)) (sym same) partitioned) answers)

  -- behind those that are before the name
  module _ (place : ℕ)
      (point : IsPartitionPoint (λ number. is_before blocks name number ≡ true)
      (λ number. is_before blocks name number ≡ false) row place) where
    -- a block with the name stands at the place or behind it
    behind : (number : ℕ) → number < length blocks → name_at blocks number ≡ name
        → (j : ℕ) × (place ≤ j) × (j < length row) × (get_or row j number ≡ number)
    behind number within named =
        let has : Contains row number = is.each number within in
        elim (cases_lt has.0 place) [
          | inl front ↦ absurd (false≢true (sym (not_before_itself name)
              ∙ ap (λ (n : Bytes). is_lt (name_cmp n name)) (sym named)
              ∙ ap (is_before blocks name) (sym has.2)
              ∙ point.0 has.0 number (omega arith) front))
          | inr back ↦ (has.0, back, has.1, has.2)
        ]

    -- no block has the name
    none : ((number : ℕ) → number < length blocks → name_at blocks number ≢ name)
        → None ≡ number_named blocks name
    none other = go (number_named blocks name) refl
      where
        go : (o : Option ℕ) → number_named blocks name ≡ o → None ≡ o
        go None e = refl
        go (Some n) e =
            let within = number-within blocks name n e in
            let b = block_at blocks n within in
            absurd (other n within (name_is blocks n b.0 b.1 ∙ name-at blocks name n e b.0 b.1))

    -- the row ends before the place
    pub none-past : length row ≤ place → None ≡ number_named blocks name
    none-past past = none (λ number within named.
        let h = behind number within named in
        let le : place ≤ h.0 = h.1 in
        let lt : h.0 < length row = h.2 in
        omega arith)

    module _ (number : ℕ) (inside : place < length row)
        (here : (d : ℕ) → number ≡ get_or row place d) where
      at : (d : ℕ) → get_or row place d ≡ number
      at d = sym (here d)

      number-below : number < length blocks
      number-below = subst (λ (n : ℕ). n < length blocks) (at 0) (is.within place 0 inside)

      -- another name stands at the place
      pub none-other : name_at blocks number ≢ name → None ≡ number_named blocks name
      none-other other = none (λ found within named.
          let h = behind found within named in
          other (same_by_order (name_at blocks number) name
          (sym (ap (is_before blocks name) (at 0)) ∙ point.1 place 0 (omega arith) inside)
          (ap (λ (n : Bytes). is_lt (name_cmp n (name_at blocks number))) (sym named)
          ∙ (λ i. is_lt (name_cmp (name_at blocks (sym h.3 i)) (name_at blocks (sym (at found) i))))
          ∙ later-name place h.0 found h.1 h.2)))

      -- the name stands at the place
      pub found-here : name_at blocks number ≡ name → Some number ≡ number_named blocks name
      found-here named =
          let b = block_at blocks number number-below in
          sym (position-first (has_name name) blocks number b.0 number-below
          (λ k below. false_from_ne_true _ (λ e. absurd (earlier k b.0 below e)))
          (ap (has_name name) (get_or_from_slice_get blocks number b.0 b.0 b.1)
          ∙ ap (λ (n : Bytes). bytes_eq n name) (sym (name_is blocks number b.0 b.1) ∙ named)
          ∙ name_itself name))
        where
          less : (k : ℕ) → k < number → is_lt (nat_cmp k number) ≡ true
          less k below =
              let e : nat_lt k number ≡ true = grind (arith, nat_tests) in rw e refl

          earlier : (k : ℕ) (d : Block) → k < number → has_name name (get_or blocks k d) ≡ true → ⊥
          earlier k d below e =
              let within : k < length blocks = let w = number-below in omega (arith, w) in
              let b = block_at blocks k within in
              let same : name_at blocks k ≡ name = name_is blocks k b.0 b.1
              ∙ ap (λ (c : Block). c.name) (sym (get_or_from_slice_get blocks k b.0 d b.1))
              ∙ same_name _ _ e in
              let h = behind k within same in
              false≢true (sym (sorted_far (λ (a c : ℕ). is_lt (number_cmp blocks a c))
              (numbers_ranked blocks) row is.sorted place h.0 k h.1 h.2)
              ∙ (λ i. is_lt (number_cmp blocks (h.3 i) (at k i)))
              ∙ (λ i. is_lt (ordering_then (name_cmp (same i) (named i)) (nat_cmp k number)))
              ∙ ap (λ (o : Ordering). is_lt (ordering_then o (nat_cmp k number)))
              (tied_itself nat_list_cmp_total name)
              ∙ less k below)

-- where names are blocks' own, the block at the guess is found if it has the name
pub found-guess : (blocks : List Block) (name : Bytes) (guess : ℕ) → HaveOwnNames blocks
    → guess < length blocks → name_at blocks guess ≡ name
    → Some guess ≡ number_named blocks name
found-guess blocks name guess own within named =
    let b = block_at blocks guess within in
    sym (subst (λ (n : Bytes). number_named blocks n ≡ Some guess)
    (sym (name_is blocks guess b.0 b.1) ∙ named) (own_number blocks guess b.0 own b.1))

-- a row in order where each name differs from the next has no name twice
module _ (blocks : List Block) (row : List ℕ) (is : StandByName blocks row)
    (differ : DifferAlong blocks row) where
  apart : (p q : ℕ) → p < q → q < length row
      → name_at blocks (get_or row p 0) ≡ name_at blocks (get_or row q 0) → ⊥
  apart p q below within same =
      differ p (omega arith) (same_by_order (name_at blocks (get_or row p 0))
      (name_at blocks (get_or row (p + 1) 0))
      (ap (λ (n : Bytes). is_lt (name_cmp n (name_at blocks (get_or row (p + 1) 0)))) same
      ∙ later-name blocks row [] is (p + 1) q 0 (omega arith) within)
      (later-name blocks row [] is p (p + 1) 0 (omega arith) (omega arith)))

  place_of_number : (number : ℕ) → number < length blocks
      → (a : ℕ) × (a < length row) × (get_or row a 0 ≡ number)
  place_of_number number within =
      let has : Contains row number = is.each number within in (
        has.0,
        has.1,
        get_or_from_slice_get row has.0 number 0
            (slice_get-get_or row has.0 number has.1 ∙ ap (λ (n : ℕ). Some n) has.2),
      )

  pub own-names : HaveOwnNames blocks
  own-names i j d below within same =
      let first = place_of_number i (omega arith) in
      let second = place_of_number j within in
      let names : name_at blocks (get_or row first.0 0) ≡ name_at blocks (get_or row second.0 0) =
      ap (name_at blocks) first.2 ∙ name_here i (omega arith) ∙ same
      ∙ sym (name_here j within) ∙ ap (name_at blocks) (sym second.2) in
      elim (cases_lt first.0 second.0) [
        | inl front ↦ apart first.0 second.0 front second.1 names
        | inr back ↦ elim (cases_lt second.0 first.0) [
          | inl behind ↦ apart second.0 first.0 behind first.1 (sym names)
          | inr level ↦
              let one : first.0 ≡ second.0 = omega arith in
              let equal : i ≡ j = sym first.2 ∙ ap (λ (a : ℕ). get_or row a 0) one ∙ second.2 in
              omega arith
        ]
      ]
    where
      name_here : (k : ℕ) → k < length blocks → name_at blocks k ≡ (get_or blocks k d).name
      name_here k inside =
          let b = block_at blocks k inside in
          name_is blocks k b.0 b.1
          ∙ ap (λ (c : Block). c.name) (sym (get_or_from_slice_get blocks k b.0 d b.1))
