-- What a group comes to, and what is left behind it.
use Rattle.std.proofs.Common.{◌≡◌, ◌≢◌, ℕ, ◌-◌, ◌≤◌, Bool, true, false, not, ◌||◌, ◌==◌, List, [], ◌∷◌, ◌++◌, Option, None, Some, refl, sym, ap, ◌∙◌, arith}
use Rattle.std.specs.Prelude.{if◌then◌else◌, nat_lt}
use Rattle.sat_clause.specs.declared.cause.Cause.{Cause}
use Rattle.sat_clause.specs.declared.cause.Cause.TheVariants.{MissingGroup, WrongGroup}
use Rattle.sat_clause.specs.declared.literal.Lit.{Lit}
use Rattle.sat_clause.specs.Literal.{Clause, is_among}
use Rattle.sat_clause.specs.Live.{Live, clause_at}
use Rattle.sat_rat.specs.Counts.{held, times, times_in}
use Rattle.sat_rat.specs.FullRup.{group_fault, groups_fault, has_id, resolvent_fault}
use Rattle.sat_rat.specs.Groups.{Group}
use Rattle.sat_rat.proofs.CountLaws.{times_among, times_not_among}
use Rattle.sat_rat.proofs.HeldLaws.{held_same, held_split, left_out_held, positive}

-- ---- one group

module _ (live : Live) (set : List Lit) (l : Lit) (had : List ℕ) (group : Group) (c : Clause)
    (at : Some c ≡ clause_at live group.id) where
  -- its clause has had one
  pub had_one : true ≡ has_id had group.id →
      Some WrongGroup ≡ group_fault live set l had group (clause_at live group.id)
  had_one is = rw (← at, ← is) refl

  -- its clause does not have the literal
  pub lacks_literal : false ≡ has_id had group.id → times l c ≡ 0 →
      Some WrongGroup ≡ group_fault live set l had group (clause_at live group.id)
  lacks_literal free none = rw (← at, ← free) (by (is_among c l) refl) where
    by : (b : Bool) → is_among c l ≡ b → Some WrongGroup
        ≡ (if not b then Some WrongGroup else resolvent_fault live set l c group.hints)
    by false is = refl
    by true is = let some = times_among l c is in absurd (omega (arith, some, none))

  -- it is due
  pub is_due : false ≡ has_id had group.id → times l c ≢ 0 → (r : Option Cause) →
      r ≡ resolvent_fault live set l c group.hints →
      r ≡ group_fault live set l had group (clause_at live group.id)
  is_due free some r is = rw (← at, ← free) (by (is_among c l) refl) where
    by : (b : Bool) → is_among c l ≡ b → r
        ≡ (if not b then Some WrongGroup else resolvent_fault live set l c group.hints)
    by true among = is
    by false not_among = absurd (some (times_not_among l c not_among))

-- ---- the groups behind it

-- an id behind others
has_pushed : (ids : List ℕ) (a q : ℕ) → has_id (a ∷ ids) q ≡ has_id (ids ++ a ∷ []) q
has_pushed [] a q = refl
has_pushed (b ∷ ids) a q =
    swapped (q == a) (q == b) (has_id ids q) ∙ ap (λ t. (q == b) || t) (has_pushed ids a q)
  where
    swapped : (x y z : Bool) → (x || (y || z)) ≡ (y || (x || z))
    swapped true true z = refl
    swapped true false z = refl
    swapped false true z = refl
    swapped false false z = refl

module _ (live : Live) (set : List Lit) (l : Lit) (had : List ℕ) (group : Group) where
  -- behind a good group the others have the fault that all have
  pub good_group : (all behind : List Group) → all ≡ group ∷ behind →
      None ≡ group_fault live set l had group (clause_at live group.id) →
      groups_fault live set l (had ++ group.id ∷ []) behind ≡ groups_fault live set l had all
  good_group all behind is good = rw (is, ← good) refl

  -- and its clause does not count any more
  pub counted_off : (left count : ℕ) → left ≡ held l had live → has_id had group.id ≡ false →
      count ≡ times_in l (clause_at live group.id) →
      left - count ≡ held l (had ++ group.id ∷ []) live
  counted_off left count is free counts =
      let split = held_split l live had group.id free in
      let same = held_same l (group.id ∷ had) (had ++ group.id ∷ []) live
      (has_pushed had group.id) in
      omega (arith, is, split, same, counts)

-- no group is left
module _ (live : Live) (set : List Lit) (l : Lit) (had : List ℕ) (left : ℕ)
    (is : left ≡ held l had live) (groups all : List Group) (end : groups ≡ [])
    (same : groups_fault live set l had groups ≡ groups_fault live set l [] all) where
  ends_as : (b : Bool) → nat_lt 0 left ≡ b →
      (if b then Some MissingGroup else None) ≡ groups_fault live set l [] all
  ends_as b more =
      (ap (λ t. if t then Some MissingGroup else None) (sym more)
      ∙ ap (λ n. if nat_lt 0 n then Some MissingGroup else None) is
      ∙ ap (λ t. if t then Some MissingGroup else None) (sym (left_out_held l live had))
      ∙ ap (groups_fault live set l had) (sym end))
      ∙ same

  pub one_is_missing : 1 ≤ left → Some MissingGroup ≡ groups_fault live set l [] all
  one_is_missing some = ends_as true (positive left some)

  pub none_is_missing : left ≡ 0 → None ≡ groups_fault live set l [] all
  none_is_missing none = ends_as false (ap (nat_lt 0) none)
