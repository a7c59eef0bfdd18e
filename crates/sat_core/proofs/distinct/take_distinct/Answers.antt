use Rattle.std.proofs.Common.{rules, ◌≡◌, ◌∙◌, ◌++◌, Contains, ap, subst}
use Rattle.std.proofs.lemmas.List.Elements.{All-contains_itself, All-weaker}
use Rattle.std.proofs.lemmas.List.Sorted.{Contains-permutation, IsNonDecreasingBy-from_sort_by_key, IsPermutation-sym}
use Rattle.std.proofs.lemmas.Result.{IfOk-weaker}
use Rattle.sat_clause.specs.Learned.{SameLiterals}
use Rattle.sat_clause.specs.Literal.{Clause, variable}
use Rattle.sat_core.specs.Kept.{IsDistinct}
use Rattle.sat_core.proofs.DistinctLaws.{distinct-same}
use Rattle.sat_core.proofs.distinct.take_distinct.Goals as goal

pub take_sorted-requires : goal.take_sorted-requires
take_sorted-requires c =
    rw c.deref.ensures.value
    (IsNonDecreasingBy-from_sort_by_key variable _ c.sort_unstable_by_key.ensures.sorted
    (λ a r q k. search rules))

pub returns : goal.returns
returns c =
    let lits = c.args.lits.now in
    let sorted = c.sort_unstable_by_key.new.self.items in
    let copied : c.extend_from_slice.new.self.items ≡ lits =
    c.in_ok-extend_from_slice.ensures.items ∙ ap (λ (xs : Clause). xs ++ lits)
    c.clear.ensures.items in
    let moved = c.sort_unstable_by_key.ensures.permutation in
    let same : SameLiterals sorted lits = subst (SameLiterals sorted) copied (
      All-weaker (Contains sorted) (Contains c.extend_from_slice.new.self.items)
          (λ x has. Contains-permutation sorted c.extend_from_slice.new.self.items x
          (IsPermutation-sym c.extend_from_slice.new.self.items sorted moved) has) sorted
          (All-contains_itself sorted),
      All-weaker (Contains c.extend_from_slice.new.self.items) (Contains sorted)
          (λ x has. Contains-permutation c.extend_from_slice.new.self.items sorted x moved has)
          c.extend_from_slice.new.self.items
          (All-contains_itself c.extend_from_slice.new.self.items),
    ) in
    IfOk-weaker c.take_sorted.result
    (IsDistinct c.deref.result.now c.take_sorted.new.distinct.items)
    (IsDistinct lits c.take_sorted.new.distinct.items)
    (λ b is. distinct-same sorted lits c.take_sorted.new.distinct.items same b
    (rw c.deref.ensures.value at is)) c.take_sorted.ensures
