use Rattle.std.proofs.Common.{rules, ℕ, ◌<◌, ◌≤◌, List, length, get_or, ap, subst, ◌∙◌}
use Rattle.std.proofs.Math.Seq.{take-length}
use Rattle.fpga_place.proofs.RowLemmas.{found-here, none-other, none-past, one_name, other_name, row-point}
use Rattle.fpga_place.proofs.block_table.BlockTable.search.Goals as goal

pub returns-in_default-clause-number : goal.returns-in_default-clause-number
returns-in_default-clause-number c =
    let blocks = c.self.inside.blocks.now in
    let row = c.self.inside.by_name.items in
    let name = c.args.name.now in
    rw (← c.self.view_is)
    (none-past blocks row name c.self.invariant.stand c.partition_point-place.result
    (row-point blocks row name c.self.invariant.stand c.deref.result.now c.deref.ensures.value
    c.partition_point-place.result c.partition_point-place.ensures.partitioned
    (λ a r q k. search (rules, take-length)))
    (subst (λ (xs : List ℕ). length xs ≤ c.partition_point-place.result) c.deref-2.ensures.value
    c.in_default.ensures.lookup.3))

pub returns-then-ne-clause-number : goal.returns-then-ne-clause-number
returns-then-ne-clause-number c =
    let blocks = c.self.inside.blocks.now in
    let row = c.self.inside.by_name.items in
    let name = c.args.name.now in
    rw (← c.self.view_is)
    (none-other blocks row name c.self.invariant.stand c.partition_point-place.result
    (row-point blocks row name c.self.invariant.stand c.deref.result.now c.deref.ensures.value
    c.partition_point-place.result c.partition_point-place.ensures.partitioned
    (λ a r q k. search (rules, take-length)))
    c.in-Some.number.now
    (subst (λ (xs : List ℕ). c.partition_point-place.result < length xs) c.deref-2.ensures.value
    c.in-Some.ensures.lookup.3.0)
    (λ d. c.in-Some.ensures.lookup.3.1 d
    ∙ ap (λ (xs : List ℕ). get_or xs c.partition_point-place.result d) c.deref-2.ensures.value)
    (other_name _ name c.name_at.result.now c.name_at.ensures c.if-ne.ensures))

pub returns-clause-number : goal.returns-clause-number
returns-clause-number c =
    let blocks = c.self.inside.blocks.now in
    let row = c.self.inside.by_name.items in
    let name = c.args.name.now in
    rw (← c.self.view_is)
    (found-here blocks row name c.self.invariant.stand c.partition_point-place.result
    (row-point blocks row name c.self.invariant.stand c.deref.result.now c.deref.ensures.value
    c.partition_point-place.result c.partition_point-place.ensures.partitioned
    (λ a r q k. search (rules, take-length)))
    c.in-Some.number.now
    (subst (λ (xs : List ℕ). c.partition_point-place.result < length xs) c.deref-2.ensures.value
    c.in-Some.ensures.lookup.3.0)
    (λ d. c.in-Some.ensures.lookup.3.1 d
    ∙ ap (λ (xs : List ℕ). get_or xs c.partition_point-place.result d) c.deref-2.ensures.value)
    (one_name _ name c.name_at.result.now c.name_at.ensures c.if-ne.ensures))
