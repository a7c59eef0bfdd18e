use Rattle.std.proofs.Common.{◌≡◌, ◌+◌, ◌<◌, ◌∙◌, ℕ, arith, get_or, inl, inr, length, length-set, subst}
use Rattle.std.specs.Prelude.{slice_set}
use Rattle.std.proofs.lemmas.List.{get_or-set_other, get_or-set_same}
use Rattle.fpga_types.specs.CellNumbers.{number_of_cell}
use Rattle.fpga_types.specs.Slots.{slot_at}
use Rattle.problem_facts.specs.CellCounts.{AreCounted}
use Rattle.problem_facts.proofs.CellCountLemmas.{cases-eq, counted-more, few-passing, takes}
use Rattle.route_count.proofs.CrowdedLemmas.{are-spread, passing-rises}
use Rattle.route_count.proofs.crowded.first_over.Goals as goal

pub loop-slot-init : goal.loop-slot-init
loop-slot-init c = record {
  size = c.requires.room;
  counted = λ number low. c.requires.zeros number 0 low;
  few = λ k low. let zero = c.requires.zeros k 0 low in omega (arith, zero);
}

pub overflow_add-counts : goal.overflow_add-counts
overflow_add-counts c =
    let low : c.cell_number-number.result < length c.loop-slot.counts =
    omega (arith, c.cell_number-number.ensures.within, c.loop-slot.invariant.size) in
    let count = c.loop-slot.invariant.counted c.cell_number-number.result low in
    let few = few-passing (takes c.args.grid c.args.slots.now c.cell_number-number.result)
    c.loop-slot.slot-index in
    omega (arith, count, few, c.loop-slot-test.true, c.requires.few)

pub returns-then-counts-number-clause-some : goal.returns-then-counts-number-clause-some
returns-then-counts-number-clause-some c =
    let number : ℕ = c.cell_number-number.result in
    let low : number < length c.loop-slot.counts =
    omega (arith, c.cell_number-number.ensures.within, c.loop-slot.invariant.size) in
    let size = length-set c.loop-slot.counts number (get_or c.loop-slot.counts number 0 + 1) in
    let more = counted-more (λ s. number_of_cell c.args.grid (slot_at c.args.slots.now s).cell)
    c.loop-slot.slot-index number c.loop-slot.counts c.loop-slot.invariant.counted
    c.cell_number-number.ensures.number low number (omega (arith, low, size)) in
    let rises = passing-rises (takes c.args.grid c.args.slots.now number)
    (c.loop-slot.slot-index + 1) (length c.args.slots.now)
    (omega (arith, c.loop-slot-test.true)) in
    omega (arith, more, rises, c.if-counts-number.true)

pub loop-slot-preserved : goal.loop-slot-preserved
loop-slot-preserved c =
    let number : ℕ = c.cell_number-number.result in
    let low : number < length c.loop-slot.counts =
    omega (arith, c.cell_number-number.ensures.within, c.loop-slot.invariant.size) in
    let more : ℕ = get_or c.loop-slot.counts number 0 + 1 in
    let size : length (slice_set c.loop-slot.counts number more) ≡ length c.loop-slot.counts =
    length-set c.loop-slot.counts number more in
    record {
      size = size ∙ c.loop-slot.invariant.size;
      counted = counted-more
          (λ s. number_of_cell c.args.grid (slot_at c.args.slots.now s).cell)
          c.loop-slot.slot-index number c.loop-slot.counts c.loop-slot.invariant.counted
          c.cell_number-number.ensures.number low;
      few = λ k inside. elim (cases-eq k number) [
        | inl same ↦
            (let here = get_or-set_same c.loop-slot.counts number more 0 low in
            let at : get_or (slice_set c.loop-slot.counts number more) k 0
            ≡ get_or (slice_set c.loop-slot.counts number more) number 0 =
            λ i. get_or (slice_set c.loop-slot.counts number more) (same i) 0 in
            omega (arith, at, c.if-counts-number.false))
        | inr other ↦
            (let there = get_or-set_other c.loop-slot.counts number k more 0 other in
            let was = c.loop-slot.invariant.few k (omega (arith, inside, size)) in
            omega (arith, there, was))
      ];
    }

pub returns-clause-none : goal.returns-clause-none
returns-clause-none c = λ none.
    are-spread c.args.grid c.args.slots.now c.requires.there c.args.width c.loop-slot.counts
    c.loop-slot.invariant.size
    (let all : c.loop-slot.slot-index ≡ length c.args.slots.now =
    omega (arith, c.loop-slot-test.false, c.loop-slot.auto) in
    subst (λ (n : ℕ). AreCounted c.args.grid c.args.slots.now n c.loop-slot.counts) all
    c.loop-slot.invariant.counted)
    c.loop-slot.invariant.few
