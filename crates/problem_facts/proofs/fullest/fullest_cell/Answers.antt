use Rattle.std.proofs.Common.{ℕ, ◌≤◌, length, take, ◌∙◌, arith}
use Rattle.std.proofs.lemmas.List.{length-take-le}
use Rattle.problem_facts.proofs.CellCountLemmas.{counted-front, first-most}
use Rattle.problem_facts.proofs.fullest.fullest_cell.Goals as goal

pub returns : goal.returns
returns c =
    let cells : ℕ = c.cells_of.result in
    let room : cells ≤ length c.count_slots.new.counts =
    omega (arith, c.cells_of.ensures.within, c.count_slots.ensures.size) in
    record {
      first = first-most c.args.grid c.args.slots.now (take cells c.count_slots.new.counts)
          c.first_greatest.result
          (length-take-le cells c.count_slots.new.counts room ∙ c.cells_of.ensures.count)
          (counted-front c.args.grid c.args.slots.now (length c.args.slots.now) cells
          c.count_slots.new.counts c.count_slots.ensures.counted room)
          c.first_greatest.ensures;
    }
