use Rattle.std.proofs.Common.{◌≡◌, ◌+◌, ◌*◌, ◌∙◌, sym, ap}
use Rattle.fpga_types.specs.declared.arch.Arch.{Arch}
use Rattle.route_ordered.specs.Counts.{clauses_per_slot}
use Rattle.route_ordered.specs.Ordered.{slots_among}
use Rattle.route_ordered.proofs.EncoderLemmas.{count-ordered}
use Rattle.route_ordered.proofs.ordered.OrderedEncoder.count.Goals as goal

pub returns : goal.returns
returns c =
    let each : c.clauses_per_slot-each.result
    ≡ clauses_per_slot c.args.problem.now.arch.pattern c.args.width =
    c.clauses_per_slot-each.ensures.value
    ∙ ap (λ (a : Arch). clauses_per_slot a.pattern c.args.width) c.arch.ensures.value in
    (λ i. c.count.ensures.count i + c.len.ensures.value i * each i)
    ∙ sym (count-ordered c.args.width c.args.problem.now
    (slots_among c.args.problem.now c.args.self.now.row.items) c.ordered_row-row.result.items
    c.ordered_row-row.ensures.row)
