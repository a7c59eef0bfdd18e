use Rattle.std.proofs.Common.{◌≡◌, ◌∙◌, [], ap, sym}
use Rattle.std.specs.Prelude.{filter_map}
use Rattle.std.specs.List.{list_any}
use Rattle.fpga_graph.specs.Wires.{wire_in}
use Rattle.fpga_graph.proofs.MarkLemmas.{unmarked}
use Rattle.route_reach.specs.Encoding.{reaches}
use Rattle.route_reach.specs.Ends.{opin_of}
use Rattle.route_reach.proofs.SourceLemmas.{empty-row, first-in, nothing-first}
use Rattle.route_reach.proofs.source.source_row.Goals as goal

pub returns-in_default : goal.returns-in_default
returns-in_default c = λ t.
    let none : filter_map opin_of c.args.elems.now ≡ [] =
    nothing-first (filter_map opin_of c.args.elems.now) (sym c.in_default.ensures) in
    unmarked 64 t ∙ sym (ap (list_any (λ out. reaches c.args.graph.now out
    (wire_in c.args.cell t))) none)

pub returns-then-not-is_beside : goal.returns-then-not-is_beside
returns-then-not-is_beside c =
    empty-row c.args.graph.now (filter_map opin_of c.args.elems.now) c.in-Some.first c.args.cell
    c.requires (first-in (filter_map opin_of c.args.elems.now) c.in-Some.first
    (sym c.in-Some.ensures))
    (sym c.is_beside.ensures ∙ c.if-not-is_beside.true)
