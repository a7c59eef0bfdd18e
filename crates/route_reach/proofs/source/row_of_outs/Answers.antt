use Rattle.std.proofs.Common.{◌≡◌, ◌<◌, ◌∙◌, List, Bool, false, length, get_or, arith, refl, ap, sym, Some}
use Rattle.std.specs.Prelude.{filter_map, slice_get, slice_index_or}
use Rattle.list_laws.proofs.Members.{In-all, In-filter_map, In-get}
use Rattle.list_laws.proofs.Places.{get-there}
use Rattle.fpga_graph.specs.GraphOf.{GraphOf}
use Rattle.fpga_graph.proofs.MarkLemmas.{unmarked}
use Rattle.fpga_types.specs.Pins.{HasPin}
use Rattle.fpga_types.specs.declared.route.Elem.{Elem}
use Rattle.fpga_bounds.proofs.LineLemmas.{NO_ELEM}
use Rattle.route_reach.specs.Ends.{opin_of}
use Rattle.route_reach.proofs.SourceLemmas.{mark-more, mark-same}
use Rattle.route_reach.proofs.source.row_of_outs.Goals as goal
use Rattle.route_reach.proofs.source.row_of_outs.Goals.{in-Some, in_default}

pub loop-e-init : goal.loop-e-init
loop-e-init c = unmarked 64

pub mark_reached-requires : goal.mark_reached-requires
mark_reached-requires c =
    let elems : List Elem = c.args.elems.now in
    let e : Elem = get_or elems c.loop-e.e-index NO_ELEM in
    let below : c.loop-e.e-index < length elems = omega arith in
    In-all (HasPin c.args.graph.now.arch) (filter_map opin_of elems) c.in-Some.out
    c.requires.known
    (In-filter_map opin_of elems e c.in-Some.out (In-get elems c.loop-e.e-index NO_ELEM below)
    (sym c.in-Some.ensures))

pub loop-e-preserved : goal.loop-e-preserved
loop-e-preserved c = λ t.
    let g : GraphOf = c.args.graph.now in
    let elems : List Elem = c.args.elems.now in
    let e : Elem = get_or elems c.loop-e.e-index NO_ELEM in
    let below : c.loop-e.e-index < length elems = omega arith in
    let here : slice_get elems c.loop-e.e-index ≡ Some e =
    get-there elems c.loop-e.e-index _ NO_ELEM below refl in
    elim c.match-opin_of.branch [
      | in-Some w ↦
          ap (λ (row : List Bool). slice_index_or row t false) w.row-is
          ∙ mark-more g elems c.loop-e.e-index e c.args.cell t here
          (slice_index_or c.loop-e.row t false) (c.loop-e.invariant t) w.in-Some.out _
          (sym w.in-Some.ensures) (w.mark_reached.ensures t)
      | in_default w ↦
          ap (λ (row : List Bool). slice_index_or row t false) w.row-is
          ∙ mark-same g elems c.loop-e.e-index e c.args.cell t here
          (slice_index_or c.loop-e.row t false) (c.loop-e.invariant t) (sym w.in_default.ensures)
    ]
