use Rattle.std.proofs.Common.{◌≡◌, List, ◌++◌, length, get_or, ap, refl, subst, sym, ◌∙◌, arith}
use Rattle.std.specs.Prelude.{OnOk, filter_map, map, slice_get}
use Rattle.list_laws.proofs.Places.{get-there}
use Rattle.fpga_types.specs.Terminals.{terminal_in}
use Rattle.fpga_types.specs.declared.netlist.Net.{Net}
use Rattle.fpga_types.specs.declared.netlist.PinRef.{PinRef}
use Rattle.fpga_types.specs.declared.problem.Terminal.{Terminal}
use Rattle.cell_clauses.specs.Held.{placed_of}
use Rattle.cell_clauses.specs.declared.window.Arrival.{Arrival}
use Rattle.cell_clauses.proofs.FindingLemmas.{no-sinks, own-sinks}
use Rattle.cell_clauses.proofs.placed.Placed.add_arrivals.Goals as goal

pub returns-then-number-nets : goal.returns-then-number-nets
returns-then-number-nets c =
    no-sinks (placed_of c.args.self.now) c.args.place c.args.net c.args.arrivals.now.items
    (let e = ap length c.as_slice-nets.ensures in omega (arith, e, c.if-number-nets.true))

pub returns : goal.returns
returns c =
    let nets = c.as_slice-nets.result.now in
    let found : Net = get_or nets c.args.net.number c.index-nets-number.result in
    subst (λ (row : List Arrival). OnOk c.add_sinks.result
    (c.add_sinks.new.arrivals.items ≡ c.args.arrivals.now.items ++ row))
    (ap (λ (pins : List PinRef). map (λ (at : Terminal). record { net = c.args.place; at = at })
    (filter_map (terminal_in (placed_of c.args.self.now)) pins)) c.as_slice.ensures
    ∙ own-sinks (placed_of c.args.self.now) c.args.place c.args.net found
    (ap (λ (ns : List Net). slice_get ns c.args.net.number) (sym c.as_slice-nets.ensures)
    ∙ get-there nets c.args.net.number found c.index-nets-number.result c.if-number-nets.false
    refl)) c.add_sinks.ensures
