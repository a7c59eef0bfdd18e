use Rattle.std.proofs.Common.{rules, ℕ, List, ◌∙◌, ◌++◌, ap, sym, arith, add-one, append_assoc, get_or}
use Rattle.std.specs.Prelude.{flat_map, take}
use Rattle.fpga_types.specs.declared.netlist.Netlist.{Netlist}
use Rattle.list_laws.proofs.FrontParts.{made-next, made-whole}
use Rattle.list_laws.proofs.Places.{get-there}
use Rattle.run_placed.specs.Bound.{net_line}
use Rattle.run_placed.proofs.bounding.append_nets.Goals as goal

pub loop-number-preserved : goal.loop-number-preserved
loop-number-preserved c =
    let netlist : Netlist = c.args.netlist.now in
    let numbers : List ℕ = c.args.numbers.now in
    let i : ℕ = c.loop-number.number-index in
    let number : ℕ = get_or numbers i 0 in
    let old : List ℕ = c.args.lines.now.items in
    let front : List ℕ = flat_map (net_line netlist) (take i numbers) in
    let at = get-there numbers i number number (search rules) (search rules) in
    rw add-one
    (c.in_ok-append_net.ensures
    ∙ ap (λ (t : List ℕ). t ++ net_line netlist number) c.loop-number.invariant
    ∙ append_assoc old front (net_line netlist number)
    ∙ ap (λ (t : List ℕ). old ++ t) (sym (made-next (net_line netlist) numbers i number at)))

pub returns : goal.returns
returns c =
    c.loop-number.invariant
    ∙ ap (λ (t : List ℕ). c.args.lines.now.items ++ t)
    (made-whole (net_line c.args.netlist.now) c.args.numbers.now c.loop-number.number-index
    (omega arith))
