use Rattle.std.proofs.Common.{◌≡◌, ◌∙◌, ◌<◌, ℕ, List, length, rules, sym, ap}
use Rattle.std.proofs.lemmas.List.FromFn.{length-range_with_len}
use Rattle.desk_io.proofs.RowLemmas.{row-ends, row-fails, row-passes}
use Rattle.desk_io.proofs.WritingLaws.{passes-none}
use Rattle.fpga_types.specs.Slots.{slot_at, slots}
use Rattle.fpga_types.specs.declared.problem.Slot.{Slot}
use Rattle.fpga_types.specs.declared.route.RouteText.{RouteText}
use Rattle.route_encode.specs.Encoding.{below}
use Rattle.route_sweep.specs.NetNames.{name_at}
use Rattle.run_clauses.specs.VariableNames.{lines_of_slot}
use Rattle.run_clauses.proofs.VariableNameLaws.{below-there, lines-here}
use Rattle.run_clauses.proofs.variable_names.write_names.Goals as goal

pub loop-number-init : goal.loop-number-init
loop-number-init g c = record { passed = passes-none _ _; created = c.requires.created }

pub returns-in_default : goal.returns-in_default
returns-in_default g c =
    let route : RouteText = c.args.problem.now.route in
    let number : ℕ = c.loop-number.number in
    let all : List Slot = c.slots-slots.result.now in
    let inside : number < length (slots route) =
    rw c.slots-slots.ensures.value at c.loop-number-test.true in
    let same = lines-here route c.args.width number all c.net_name-name.result.now
    c.slots-slots.ensures.value
    (c.net_name-name.ensures
    ∙ ap (λ (r : RouteText). name_at r (slot_at all number).net) c.route-route.ensures.value) in
    row-fails (lines_of_slot c.args.width route) (below (length (slots route))) number number
    (below-there (length (slots route)) number inside) c.loop-number.invariant.passed
    (rw same at c.in_default.ensures)

pub loop-number-preserved : goal.loop-number-preserved
loop-number-preserved g c =
    let route : RouteText = c.args.problem.now.route in
    let number : ℕ = c.loop-number.number in
    let all : List Slot = c.slots-slots.result.now in
    let inside : number < length (slots route) =
    rw c.slots-slots.ensures.value at c.loop-number-test.true in
    let same = lines-here route c.args.width number all c.net_name-name.result.now
    c.slots-slots.ensures.value
    (c.net_name-name.ensures
    ∙ ap (λ (r : RouteText). name_at r (slot_at all number).net) c.route-route.ensures.value) in
    record {
      passed = row-passes (lines_of_slot c.args.width route) (below (length (slots route))) number
          number (below-there (length (slots route)) number inside)
          c.loop-number.invariant.passed (rw same at c.in-Ok.ensures);
      created = search rules;
    }

pub returns : goal.returns
returns g c =
    let route : RouteText = c.args.problem.now.route in
    let all : c.loop-number.number ≡ length (slots route) =
    search (rules, c.slots-slots.ensures.value) in
    row-ends (lines_of_slot c.args.width route) (below (length (slots route)))
    c.loop-number.number (all ∙ sym (length-range_with_len 0 (length (slots route))))
    c.loop-number.invariant.passed
