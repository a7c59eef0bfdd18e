use Rattle.std.proofs.Common.{rules, ℕ, List, ◌∙◌, ◌++◌, ap, sym, arith, add-one, append_assoc, get_or}
use Rattle.std.specs.Prelude.{flat_map, string_bytes, take}
use Rattle.list_laws.proofs.FrontParts.{made-next, made-whole}
use Rattle.list_laws.proofs.Places.{get-there}
use Rattle.fpga_types.specs.declared.grid.PinAt.TheVariants.{Pad}
use Rattle.fpga_types.specs.declared.problem.PinStep.{PinStep}
use Rattle.router_says.specs.Seen.{pin_said}
use Rattle.router_says.proofs.places.append_places.Goals as goal

abbrev said : PinStep → List ℕ
said step = pin_said step.pin

pub loop-step-preserved : goal.loop-step-preserved
loop-step-preserved c =
    let row : List PinStep = c.args.row.now in
    let i : ℕ = c.loop-step.step-index in
    let step : PinStep = get_or row i (record { pin = Pad 0 0 0; slot = 0 }) in
    let old : List ℕ = string_bytes c.args.out.now in
    let front : List ℕ = flat_map said (take i row) in
    let at = get-there row i step (record { pin = Pad 0 0 0; slot = 0 }) (search rules)
    (search rules) in
    rw add-one
    (c.in_ok-append_pin.ensures ∙ ap (λ (t : List ℕ). t ++ said step) c.loop-step.invariant
    ∙ append_assoc old front (said step)
    ∙ ap (λ (t : List ℕ). old ++ t) (sym (made-next said row i step at)))

pub returns : goal.returns
returns c =
    c.loop-step.invariant
    ∙ ap (λ (t : List ℕ). string_bytes c.args.out.now ++ t)
    (made-whole said c.args.row.now c.loop-step.step-index (omega arith))
