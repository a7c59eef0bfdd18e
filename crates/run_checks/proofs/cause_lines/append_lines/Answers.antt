use Rattle.std.proofs.Common.{rules, ℕ, List, ◌∙◌, ◌++◌, ap, sym, arith, add-one, append_assoc, get_or}
use Rattle.std.specs.Prelude.{flat_map, take, None}
use Rattle.fpga_types.specs.declared.route.RouteNet.{RouteNet}
use Rattle.list_laws.proofs.FrontParts.{made-next, made-whole}
use Rattle.list_laws.proofs.Places.{get-there}
use Rattle.route_verify.specs.declared.line_cause.LineCause.{LineCause}
use Rattle.run_checks.specs.Causes.{cause_line}
use Rattle.run_checks.proofs.cause_lines.append_lines.Goals as goal

-- what is read past the end of some causes
abbrev NO_CAUSE : LineCause
NO_CAUSE = record { line = 0; cause = 0; net = None; elem = None }

pub loop-at-preserved : goal.loop-at-preserved
loop-at-preserved c =
    let nets : List RouteNet = c.args.nets.now in
    let causes : List LineCause = c.args.causes.now in
    let i : ℕ = c.loop-at.at-index in
    let cause : LineCause = get_or causes i NO_CAUSE in
    let old : List ℕ = c.args.lines.now.items in
    let front : List ℕ = flat_map (cause_line nets) (take i causes) in
    let at = get-there causes i cause NO_CAUSE (search rules) (search rules) in
    rw add-one
    (c.in_ok-append_line.ensures
    ∙ ap (λ (t : List ℕ). t ++ cause_line nets cause) c.loop-at.invariant
    ∙ append_assoc old front (cause_line nets cause)
    ∙ ap (λ (t : List ℕ). old ++ t) (sym (made-next (cause_line nets) causes i cause at)))

pub returns : goal.returns
returns c =
    c.loop-at.invariant
    ∙ ap (λ (t : List ℕ). c.args.lines.now.items ++ t)
    (made-whole (cause_line c.args.nets.now) c.args.causes.now c.loop-at.at-index (omega arith))
