use Rattle.std.proofs.Common.{◌<◌, ◌≤◌, ◌∙◌, All, List, ℕ, [], ap, arith, length, subst, suc, sym}
use Rattle.std.proofs.lemmas.List.Elements.{All-take}
use Rattle.fpga_types.specs.Slots.{slots, steps}
use Rattle.fpga_types.specs.declared.limits.TheConstants.{STEP_LIMIT}
use Rattle.fpga_types.specs.declared.problem.RouteStep.{RouteStep}
use Rattle.fpga_types.specs.declared.problem.Slot.{Slot}
use Rattle.problem_facts.specs.Trees.{roots_of}
use Rattle.problem_facts.specs.Leads.{AreTrees, TreesState}
use Rattle.problem_facts.proofs.LeadLemmas.{are-trees}
use Rattle.route_count.specs.Crowded.{IsCrowding, slots_of_cell}
use Rattle.route_count.specs.Said.{HasClauses}
use Rattle.route_count.specs.declared.crowded.Crowding.{Crowding}
use Rattle.route_count.proofs.CountedLemmas.{cell-slots}
use Rattle.route_count.proofs.MeetingLemmas.{cell-row-meets, crowd-row-meets}
use Rattle.route_count.proofs.SaidLemmas.{cell-clauses, crowd-clauses, crowd-nets}
use Rattle.route_count.proofs.counting.counting.Goals as goal

pub counted_row-requires-clause-row : goal.counted_row-requires-clause-row
counted_row-requires-clause-row c =
    let is = subst (λ (found : Crowding).
    IsCrowding c.args.width c.args.problem.now c.args.facts.now.crowd found)
    c.in-Cell.is c.requires.crowding in
    subst (λ (row : List ℕ). All (λ s. s < length (slots c.args.problem.now.route)) row)
    (sym (c.deref.ensures.0 ∙ is.2))
    (All-take (λ s. s < length (slots c.args.problem.now.route)) (suc c.args.width)
    (slots_of_cell c.args.problem.now is.0) (cell-slots c.args.problem.now is.0))

pub counted_row-requires-in-Crowd-clause-row : goal.counted_row-requires-in-Crowd-clause-row
counted_row-requires-in-Crowd-clause-row c =
    let is = subst (λ (found : Crowding). IsCrowding c.args.width c.args.problem.now
    c.args.facts.now.crowd found) c.in-Crowd.is c.requires.crowding in
    subst (λ (row : List ℕ). All (λ s. s < length (slots c.args.problem.now.route)) row)
    (sym (c.deref-in-Crowd.ensures.0 ∙ is.2))
    (All-take (λ s. s < length (slots c.args.problem.now.route)) (suc c.args.width)
    c.args.facts.now.crowd c.requires.facts.crowd.within)

pub counted_row-requires-clause-said : goal.counted_row-requires-clause-said
counted_row-requires-clause-said c =
    let count = ap (λ (xs : List Slot). length xs) c.slots.ensures.value in
    cell-clauses c.args.width c.args.problem.now c.args.formula.now.cnf c.requires.begun _
    c.in_ok-trees-in-Cell.ensures.leads
    (omega (arith, c.in_ok-trees-in-Cell.ensures.each, count))

pub counted_row-requires-clause-meet : goal.counted_row-requires-clause-meet
counted_row-requires-clause-meet c =
    let is = subst (λ (found : Crowding).
    IsCrowding c.args.width c.args.problem.now c.args.facts.now.crowd found)
    c.in-Cell.is c.requires.crowding in
    let count = ap (λ (xs : List Slot). length xs) c.slots.ensures.value in
    cell-row-meets c.args.problem.now c.route-route.ensures.given is.0 c.args.width _ _
    (c.in_ok-trees-in-Cell.ensures.roots ∙ ap (λ (n : ℕ). roots_of [] n) count)
    (c.deref.ensures.0 ∙ is.2)

pub counted_row-requires-in-Crowd-clause-said : goal.counted_row-requires-in-Crowd-clause-said
counted_row-requires-in-Crowd-clause-said c =
    let is = subst (λ (found : Crowding). IsCrowding c.args.width c.args.problem.now
    c.args.facts.now.crowd found) c.in-Crowd.is c.requires.crowding in
    subst (λ (t : TreesState). HasClauses c.args.formula.now.cnf c.args.width
    (slots c.args.problem.now.route) t) (sym c.trees-in-Crowd.ensures)
    (crowd-clauses c.args.width c.args.problem.now c.args.formula.now.cnf c.requires.begun
    c.route-route.ensures.given c.route-route.ensures.fits is.0 c.args.facts.now.trees
    c.requires.facts.leads c.requires.facts.each)

pub counted_row-requires-in-Crowd-clause-trees : goal.counted_row-requires-in-Crowd-clause-trees
counted_row-requires-in-Crowd-clause-trees c =
    let few : length (steps c.args.problem.now.route) ≤ STEP_LIMIT =
    subst (λ (found : List RouteStep). length found ≤ STEP_LIMIT) c.steps-steps.ensures.value
    c.steps-steps.ensures.limit in
    subst (λ (t : TreesState). AreTrees t) (sym c.trees-in-Crowd.ensures)
    (are-trees (steps c.args.problem.now.route) (length (slots c.args.problem.now.route))
    c.args.facts.now.trees few c.requires.facts.each c.requires.facts.roots
    c.requires.facts.leads)

pub counted_row-requires-in-Crowd-clause-nets : goal.counted_row-requires-in-Crowd-clause-nets
counted_row-requires-in-Crowd-clause-nets c =
    crowd-nets c.args.problem.now _
    (ap (λ (t : TreesState). t.roots) c.trees-in-Crowd.ensures ∙ c.requires.facts.roots)

pub counted_row-requires-in-Crowd-clause-meet : goal.counted_row-requires-in-Crowd-clause-meet
counted_row-requires-in-Crowd-clause-meet c =
    let is = subst (λ (found : Crowding). IsCrowding c.args.width c.args.problem.now
    c.args.facts.now.crowd found) c.in-Crowd.is c.requires.crowding in
    crowd-row-meets c.args.problem.now c.args.facts.now.crowd c.requires.facts.crowd c.args.width
    _ _ (ap (λ (t : TreesState). t.roots) c.trees-in-Crowd.ensures ∙ c.requires.facts.roots)
    (c.deref-in-Crowd.ensures.0 ∙ is.2)
