use Rattle.std.proofs.Common.{◌≡◌, ◌<◌, ◌++◌, ◌∙◌, ℕ, suc, All, List, [], ◌∷◌, length, ap, arith, subst, sym}
use Rattle.std.specs.Prelude.{filter, map}
use Rattle.std.specs.List.{list_any}
use Rattle.std.proofs.lemmas.List.{map-append}
use Rattle.list_laws.proofs.Members.{all-from_In, from_In-filter, from_In-range}
use Rattle.route_core.proofs.BlameLemmas.{filter-failed, filter-passed}
use Rattle.route_core.specs.Blamed.{is_hint, used_places}
use Rattle.cell_clauses.specs.Clauses.{below}
use Rattle.cell_clauses.specs.Held.{frame_in}
use Rattle.cell_bound.specs.Blamed.{demands_at, is_blamed, number_at}
use Rattle.cell_bound.proofs.blaming.blamed_nets.Goals as goal

pub has_demand-requires-clause-there : goal.has_demand-requires-clause-there
has_demand-requires-clause-there c =
    let many : ℕ = length c.args.formula.now.cnf.clauses in
    let steps = c.args.log.now.steps in
    let used : c.as_slice.result.now ≡ used_places many steps =
    c.as_slice.ensures.value ∙ c.in_ok-used.ensures
    ∙ ap (λ (n : ℕ). used_places n steps) c.len.ensures in
    subst (λ (row : List ℕ). All (λ at. at < many) row) (sym used)
    (all-from_In (λ at. at < many) (used_places many steps) (λ at i.
    let within = from_In-filter (λ at. is_hint steps (suc at)) (below many) at i in
    let range = from_In-range 0 many at within.0 in
    omega (arith, range.1)))

pub loop-place-preserved-then-not-has_demand : goal.loop-place-preserved-then-not-has_demand
loop-place-preserved-then-not-has_demand c =
    let frame = frame_in c.args.window.now in
    let formula = c.args.formula.now.cnf in
    let steps = c.args.log.now.steps in
    let place : ℕ = c.loop-place.place in
    let used : c.as_slice.result.now ≡ used_places (length formula.clauses) steps =
    c.as_slice.ensures.value ∙ c.in_ok-used.ensures
    ∙ ap (λ (n : ℕ). used_places n steps) c.len.ensures in
    let is : c.has_demand.result ≡ is_blamed frame formula steps place =
    c.has_demand.ensures ∙ ap (list_any (demands_at frame formula.clauses place)) used in
    c.loop-place.invariant
    ∙ ap (map (number_at frame))
    (filter-failed (is_blamed frame formula steps) place (sym is ∙ c.if-not-has_demand.true))

pub loop-place-preserved : goal.loop-place-preserved
loop-place-preserved c =
    let frame = frame_in c.args.window.now in
    let formula = c.args.formula.now.cnf in
    let steps = c.args.log.now.steps in
    let place : ℕ = c.loop-place.place in
    let used : c.as_slice.result.now ≡ used_places (length formula.clauses) steps =
    c.as_slice.ensures.value ∙ c.in_ok-used.ensures
    ∙ ap (λ (n : ℕ). used_places n steps) c.len.ensures in
    let is : c.has_demand.result ≡ is_blamed frame formula steps place =
    c.has_demand.ensures ∙ ap (list_any (demands_at frame formula.clauses place)) used in
    let front : List ℕ = filter (is_blamed frame formula steps) (below place) in
    c.in_ok-push.ensures.items
    ∙ ap (λ (xs : List ℕ). xs ++ c.net_number.result ∷ []) c.loop-place.invariant
    ∙ ap (λ (n : ℕ). map (number_at frame) front ++ n ∷ []) c.net_number.ensures
    ∙ sym (map-append (number_at frame) front (place ∷ []))
    ∙ ap (map (number_at frame))
    (filter-passed (is_blamed frame formula steps) place (sym is ∙ c.if-not-has_demand.false))
