-- A tree that no track serves has none in a legal routing, so that there is no such routing.
use Rattle.std.proofs.Common.{◌≡◌, ℕ, ◌<◌, Bool, true, false, get_or, sym, ap, subst, ◌∙◌, arith}
use Rattle.std.specs.Prelude.{not, slice_index}
use Rattle.std.proofs.lemmas.Bool.{false≢true}
use Rattle.std.proofs.lemmas.Bool.Decides.{Decides-eqb}
use Rattle.list_laws.proofs.Members.{In-all, In-list_any}
use Rattle.fpga_types.specs.Boxes.{Opens, opens}
use Rattle.fpga_types.specs.Fits.{Fits}
use Rattle.fpga_types.specs.Given.{IsGiven}
use Rattle.fpga_types.specs.Problem.{RoutingProblem}
use Rattle.fpga_types.specs.Slots.{pin_steps}
use Rattle.fpga_types.specs.declared.problem.PinStep.{PinStep}
use Rattle.fpga_types.proofs.BoxLemmas.{opens-is}
use Rattle.fpga_types.proofs.MeetingLemmas.{both_true}
use Rattle.fpga_bounds.specs.Problem.{IsPinStepTouching}
use Rattle.fpga_bounds.proofs.PinFacts.{good-pins}
use Rattle.route_encode.specs.Exact.{IsUnroutableAt}
use Rattle.problem_facts.specs.Crowd.{tree_of}
use Rattle.problem_facts.proofs.TrackLaws.{one_track}
use Rattle.problem_facts.specs.Alone.{IsTrackless, closes, is_of_tree}

pub trackless-unroutable : (width : ℕ) (p : RoutingProblem) (tree : ℕ) → IsGiven p → Fits p
    → IsTrackless width p tree → IsUnroutableAt width p
trackless-unroutable width p tree given fits alone tracks legal =
    let track : ℕ = get_or tracks tree 0 in
    let low : track < width = legal.within tree 0 (omega (arith, alone.slot, legal.each)) in
    let found = In-list_any (closes p.arch width (tree_of p) tree track) (pin_steps p.route)
    (alone.closed track low) in
    let step : PinStep = found.0 in
    let parts = both_true (is_of_tree (tree_of p) tree step)
    (not (opens p.arch width step.pin track)) found.2 in
    let root : slice_index (tree_of p) step.slot ≡ tree =
    (Decides-eqb (slice_index (tree_of p) step.slot) tree).0 parts.0 in
    let pin = In-all (IsPinStepTouching p) (pin_steps p.route) step
    (good-pins p fits given.route) found.1 in
    let same : track ≡ get_or tracks step.slot 0 =
    ap (λ (s : ℕ). get_or tracks s 0) (sym root)
    ∙ one_track width p tracks alone.keeps legal step.slot pin.within in
    let open_is : Opens p.arch width step.pin track =
    subst (λ (t : ℕ). Opens p.arch width step.pin t) (sym same)
    (In-all (λ (s : PinStep). Opens p.arch width s.pin (get_or tracks s.slot 0))
    (pin_steps p.route) step legal.reached found.1) in
    not-both (opens p.arch width step.pin track) parts.1
    ((opens-is p.arch width step.pin track).1 open_is)
  where
    not-both : (b : Bool) → not b ≡ true → b ≡ true → ⊥
    not-both true h g = false≢true h
    not-both false h g = false≢true g
