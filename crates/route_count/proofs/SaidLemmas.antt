-- The clauses of a problem have those of which a count is made, and its trees are of one net each.
use Rattle.std.proofs.Common.{◌≡◌, ◌≢◌, ℕ, zero, suc, ◌+◌, ◌*◌, ◌<◌, Option, Some, None, List, [], ◌∷◌, ◌++◌, length, get_or, refl, sym, ap, subst, ◌∙◌, arith}
use Rattle.std.specs.Prelude.{flat_map, map, option_map, option_to_list}
use Rattle.std.specs.List.{range_with_len}
use Rattle.std.proofs.lemmas.Bool.Decides.{Decides-eqb}
use Rattle.list_laws.proofs.Members.{In, In-all, In-append_left, In-append_right, In-flat_map, In-map, In-range, contains-In, find-In}
use Rattle.list_laws.proofs.Places.{get-In}
use Rattle.fpga_types.specs.Boxes.{opens}
use Rattle.fpga_types.specs.Fits.{Fits}
use Rattle.fpga_types.specs.Given.{IsGiven}
use Rattle.fpga_types.specs.Problem.{RoutingProblem}
use Rattle.fpga_types.specs.Slots.{pairs, pin_steps, slot_at, slots, steps}
use Rattle.fpga_types.specs.Tracks.{mapped_track, track_across}
use Rattle.fpga_types.specs.declared.arch.Pattern.{Pattern}
use Rattle.fpga_types.specs.declared.arch.Pattern.TheVariants.{Subset}
use Rattle.fpga_types.specs.declared.grid.Cell.{Cell}
use Rattle.fpga_types.specs.declared.problem.RouteStep.{RouteStep}
use Rattle.fpga_types.specs.declared.problem.Slot.{Slot}
use Rattle.fpga_types.proofs.FitsLemmas.{Fits-IsFit}
use Rattle.fpga_types.proofs.MeetingLemmas.{both_true, meeting-found}
use Rattle.fpga_bounds.proofs.StepFacts.{IsGoodStep, good-steps}
use Rattle.sat_clause.specs.Formula.{Cnf}
use Rattle.sat_clause.specs.Literal.{Clause}
use Rattle.route_encode.specs.Encoding.{apart_track, below, cnf_of, has, joined_track, lacks, not_both, one_track, open_track, some_track, track_after}
use Rattle.route_encode.proofs.CompeteLemmas.{competing, pair-in}
use Rattle.problem_facts.specs.Trees.{later_of, leads_to, roots_of}
use Rattle.problem_facts.proofs.TreeLemmas.{length-roots}
use Rattle.sat_count.specs.Names.{yes}
use Rattle.sat_count.specs.Places.{some_clause}
use Rattle.route_count.specs.Begun.{IsBegunBy}
use Rattle.problem_facts.specs.Leads.{AreLeads, IsLead, TreesState, lead_at}
use Rattle.route_count.specs.Said.{AreInNets, HasClauses, IsOneOf, apart_clause, led_clause}
use Rattle.problem_facts.specs.declared.trees.Lead.{Lead}
use Rattle.route_count.proofs.ForwardLemmas.{IsForward, forward-steps}
use Rattle.problem_facts.proofs.TrackLaws.{root-alike, steps-in-nets}

-- a row of variables, from another number on
row-from : (a b n : ℕ) → map (λ t. yes (a + t)) (range_with_len b n) ≡ some_clause (a + b) n
row-from a b zero = refl
row-from a b (suc n) =
    let next : a + (b + 1) ≡ a + b + 1 = omega arith in
    ap (λ (rest : Clause). yes (a + b) ∷ rest) (row-from a (b + 1) n
    ∙ ap (λ (m : ℕ). some_clause m n) next)

module _ (width : ℕ) (p : RoutingProblem) where
  abbrev all : List Slot
  all = slots p.route

  abbrev across : Cell → Cell → ℕ → Option ℕ
  across = track_across (mapped_track p.arch.pattern width) p.route.grid

  abbrev somes : List Clause
  somes = map (some_track width) (below (length all))

  abbrev ones : List Clause
  ones = flat_map (one_track width) (below (length all))

  abbrev opened : List Clause
  opened = flat_map (open_track (opens p.arch width) width) (pin_steps p.route)

  abbrev joined : List Clause
  joined = flat_map (joined_track across width all) (steps p.route)

  abbrev kept_apart : List Clause
  kept_apart = flat_map (apart_track width) (pairs all)

  some-in : (s : ℕ) → s < length all → In (cnf_of width p).clauses (some_clause (s * width) width)
  some-in s low =
      let first : s * width + 0 ≡ s * width = omega arith in
      let there : In somes (some_track width s) =
      In-map (some_track width) (below (length all)) s
      (In-range 0 (length all) s (omega arith) (omega (arith, low))) in
      subst (λ (c : Clause). In (cnf_of width p).clauses c)
      (row-from (s * width) 0 width ∙ ap (λ (m : ℕ). some_clause m width) first)
      (In-append_left (somes ++ ones ++ opened ++ joined) kept_apart (some_track width s)
      (In-append_left (somes ++ ones ++ opened) joined (some_track width s)
      (In-append_left (somes ++ ones) opened (some_track width s)
      (In-append_left somes ones (some_track width s) there))))

  apart-in : (a b t : ℕ) → a < b → b < length all → t < width
      → (slot_at all a).net ≢ (slot_at all b).net → (slot_at all a).cell ≡ (slot_at all b).cell
      → In (cnf_of width p).clauses (apart_clause width a b t)
  apart-in a b t order low few nets cells =
      In-append_right (somes ++ ones ++ opened ++ joined) kept_apart (apart_clause width a b t)
      (In-flat_map (apart_track width) (pairs all) (a, b) (apart_clause width a b t)
      (pair-in all a b order low (competing (slot_at all a) (slot_at all b) nets cells))
      (In-map (λ u. not_both width a u b u) (below width) t
      (In-range 0 width t (omega arith) (omega (arith, few)))))

  module _ (fits : Fits p) (subset : p.arch.pattern ≡ Subset) where
    same-track : (step : RouteStep) (t : ℕ) → In (steps p.route) step
        → track_after across all step t ≡ Some t
    same-track step t i =
        let good = In-all (IsGoodStep p.route) (steps p.route) step
        (good-steps p.route (Fits-IsFit p fits)) i in
        let m = good.1.0 in
        rw (meeting-found p.route.grid (slot_at all step.from).cell (slot_at all step.to).cell m
        good.1.1)
        (ap (λ (pattern : Pattern). Some (mapped_track pattern width m.from m.to t)) subset)

    joined-in : (step : RouteStep) (t : ℕ) → In (steps p.route) step → t < width
        → In (cnf_of width p).clauses (led_clause width step.from step.to t)
    joined-in step t i few =
        let made : ℕ → Clause = λ u. lacks width step.from u
        ∷ option_to_list (option_map (has width step.to) (track_after across all step u)) in
        let is : made t ≡ led_clause width step.from step.to t =
        ap (λ (o : Option ℕ). lacks width step.from t
        ∷ option_to_list (option_map (has width step.to) o)) (same-track step t i) in
        subst (λ (c : Clause). In (cnf_of width p).clauses c) is
        (In-append_left (somes ++ ones ++ opened ++ joined) kept_apart (made t)
        (In-append_right (somes ++ ones ++ opened) joined (made t)
        (In-flat_map (joined_track across width all) (steps p.route) step (made t) i
        (In-map made (below width) t (In-range 0 width t (omega arith) (omega (arith, few)))))))

    led-in : IsGiven p → (t : TreesState) → AreLeads (steps p.route) 0 t.leads
        → (s track : ℕ) (lead : Lead) → s < length t.leads → track < width
        → lead_at t s ≡ Some lead
        → In (cnf_of width p).clauses (led_clause width lead.from s track)
    led-in given t leads s track lead low few some =
        let is = subst (λ (o : Option Lead). IsLead (steps p.route) 0 s o) some (leads s low) in
        let step : RouteStep = is.0 in
        let i : In (steps p.route) step = get-In (steps p.route) lead.step step is.2 in
        let rises = In-all IsForward (steps p.route) step
        (forward-steps p.route given.route (Fits-IsFit p fits)) i in
        let found = find-In (leads_to s) (steps p.route) step is.1 in
        let later : later_of step ≡ s =
        (Decides-eqb (later_of step) s).0 (both_true _ _ found.1).0 in
        let from : step.from ≡ lead.from = omega (arith, is.3, rises) in
        let to : step.to ≡ s = omega (arith, later, rises) in
        subst (λ (n : ℕ). In (cnf_of width p).clauses (led_clause width lead.from n track)) to
        (subst (λ (n : ℕ). In (cnf_of width p).clauses (led_clause width n step.to track)) from
        (joined-in step track i few))

  module _ (formula : Cnf) (begun : IsBegunBy formula (cnf_of width p)) where
    lifted : (c : Clause) → In (cnf_of width p).clauses c → IsOneOf formula.clauses c
    lifted c i others =
        let there = contains-In formula.clauses c
        (subst (λ (cs : List Clause). In cs c) (sym begun.clauses.1)
        (In-append_left (cnf_of width p).clauses begun.clauses.0 c i)) in
        others there.0 c there.1 there.2

    has-clauses : (t : TreesState)
        → ((s track : ℕ) (lead : Lead) → s < length all → track < width → lead_at t s ≡ Some lead
        → In (cnf_of width p).clauses (led_clause width lead.from s track))
        → HasClauses formula width all t
    has-clauses t led = record {
      some = λ s low. lifted (some_clause (s * width) width) (some-in s low);
      led = λ s track lead low few some.
          lifted (led_clause width lead.from s track) (led s track lead low few some);
      apart = λ a b track order low few nets cells.
          lifted (apart_clause width a b track) (apart-in a b track order low few nets cells);
    }

    -- where each slot is a tree by itself
    pub cell-clauses : (t : TreesState) → AreLeads [] 0 t.leads → length t.leads ≡ length all
        → HasClauses formula width all t
    cell-clauses t leads size =
        has-clauses t (λ s track lead low few some.
        let is = subst (λ (o : Option Lead). IsLead [] 0 s o) some
        (leads s (omega (arith, low, size))) in
        absurd (let clash : None ≡ Some is.0 = is.1 in cc))

    -- under subset switch blocks
    pub crowd-clauses : IsGiven p → Fits p → p.arch.pattern ≡ Subset → (t : TreesState)
        → AreLeads (steps p.route) 0 t.leads → length t.leads ≡ length all
        → HasClauses formula width all t
    crowd-clauses given fits subset t leads size =
        has-clauses t (λ s track lead low few some.
        led-in fits subset given t leads s track lead (omega (arith, low, size)) few some)

-- ---- trees are of one net

pub crowd-nets : (p : RoutingProblem) (t : TreesState)
    → t.roots ≡ roots_of (steps p.route) (length (slots p.route)) → AreInNets (slots p.route) t
crowd-nets p t are = record {
  each = ap length are ∙ length-roots (steps p.route) (length (slots p.route));
  nets = λ s low.
      ap (λ (xs : List ℕ). (slot_at (slots p.route) (get_or xs s 0)).net) are
      ∙ root-alike (λ n. (slot_at (slots p.route) n).net) (steps p.route) (steps-in-nets p.route)
      (length (slots p.route)) s low;
}
