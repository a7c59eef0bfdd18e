-- Where switch blocks keep tracks, a tree has one track, and trees that meet have different ones.
use Rattle.std.proofs.Common.{◌≡◌, ◌≢◌, ℕ, zero, suc, ◌+◌, ◌<◌, ◌≤◌, Bool, true, false, Option, Some, None, List, [], ◌∷◌, ◌++◌, length, get_or, refl, sym, ap, subst, ◌∙◌, inl, inr, arith, All, AllPairs}
use Rattle.std.specs.Prelude.{◌==◌, not, find, map, filter_map, option_map, slice_get}
use Rattle.std.specs.List.{enumerate_from}
use Rattle.std.specs.Option.{option_map_or}
use Rattle.std.proofs.lemmas.Bool.{cases_lt, false≢true}
use Rattle.std.proofs.lemmas.Bool.Decides.{Decides-eqb}
use Rattle.std.proofs.lemmas.List.{get_or-append-add, get_or-map, get_or_default, get_or_past, length-map}
use Rattle.std.proofs.lemmas.Map.Made.{IsDistinct-from_AllPairs}
use Rattle.std.proofs.lemmas.Map.Steps.{length-le_from_distinct_below}
use Rattle.std.proofs.Math.ListN.{get_or-append}
use Rattle.list_laws.proofs.Members.{In-all, In-list_any, find-In, from_In-map, from_In-range}
use Rattle.list_laws.proofs.Numbered.{numbered-there}
use Rattle.fpga_types.specs.CellNumbers.{number_of_cell}
use Rattle.fpga_types.specs.Given.{IsGiven}
use Rattle.fpga_types.specs.Legal.{wire_of}
use Rattle.fpga_types.specs.Problem.{RoutingProblem}
use Rattle.fpga_types.specs.Size.{Size}
use Rattle.fpga_types.specs.Slots.{adjacent, elem_cell, elem_slot, slot_at, slots, step_of, steps}
use Rattle.fpga_types.specs.Tracks.{AreJoined, mapped_track}
use Rattle.fpga_types.specs.declared.arch.Pattern.{Pattern}
use Rattle.fpga_types.specs.declared.arch.Pattern.TheVariants.{Subset}
use Rattle.fpga_types.specs.declared.grid.Cell.{Cell}
use Rattle.fpga_types.specs.declared.problem.RouteStep.{RouteStep}
use Rattle.fpga_types.specs.declared.problem.Slot.{Slot}
use Rattle.fpga_types.specs.declared.route.Elem.{Elem}
use Rattle.fpga_types.specs.declared.route.RouteNet.{RouteNet}
use Rattle.fpga_types.specs.declared.route.RouteText.{RouteText}
use Rattle.fpga_types.proofs.CellLemmas.{number-alone}
use Rattle.fpga_types.proofs.MeetingLemmas.{both_true}
use Rattle.fpga_bounds.proofs.StepFacts.{adjacent-there, each-all, each-brought, each-made, slot-in, slot-there, step-parts}
use Rattle.route_encode.specs.Encoding.{below}
use Rattle.route_encode.specs.Exact.{IsLegalRouting}
use Rattle.problem_facts.proofs.Rivals.{rivals-in}
use Rattle.problem_facts.proofs.SlotCells.{slot-cell-there}
use Rattle.problem_facts.specs.Crowd.{IsCrowd, tree_of}
use Rattle.problem_facts.specs.Fullest.{slots_in}
use Rattle.problem_facts.specs.Trees.{earlier_of, is_meeting_slot, is_tree_in, later_of, leads_to, meet, reached_from, roots_of}
use Rattle.problem_facts.proofs.TreeLemmas.{length-roots, reached-early}
use Rattle.problem_facts.specs.Tracks.{HaveDifferentTracks, HaveOneTrack}

-- ---- what each step keeps, each tree has in common

module _ (f : ℕ → ℕ) (found : List RouteStep) (kept : All (λ s. f s.from ≡ f s.to) found) where
  reached-alike : (s : ℕ) → f (reached_from found s) ≡ f s
  reached-alike s = go (find (leads_to s) found) refl
    where
      go : (o : Option RouteStep) → find (leads_to s) found ≡ o
          → f (option_map_or earlier_of o s) ≡ f s
      go None e = refl
      go (Some step) e =
          let there = find-In (leads_to s) found step e in
          let later : later_of step ≡ s =
          (Decides-eqb (later_of step) s).0 (both_true (later_of step == s) _ there.1).0 in
          let one : f step.from ≡ f step.to =
          In-all (λ (q : RouteStep). f q.from ≡ f q.to) found step kept there.0 in
          elim (cases_lt step.from step.to) [
            | inl rises ↦
                (let low : earlier_of step ≡ step.from = omega (arith, rises) in
                let high : step.to ≡ s = omega (arith, rises, later) in
                ap f low ∙ one ∙ ap f high)
            | inr falls ↦
                (let low : earlier_of step ≡ step.to = omega (arith, falls) in
                let high : step.from ≡ s = omega (arith, falls, later) in
                ap f low ∙ sym one ∙ ap f high)
          ]

  pub root-alike : (n k : ℕ) → k < n → f (get_or (roots_of found n) k 0) ≡ f k
  root-alike zero k low = absurd (omega (arith, low))
  root-alike (suc n) k low = elim (cases_lt k n) [
    | inl before ↦
        (let e = get_or-append xs (last ∷ []) 0 k
        (omega (arith, before, length-roots found n)) in
        ap f e ∙ root-alike n k before)
    | inr not_before ↦
        (let at : k ≡ length xs + 0 = omega (arith, low, not_before, length-roots found n) in
        let same : n ≡ k = omega (arith, low, not_before) in
        let here : get_or (xs ++ last ∷ []) k 0 ≡ last =
        ap (λ (m : ℕ). get_or (xs ++ last ∷ []) m 0) at
        ∙ get_or-append-add xs (last ∷ []) 0 0 in
        ap f here ∙ newest (λ j before. root-alike n j before) ∙ reached-alike n
        ∙ ap f same)
  ]
    where
      xs : List ℕ
      xs = roots_of found n

      q : ℕ
      q = reached_from found n

      last : ℕ
      last = get_or xs q n

      newest : ((j : ℕ) → j < n → f (get_or xs j 0) ≡ f j) → f last ≡ f q
      newest earlier = elim (cases_lt q n) [
        | inl before ↦
            (let e = get_or_default xs q n 0 (omega (arith, before, length-roots found n)) in
            ap f e ∙ earlier q before)
        | inr not_before ↦
            (let e = get_or_past xs q n (omega (arith, not_before, length-roots found n)) in
            let same : n ≡ q = omega (arith, not_before, reached-early found n) in
            ap f e ∙ ap f same)
      ]

-- ---- a step joins slots of one net

slot-net : (n : ℕ) (e : Elem) (s : Slot) → elem_slot n e ≡ Some s → s.net ≡ n
slot-net n e s h = go (elem_cell e) h
  where
    some_is : (a b : Slot) → Some a ≡ Some b → a ≡ b
    some_is a b g = cc

    go : (o : Option Cell) → option_map {T = Cell} {U = Slot}
        (λ cell. record { net = n; cell = cell }) o ≡ Some s → s.net ≡ n
    go None g = cc
    go (Some c) g = sym (ap (λ (t : Slot). t.net)
        (some_is (record { net = n; cell = c }) s g))

abbrev IsInNet : RouteText → RouteStep → Type 0
IsInNet route s = (slot_at (slots route) s.from).net ≡ (slot_at (slots route) s.to).net

pub steps-in-nets : (route : RouteText) → All (IsInNet route) (steps route)
steps-in-nets route = each-all (IsInNet route) (steps route)
    (each-brought (IsInNet route)
    (λ (n : ℕ × RouteNet). filter_map
    (λ p. step_of (slots route) (elem_slot n.0 p.0) (elem_slot n.0 p.1)) (adjacent n.1.elems))
    (enumerate_from 0 route.nets) (λ k z numbered.
    let place = numbered-there 0 route.nets k z numbered in
    let number : k ≡ z.0 = omega (arith, place.0) in
    let here : slice_get route.nets z.0 ≡ Some z.1 =
    subst (λ (m : ℕ). slice_get route.nets m ≡ Some z.1) number place.1 in
    each-made (IsInNet route) (λ p. step_of (slots route) (elem_slot z.0 p.0)
    (elem_slot z.0 p.1)) (adjacent z.1.elems) (λ i p s beside made.
    let ends = adjacent-there z.1.elems i p beside in
    let parts = step-parts (slots route) (elem_slot z.0 p.0) (elem_slot z.0 p.1) s made in
    subst (IsInNet route) parts.4
    (let from = slot-there (slots route) parts.0
    (slot-in route.nets z.0 z.1 i p.0 parts.0 here ends.0 parts.2) in
    let to = slot-there (slots route) parts.1
    (slot-in route.nets z.0 z.1 (suc i) p.1 parts.1 here ends.1 parts.3) in
    ap (λ (t : Slot). t.net) from ∙ slot-net z.0 p.0 parts.0 parts.2
    ∙ sym (ap (λ (t : Slot). t.net) to ∙ slot-net z.0 p.1 parts.1 parts.3)))))

-- ---- the laws

module _ (width : ℕ) (p : RoutingProblem) (tracks : List ℕ) where
  steps-keep : p.arch.pattern ≡ Subset → IsLegalRouting width p tracks
      → All (λ s. get_or tracks s.from 0 ≡ get_or tracks s.to 0) (steps p.route)
  steps-keep subset legal k d low =
      let step : RouteStep = get_or (steps p.route) k d in
      let joined = legal.joined k d low in
      (subst (λ (pattern : Pattern). AreJoined (mapped_track pattern width) p.route.grid
      (wire_of (slots p.route) tracks step.from) (wire_of (slots p.route) tracks step.to))
      subset joined).2

  pub one_track : p.arch.pattern ≡ Subset → IsLegalRouting width p tracks → HaveOneTrack p tracks
  one_track subset legal s low =
      root-alike (λ n. get_or tracks n 0) (steps p.route) (steps-keep subset legal)
      (length (slots p.route)) s low

  module _ (given : IsGiven p) (legal : IsLegalRouting width p tracks) where
    abbrev all : List Slot
    all = slots p.route

    abbrev grid : Size
    grid = p.route.grid

    abbrev roots : List ℕ
    roots = tree_of p

    one-net : (s : ℕ) → s < length all → (slot_at all (get_or roots s 0)).net ≡ (slot_at all s).net
    one-net s low =
        root-alike (λ n. (slot_at all n).net) (steps p.route) (steps-in-nets p.route)
        (length all) s low

    meeting-differs : p.arch.pattern ≡ Subset → (a b : ℕ) → meet grid all roots a b ≡ true
        → get_or tracks a 0 ≢ get_or tracks b 0
    meeting-differs subset a b met =
        let parts = both_true (not ((slot_at all a).net == (slot_at all b).net)) _ met in
        let first = In-list_any (is_meeting_slot grid all roots a b) (below (length all)) parts.1 in
        let s : ℕ = first.0 in
        let s_low : s < length all =
        omega (arith, (from_In-range 0 (length all) s first.1).1) in
        let of_s = both_true (get_or roots s 0 == a) _ first.2 in
        let number : ℕ = number_of_cell grid (slot_at all s).cell in
        let second = In-list_any (is_tree_in grid all roots b number) (below (length all)) of_s.1 in
        let t : ℕ = second.0 in
        let t_low : t < length all =
        omega (arith, (from_In-range 0 (length all) t second.1).1) in
        let of_t = both_true (get_or roots t 0 == b) _ second.2 in
        let root_s : get_or roots s 0 ≡ a = (Decides-eqb (get_or roots s 0) a).0 of_s.0 in
        let root_t : get_or roots t 0 ≡ b = (Decides-eqb (get_or roots t 0) b).0 of_t.0 in
        let same_number : number_of_cell grid (slot_at all t).cell ≡ number =
        (Decides-eqb (number_of_cell grid (slot_at all t).cell) number).0 of_t.1 in
        let cell : (slot_at all t).cell ≡ (slot_at all s).cell =
        number-alone grid (slot_at all s).cell (slot-cell-there p.route given.route s s_low)
        (slot_at all t).cell (slot-cell-there p.route given.route t t_low) same_number in
        let net_s : (slot_at all a).net ≡ (slot_at all s).net =
        ap (λ (r : ℕ). (slot_at all r).net) (sym root_s) ∙ one-net s s_low in
        let net_t : (slot_at all b).net ≡ (slot_at all t).net =
        ap (λ (r : ℕ). (slot_at all r).net) (sym root_t) ∙ one-net t t_low in
        let nets : (slot_at all s).net ≢ (slot_at all t).net = λ e. not-true
        ((slot_at all a).net == (slot_at all b).net) parts.0
        ((Decides-eqb (slot_at all a).net (slot_at all b).net).1 (net_s ∙ e ∙ sym net_t)) in
        let track_s : get_or tracks a 0 ≡ get_or tracks s 0 =
        ap (λ (r : ℕ). get_or tracks r 0) (sym root_s) ∙ one_track subset legal s s_low in
        let track_t : get_or tracks b 0 ≡ get_or tracks t 0 =
        ap (λ (r : ℕ). get_or tracks r 0) (sym root_t) ∙ one_track subset legal t t_low in
        λ e. legal.apart s t s_low t_low nets (sym cell) (sym track_s ∙ e ∙ track_t)
      where
        not-true : (b : Bool) → not b ≡ true → b ≡ true → ⊥
        not-true true h g = false≢true h
        not-true false h g = false≢true g

    crowd-differs : p.arch.pattern ≡ Subset → (crowd : List ℕ) → IsCrowd p crowd
        → HaveDifferentTracks tracks crowd
    crowd-differs subset crowd is i j d before low =
        let met = is.met i j d before low in
        λ e. meeting-differs subset (get_or crowd j d) (get_or crowd i d) met (sym e)

    cell-differs : (number : ℕ) → HaveDifferentTracks tracks (slots_in grid all number)
    cell-differs number i j d before low =
        let rivals = rivals-in p given number in
        let row : List ℕ = slots_in grid all number in
        let first : i < length row = omega (arith, before, low) in
        let at_i : get_or row i d ≡ get_or row i 0 = get_or_default row i d 0 first in
        let at_j : get_or row j d ≡ get_or row j 0 = get_or_default row j d 0 low in
        λ e. legal.apart (get_or row i 0) (get_or row j 0) (rivals.within i first)
        (rivals.within j low) (rivals.nets i j before low) (rivals.cells i j before low)
        (ap (λ (r : ℕ). get_or tracks r 0) (sym at_i) ∙ e
        ∙ ap (λ (r : ℕ). get_or tracks r 0) at_j)

    -- no more slots than tracks have different ones
    few-different : 1 ≤ width → (row : List ℕ) → HaveDifferentTracks tracks row
        → length row ≤ width
    few-different some row differ =
        let found : List ℕ = map (λ s. get_or tracks s 0) row in
        let count : length found ≡ length row = length-map row (λ s. get_or tracks s 0) in
        let apart : AllPairs (λ a b. a ≢ b) found =
        λ i j d before low.
        let high : j < length row = omega (arith, low, count) in
        let first : i < length row = omega (arith, before, high) in
        let at_i : get_or found i d ≡ get_or tracks (get_or row i 0) 0 =
        get_or_default found i d 0 (omega (arith, first, count))
        ∙ get_or-map (λ s. get_or tracks s 0) row i 0 0 first in
        let at_j : get_or found j d ≡ get_or tracks (get_or row j 0) 0 =
        get_or_default found j d 0 low
        ∙ get_or-map (λ s. get_or tracks s 0) row j 0 0 high in
        λ e. differ i j 0 before high (sym at_i ∙ e ∙ at_j) in
        let bound = length-le_from_distinct_below found width
        (IsDistinct-from_AllPairs Decides-eqb found apart)
        (λ q named.
        let there = In-list_any (λ n. q == n) found named in
        let is : q ≡ there.0 = (Decides-eqb q there.0).0 there.2 in
        let from = from_In-map (λ s. get_or tracks s 0) row there.0 there.1 in
        subst (λ (n : ℕ). n < width) (from.2 ∙ sym is) (in-range from.0)) in
        omega (arith, bound, count)
      where
        in-range : (s : ℕ) → get_or tracks s 0 < width
        in-range s = elim (cases_lt s (length tracks)) [
          | inl inside ↦ legal.within s 0 inside
          | inr past ↦
              (let e = get_or_past tracks s 0 (omega (arith, past)) in omega (arith, e, some))
        ]

pub crowd_differs : (width : ℕ) (p : RoutingProblem) (crowd tracks : List ℕ) → IsGiven p
    → p.arch.pattern ≡ Subset → IsCrowd p crowd → IsLegalRouting width p tracks
    → HaveDifferentTracks tracks crowd
crowd_differs width p crowd tracks given subset is legal =
    crowd-differs width p tracks given legal subset crowd is

pub cell_differs : (width : ℕ) (p : RoutingProblem) (tracks : List ℕ) (number : ℕ) → IsGiven p
    → IsLegalRouting width p tracks
    → HaveDifferentTracks tracks (slots_in p.route.grid (slots p.route) number)
cell_differs width p tracks number given legal = cell-differs width p tracks given legal number

-- no more slots than tracks have different ones
pub few_different : (width : ℕ) (p : RoutingProblem) (tracks : List ℕ) → IsGiven p
    → IsLegalRouting width p tracks → 1 ≤ width → (row : List ℕ) → HaveDifferentTracks tracks row
    → length row ≤ width
few_different width p tracks given legal some row differ =
    few-different width p tracks given legal some row differ
