-- Where the nets of a generated problem begin and end, by its netlist and its placement.
use Rattle.std.proofs.Common.{◌≡◌, ℕ, zero, suc, ◌+◌, ◌*◌, ◌<◌, ◌≤◌, Bool, true, false, Option, Some, List, [], ◌∷◌, length, refl, sym, ap, ◌∙◌, inl, inr, arith}
use Rattle.std.specs.Prelude.{filter_map, map, not, option_and_then, option_to_list, slice_get, zip, ◌&&◌}
use Rattle.std.specs.List.{cons_option, list_any, range_with_len}
use Rattle.std.specs.Option.{option_map_or}
use Rattle.std.proofs.lemmas.Bool.{cases_eq, eq-eqb, false≢true}
use Rattle.fpga_types.specs.Fits.{is_known}
use Rattle.fpga_types.specs.Problem.{RoutingProblem, problem_of}
use Rattle.fpga_types.specs.Terminals.{driver_named, driver_of, is_input, is_input_of, is_net_named, net_named, sinks_named, sinks_of, terminal_of}
use Rattle.fpga_types.specs.declared.arch.PinSpec.{PinSpec}
use Rattle.fpga_types.specs.declared.netlist.Block.{Block}
use Rattle.fpga_types.specs.declared.netlist.Net.{Net}
use Rattle.fpga_types.specs.declared.netlist.Netlist.{Netlist}
use Rattle.fpga_types.specs.declared.placement.Place.{Place}
use Rattle.fpga_types.specs.declared.problem.Terminal.{Terminal}
use Rattle.fpga_types.specs.declared.route.ElemKind.TheVariants.{Ipin}
use Rattle.fpga_types.specs.declared.route.Label.TheVariants.{Class, Pin}
use Rattle.fpga_types.specs.declared.route.RouteText.{RouteText}
use Rattle.list_laws.proofs.Members.{In-all, In-contains, In-map, In-range, find-In, find-some, list_any-from_In}
use Rattle.route_gen.specs.Draws.{location_of}
use Rattle.route_gen.specs.Laws.{HasBlocks, HasNets, IsDrawn, architecture_of_all, block_on, bottom_pin, drawn_net, input_at, place_of, placement_of}
use Rattle.route_gen.specs.Netlists.{net_name}
use Rattle.route_gen.specs.Traces.{elem_at}
use Rattle.route_gen.specs.declared.draws.Sink.{Sink}
use Rattle.route_gen.specs.declared.draws.TheConstants.{INPUT_COUNT}
use Rattle.route_gen.specs.declared.location.Location.{Location}
use Rattle.route_gen.specs.declared.trace.TheConstants.{INPUT_CLASS, OUTPUT_CLASS, OUTPUT_PIN}
use Rattle.route_gen.proofs.WayLemmas.{pin-there}
use Rattle.route_gen.proofs.NameLemmas.{net-other, net-same}

-- what is made of a number of a range stands at its place
get-made : {T : Type 0} (f : ℕ → T) (a n k : ℕ) → k < n →
    slice_get (map f (range_with_len a n)) k ≡ Some (f (a + k))
get-made f a zero k below = absurd (omega arith)
get-made f a (suc n) zero below = let e : a ≡ a + 0 = omega arith in λ i. Some (f (e i))
get-made f a (suc n) (suc k) below = grind (arith, (get-made f (a + 1) n k (omega arith)))

get-first : {T : Type 0} (f : ℕ → T) (n k : ℕ) → k < n →
    slice_get (map f (range_with_len 0 n)) k ≡ Some (f k)
get-first f n k below = grind (arith, get-made)

zip-made : {A B : Type 0} (f : ℕ → A) (g : ℕ → B) (a n : ℕ) →
    zip (map f (range_with_len a n)) (map g (range_with_len a n))
    ≡ map (λ k. (f k, g k)) (range_with_len a n)
zip-made f g a zero = refl
zip-made {A} {B} f g a (suc n) = ap (λ (t : List (A × B)). (f a, g a) ∷ t) (zip-made f g (a + 1) n)

-- the class of a pin of a block that stands there
abbrev pub class_there : Location → (class : ℕ) → Terminal
class_there at class = record { x = at.column; y = at.row; label = Class; number = class }

module _ (side : ℕ) (sinks : List Sink) (netlist : Netlist) (route : RouteText)
    (blocks : HasBlocks side netlist) (nets : HasNets sinks netlist)
    (few : length sinks ≤ 10000) where
  abbrev pub problem : RoutingProblem
  problem = problem_of architecture_of_all netlist (placement_of side) route

  -- a net is found by its name
  named : (net : ℕ) → net < length sinks →
      net_named problem (net_name net) ≡ Some (drawn_net sinks net)
  named net below =
      let there = In-contains netlist.nets (drawn_net sinks net) (nets.each net below) in
      let r = find-some (is_net_named (net_name net)) netlist.nets (drawn_net sinks net) there
      (net-same net) in
      let found = find-In (is_net_named (net_name net)) netlist.nets r.0 r.1 in
      let drawn : IsDrawn sinks r.0 = In-all (IsDrawn sinks) netlist.nets r.0 nets.others found.0 in
      r.1 ∙ elim (cases_eq drawn.number net) [
        | inl same ↦ (λ i. Some (drawn.is i)) ∙ (λ i. Some (drawn_net sinks (same i)))
        | inr other ↦ absurd (false≢true (sym (net-other drawn.number net
            (let b = drawn.below in omega arith) (omega arith) other)
            ∙ sym (ap (is_net_named (net_name net)) drawn.is) ∙ found.1))
      ]

  -- the terminal of a pin
  terminal-there : (block pin class : ℕ) (output : Bool) → block < side * side →
      slice_get architecture_of_all.pins pin ≡ Some (bottom_pin class output) →
      terminal_of problem (record { block = block; pin = pin })
      ≡ Some (class_there (location_of side block) class)
  terminal-there block pin class output below there = grind (arith, get-first)

  pub known : (net : ℕ) → net < length sinks → is_known problem (net_name net) false ≡ true
  known net below = grind (arith, named)

  pub driver : (net : ℕ) → net < length sinks → net < side * side →
      driver_named problem (net_name net) ≡ Some (class_there (location_of side net) OUTPUT_CLASS)
  driver net below within =
      ap (option_and_then (driver_of problem)) (named net below)
      ∙ terminal-there net OUTPUT_PIN OUTPUT_CLASS true within refl

  pub ends : (net : ℕ) (sink : Sink) → slice_get sinks net ≡ Some sink → net < length sinks →
      sink.block < side * side → sink.pin < INPUT_COUNT →
      sinks_named problem (net_name net)
      ≡ class_there (location_of side sink.block) INPUT_CLASS ∷ []
  ends net sink there below within input =
      ap (λ (o : Option Net). option_map_or (sinks_of problem) o []) (named net below)
      ∙ (λ i. filter_map (terminal_of problem) (map input_at (option_to_list (there i))))
      ∙ (λ i. cons_option (terminal-there sink.block sink.pin INPUT_CLASS false within
      (pin-there sink.pin input) i) [])

  -- the input of a block is one
  pub input-is : (block pin : ℕ) → block < side * side → pin < INPUT_COUNT →
      is_input problem (elem_at Ipin (location_of side block) Pin pin) ≡ true
  input-is block pin below input =
      let at = location_of side block in
      let e = elem_at Ipin at Pin pin in
      let placed : ℕ → Block × Place = λ k. (block_on blocks.pins k, place_of side k) in
      let x = eq-eqb at.column at.column refl in
      let y = eq-eqb at.row at.row refl in
      let there = pin-there pin input in
      (λ i. list_any (is_input_of architecture_of_all e)
      (zip (blocks.blocks i) (map (place_of side) (range_with_len 0 (side * side)))))
      ∙ ap (list_any (is_input_of architecture_of_all e))
      (zip-made (block_on blocks.pins) (place_of side) 0 (side * side))
      ∙ list_any-from_In (is_input_of architecture_of_all e)
      (map placed (range_with_len 0 (side * side))) (placed block)
      (In-map placed (range_with_len 0 (side * side)) block
      (In-range 0 (side * side) block (omega arith) (omega arith)))
      (λ i. x i && y i && option_map_or
      (λ (spec : PinSpec). not spec.output && not spec.global) (there i) false)
