-- Whether a line of a route is refused does not depend on the numbers of its lines.
use Rattle.std.proofs.Common.{arith, ◌≡◌, ℕ, Bool, false, Option, Some, None, List, [], ◌∷◌, ◌++◌, refl, sym, ap, subst, ◌∙◌, inl, inr}
use Rattle.std.specs.Prelude.{bytes_eq, map, not, option_map, ◌&&◌, ◌||◌, ◌==◌}
use Rattle.std.specs.List.{last_or, list_all, list_any}
use Rattle.std.specs.Option.{option_map_or}
use Rattle.std.proofs.lemmas.List.{length-map, map-append}
use Rattle.fpga_types.specs.Fit.{RouteLine, comes_again, context_of, is_again, is_out_of_order, is_pin_of, leaps, net_lines, route_lines, splits, starts_loose}
use Rattle.fpga_types.specs.Fits.{Device, ProblemContext, device_of, has_sink, is_other_pin, is_other_sink, is_other_source, is_pin_apart, is_repeated, is_sink_not_once, is_unknown, lacks_sink, net_line_fault, problem_context, so_far}
use Rattle.fpga_types.specs.Kinds.{is_sink}
use Rattle.fpga_types.specs.Problem.{RoutingProblem}
use Rattle.fpga_types.specs.Slots.{elem_pin}
use Rattle.fpga_types.specs.Terminals.{is_input, is_terminal, sinks_named}
use Rattle.fpga_types.specs.declared.problem.Terminal.{Terminal}
use Rattle.fpga_types.specs.declared.route.Elem.{Elem}
use Rattle.fpga_types.specs.declared.route.RouteNet.{RouteNet}
use Rattle.fpga_types.specs.declared.route.RouteText.{RouteText}
use Rattle.fpga_route.specs.ReadBack.{elem_without_line, net_without_lines, without_lines}
use Rattle.fpga_types.proofs.FitLemmas.{Place, with_first}
use Rattle.list_laws.proofs.Members.{In, In-flat_map, In-map, from_In-flat_map, from_In-map}
use Rattle.route_gen.specs.Fitting.{IsForSlots}

-- no code of a line holds but the last
pub record IsClean (device : Device) (at : ProblemContext) : Type 0 where
  pub known : is_unknown at ≡ false
  pub first : is_repeated at ≡ false
  pub source : is_other_source at ≡ false
  pub sink : is_other_sink at ≡ false
  pub once : is_sink_not_once at ≡ false
  pub pin : is_other_pin device at ≡ false
  pub near : is_pin_apart device at ≡ false
  pub meets : leaps device.grid at.route ≡ false
  pub new : comes_again at.route ≡ false
  pub joined : starts_loose at.route ≡ false
  pub alone : at.route.taken ≡ false
  pub order : is_out_of_order at.route ≡ false

-- such a line is refused for the slots alone
pub clean-fault : (p : RoutingProblem) (line : RouteLine) →
    IsClean (device_of p) (problem_context p line) → IsForSlots (net_line_fault p line)
clean-fault p line c = grind arith

-- a line without the numbers of lines
abbrev pub bare_line : RouteLine → RouteLine
bare_line line = record {
  earlier = map net_without_lines line.earlier;
  net = net_without_lines line.net;
  before = map elem_without_line line.before;
  elem = option_map elem_without_line line.elem;
  after = map elem_without_line line.after;
}

-- its lines are those of the route without them
abbrev changed_place : {A B : Type 0} → (A → B) → Place A → Place B
changed_place f s = (map f s.0, f s.1, map f s.2)

bare-splits : {A B : Type 0} (f : A → B) (xs : List A) (s : Place A) →
    In (splits xs) s → In (splits (map f xs)) (changed_place f s)
bare-splits f [] s i = absurd i
bare-splits {A} {B} f (x ∷ xs) s i = elim i [
  | inl first ↦ inl (ap (changed_place f) first)
  | inr later ↦
      let r = from_In-map (with_first x) (splits xs) s later in
      inr (subst (λ (t : Place A). In (map (with_first (f x)) (splits (map f xs)))
      (changed_place f t)) r.2
      (In-map (with_first (f x)) (splits (map f xs)) (changed_place f r.0)
      (bare-splits f xs r.0 r.1)))
]

abbrev elem_line : List RouteNet → RouteNet → List Elem × Elem × List Elem → RouteLine
elem_line earlier net s =
    record { earlier = earlier; net = net; before = s.0; elem = Some s.1; after = s.2 }

bare-net : (earlier : List RouteNet) (net : RouteNet) (line : RouteLine) →
    In (net_lines earlier net) line →
    In (net_lines (map net_without_lines earlier) (net_without_lines net)) (bare_line line)
bare-net earlier net line i = elim i [
  | inl first ↦ inl (ap bare_line first)
  | inr later ↦
      let r = from_In-map (elem_line earlier net) (splits net.elems) line later in
      inr (subst (λ (l : RouteLine). In (map (elem_line (map net_without_lines earlier)
      (net_without_lines net)) (splits (map elem_without_line net.elems))) (bare_line l)) r.2
      (In-map (elem_line (map net_without_lines earlier) (net_without_lines net))
      (splits (map elem_without_line net.elems))
      (changed_place elem_without_line r.0)
      (bare-splits elem_without_line net.elems r.0 r.1)))
]

pub bare-lines : (route : RouteText) (line : RouteLine) → In (route_lines route) line →
    In (route_lines (without_lines route)) (bare_line line)
bare-lines route line i =
    let lines = λ (s : List RouteNet × RouteNet × List RouteNet). net_lines s.0 s.1 in
    let r = from_In-flat_map lines (splits route.nets) line i in
    In-flat_map lines (splits (map net_without_lines route.nets))
    (changed_place net_without_lines r.0)
    (bare_line line) (bare-splits net_without_lines route.nets r.0 r.1)
    (bare-net r.0.0 r.0.1 line r.2)

-- a search among changed elements
pub any-changed : {A B : Type 0} (p : B → Bool) (f : A → B) (xs : List A) →
    list_any p (map f xs) ≡ list_any (λ x. p (f x)) xs
any-changed p f [] = refl
any-changed p f (x ∷ xs) = ap (λ (b : Bool). p (f x) || b) (any-changed p f xs)

last-changed : {A B : Type 0} (f : A → B) (o : Option A) (xs : List A) →
    last_or (option_map f o) (map f xs) ≡ option_map f (last_or o xs)
last-changed f o [] = refl
last-changed f o (x ∷ xs) = last-changed f (Some x) xs

-- what the codes look at, without the numbers of lines
abbrev bare_context : Bool → ProblemContext → ProblemContext
bare_context full at = record at {
  route = record at.route {
    elem = option_map elem_without_line at.route.elem;
    previous = option_map elem_without_line at.route.previous;
    full = full;
  };
}

bare-again : (line : RouteLine) (o : Option Elem) →
    option_map_or (is_again (bare_line line)) (option_map elem_without_line o) false
    ≡ option_map_or (is_again line) o false
bare-again line None = refl
bare-again line (Some e) = grind (arith, any-changed)

bare-taken : (line : RouteLine) (o : Option Elem) →
    option_map_or (is_pin_of (bare_line line).earlier) (option_map elem_without_line o) false
    ≡ option_map_or (is_pin_of line.earlier) o false
bare-taken line None = refl
bare-taken line (Some e) = grind (arith, any-changed)

bare-ends : (p : RoutingProblem) (name : List ℕ) (o : Option Elem) →
    option_map_or (λ e. list_any (is_terminal e) (sinks_named p name))
    (option_map elem_without_line o) false
    ≡ option_map_or (λ e. list_any (is_terminal e) (sinks_named p name)) o false
bare-ends p name None = refl
bare-ends p name (Some e) = refl

bare-input : (p : RoutingProblem) (o : Option Elem) →
    option_map_or (is_input p) (option_map elem_without_line o) false
    ≡ option_map_or (is_input p) o false
bare-input p None = refl
bare-input p (Some e) = refl

bare-so_far : (line : RouteLine) (o : Option Elem) →
    option_map_or (λ e. map elem_without_line line.before ++ e ∷ [])
    (option_map elem_without_line o) (map elem_without_line line.before)
    ≡ map elem_without_line (option_map_or (λ e. line.before ++ e ∷ []) o line.before)
bare-so_far line None = refl
bare-so_far line (Some e) = sym (map-append elem_without_line line.before (e ∷ []))

bare-lacking : (p : RoutingProblem) (line : RouteLine) →
    lacks_sink p (bare_line line) ≡ lacks_sink p line
bare-lacking p line =
    let count = length-map line.after elem_without_line in
    let met : (at : Terminal) → has_sink (so_far (bare_line line)) at ≡ has_sink (so_far line) at
    = λ at. ap (λ (es : List Elem). has_sink es at) (bare-so_far line line.elem)
    ∙ any-changed (λ (e : Elem). is_sink e.kind && is_terminal e at) elem_without_line
    (so_far line) in
    λ i. not line.net.global && count i == 0
    && not (list_all (λ at. met at i) (sinks_named p line.net.name))

bare-is : (p : RoutingProblem) (line : RouteLine) → problem_context p (bare_line line)
    ≡ bare_context (context_of (bare_line line)).full (problem_context p line)
bare-is p line =
    let previous = last-changed elem_without_line None line.before in
    let again = bare-again line line.elem in
    let taken = bare-taken line line.elem in
    let count = length-map line.after elem_without_line in
    let repeated = any-changed (λ (net : RouteNet). bytes_eq net.name line.net.name)
    net_without_lines line.earlier in
    let ends = bare-ends p line.net.name line.elem in
    let input = bare-input p line.elem in
    let lacking = bare-lacking p line in
    let at = problem_context p (bare_line line) in
    λ i. record at {
      route = record at.route {
        previous = previous i;
        again = again i;
        taken = taken i;
        last = count i == 0;
      };
      repeated = repeated i;
      ends = ends i;
      takes_in = input i;
      lacking = lacking i;
    }

bare-pin : (e : Elem) → elem_pin (elem_without_line e) ≡ elem_pin e
bare-pin e = grind arith

bare-near : (device : Device) (full : Bool) (elem previous : Option Elem) (at : ProblemContext) →
    is_pin_apart device (bare_context full
    (record at { route = record at.route { elem = elem; previous = previous } }))
    ≡ is_pin_apart device
    (record at { route = record at.route { elem = elem; previous = previous } })
bare-near device full None None at = refl
bare-near device full None (Some q) at = grind (arith, bare-pin)
bare-near device full (Some e) None at = grind (arith, bare-pin)
bare-near device full (Some e) (Some q) at = grind (arith, bare-pin)

-- what is clean without them is clean
unbare : (device : Device) (full : Bool) (elem previous : Option Elem) (at : ProblemContext) →
    IsClean device (bare_context full
    (record at { route = record at.route { elem = elem; previous = previous } })) →
    IsClean device (record at { route = record at.route { elem = elem; previous = previous } })
unbare device full None None at c = grind (arith, bare-near)
unbare device full None (Some q) at c = grind (arith, bare-near)
unbare device full (Some e) None at c = grind (arith, bare-near)
unbare device full (Some e) (Some q) at c = grind (arith, bare-near)

pub line-clean : (p : RoutingProblem) (line : RouteLine) →
    IsClean (device_of p) (problem_context p (bare_line line)) →
    IsClean (device_of p) (problem_context p line)
line-clean p line c = grind (arith, unbare, bare-is)
