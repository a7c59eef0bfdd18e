-- How many bytes the texts of a generated problem have at most.
use Rattle.std.proofs.Common.{ℕ, zero, suc, ◌≡◌, ◌+◌, ◌*◌, ◌<◌, ◌≤◌, ◌^◌, true, Option, Some, None, List, [], ◌∷◌, ◌++◌, length, refl, arith, length-append}
use Rattle.std.specs.Prelude.{All, codes, decimal, flat_map, map, nat_le, slice_get, ◌&&◌}
use Rattle.std.specs.List.{AllByRecursion, enumerate_from, range_with_len}
use Rattle.std.specs.Option.{option_map_or}
use Rattle.std.proofs.lemmas.Bool.{leb-true}
use Rattle.std.proofs.lemmas.Fmt.{length-decimal-le}
use Rattle.std.proofs.lemmas.Option.{slice_get_within}
use Rattle.std.proofs.lemmas.List.{length-map}
use Rattle.std.proofs.lemmas.List.Concat.{flat_map-cons}
use Rattle.std.proofs.lemmas.List.Elements.{All-tail}
use Rattle.std.proofs.lemmas.List.FromFn.{length-enumerate_from, length-map-range_with_len, length-range_with_len}
use Rattle.fpga_text.specs.Bytes.{Bytes}
use Rattle.fpga_types.specs.Fabric.{is_cell}
use Rattle.fpga_types.specs.Slots.{channel_at}
use Rattle.fpga_types.specs.declared.limits.TheConstants.{SIDE_LIMIT}
use Rattle.fpga_types.specs.declared.route.Elem.{Elem}
use Rattle.fpga_types.specs.declared.route.ElemKind.{ElemKind}
use Rattle.fpga_types.specs.declared.route.ElemKind.TheVariants.{Source, Opin, ChanX, ChanY, Ipin, Sink as SinkKind}
use Rattle.fpga_types.specs.declared.route.Label.{Label}
use Rattle.fpga_types.specs.declared.route.Label.TheVariants.{Class, Pin, Pad, Track}
use Rattle.fpga_types.proofs.MeetingLemmas.{both_true}
use Rattle.fpga_route.specs.Forms.{kind_word, label_word}
use Rattle.fpga_route.specs.Printed.{in_six_places, printed_elem, printed_net}
use Rattle.fpga_route.specs.ReadBack.{IsPrintableElem}
use Rattle.route_gen.specs.Draws.{input_table, location_of, nets_into, sinks_of}
use Rattle.route_gen.specs.Generated.{generated}
use Rattle.route_gen.specs.Netlists.{block_lines, generated_netlist, input_word, net_name, pin_word}
use Rattle.route_gen.specs.Placements.{generated_placement, place_line, placement_head}
use Rattle.route_gen.specs.Routes.{generated_route, route_net, route_nets}
use Rattle.route_gen.specs.Texts.{AreShort}
use Rattle.route_gen.specs.Traces.{along_column, along_row, cells, elem_at, to_row, trace}
use Rattle.route_gen.specs.declared.draws.Sink.{Sink}
use Rattle.route_gen.specs.declared.draws.TheConstants.{INPUT_COUNT}
use Rattle.route_gen.specs.declared.location.Location.{Location}
use Rattle.route_gen.specs.declared.trace.TheConstants.{INPUT_CLASS}
use Rattle.route_gen.proofs.DrawLemmas.{IsInput, drawing-length, sinks-inputs, table-length}
use Rattle.route_gen.proofs.InputLemmas.{AreTaken, sinks-taken}
use Rattle.route_gen.proofs.NetlistTextLemmas.{driven-below}
use Rattle.route_gen.proofs.PlaceLemmas.{square}
use Rattle.route_gen.proofs.TraceLemmas.{IsPlace, all_joined, block-place, square_of, trace-elems}
use Rattle.route_gen.proofs.WayLemmas.{cells-all}

-- two texts behind each other
both : (xs ys : Bytes) (m n : ℕ) → length xs ≤ m → length ys ≤ n → length (xs ++ ys) ≤ m + n
both xs ys m n front back = let e = length-append xs ys in omega (arith, e, front, back)

-- many texts, none of them long
many : {T : Type 0} (f : T → Bytes) (most : ℕ) (xs : List T) →
    AllByRecursion (λ x. length (f x) ≤ most) xs → length (flat_map f xs) ≤ length xs * most
many f most [] all = omega arith
many f most (x ∷ xs) all = grind (arith, length-append, flat_map-cons, (many f most xs all.1))

three-digits : (n : ℕ) → n < 1000 → length (decimal n) ≤ 3
three-digits n few = length-decimal-le 3 n (omega arith) (omega arith) (omega arith)

five-digits : (n : ℕ) → n < 100000 → length (decimal n) ≤ 5
five-digits n few = length-decimal-le 5 n (omega arith) (omega arith) (omega arith)

-- ---- a line of the route

six : (kind : ElemKind) → length (in_six_places (kind_word kind)) ≤ 6
six Source = omega arith
six Opin = omega arith
six ChanX = omega arith
six ChanY = omega arith
six Ipin = omega arith
six SinkKind = omega arith

label-short : (label : Label) → length (label_word label) ≤ 6
label-short Class = omega arith
label-short Pin = omega arith
label-short Pad = omega arith
label-short Track = omega arith

elem-short : (e : Elem) → e.x < 1000 → e.y < 1000 → e.number < 10 → length (printed_elem e) ≤ 29
elem-short e x y small = grind (arith, length-decimal-le, both, six, three-digits, label-short)

-- an element of a generated net has three digits for a column or a row
within : (side : ℕ) (kind : ElemKind) (x y : ℕ) →
    option_map_or (is_cell (square_of side)) (channel_at kind x y)
    (nat_le x (side + 1) && nat_le y (side + 1)) ≡ true →
    (x ≤ side + 1) × (y ≤ side + 1)
within side kind x y at = grind (arith, both_true, leb-true, square_of)

-- lines of elements that can be printed and have one digit for a number
elems-short : (side : ℕ) → side ≤ SIDE_LIMIT → (elems : List Elem) →
    AllByRecursion (IsPrintableElem (square_of side)) elems →
    AllByRecursion (λ e. e.number < 10) elems →
    AllByRecursion (λ e. length (printed_elem e) ≤ 29) elems
elems-short side limit [] places small = tt
elems-short side limit (e ∷ elems) places small =
    grind (arith, within, elem-short, (elems-short side limit elems places.1 small.1))

numbers-small : (driver sink : Location) (pin : ℕ) → pin < INPUT_COUNT →
    AllByRecursion (λ e. e.number < 10) (trace driver sink pin)
numbers-small driver sink pin few = (
  omega arith,
  (
    omega arith,
    all_joined (λ e. e.number < 10) (cells driver sink)
        (elem_at Ipin sink Pin pin ∷ elem_at SinkKind sink Class INPUT_CLASS ∷ [])
        (cells-all (λ e. e.number < 10) driver sink (λ x y. omega arith) (λ x y. omega arith))
        (omega arith, (omega arith, tt)),
  ),
)

-- ---- how many elements a net has

row-count : (row from to : ℕ) → 1 ≤ from → 1 ≤ to → from ≤ 100 → to ≤ 100 →
    length (along_row row from to) ≤ 100
row-count row from to a b c d = grind (arith, length-map-range_with_len)

column-count : (column from to : ℕ) → from ≤ 100 → to ≤ 100 →
    length (along_column column from to) ≤ 101
column-count column from to c d = grind (arith, length-map-range_with_len)

way-count : (column from to : ℕ) → from < 100 → to < 100 → length (to_row column from to) ≤ 102
way-count column from to c d = grind (arith, length-append, column-count)

trace-count : (side : ℕ) (driver sink : Location) (pin : ℕ) → side ≤ SIDE_LIMIT →
    IsPlace side driver → IsPlace side sink → length (trace driver sink pin) ≤ 206
trace-count side driver sink pin limit from to = grind (arith, row-count, way-count, length-append)

-- ---- the route

module _ (side : ℕ) (some : 1 ≤ side) (limit : side ≤ SIDE_LIMIT) where
  few-blocks : side * side ≤ 10000
  few-blocks = square side SIDE_LIMIT limit

  net-short : (net : ℕ) (sink : Sink) → net < side * side → IsInput side sink →
      length (printed_net (route_net side (net, sink))) ≤ 6000
  net-short net sink below input =
      let most = few-blocks in
      let digits = five-digits net (omega arith) in
      let from = block-place side net some below in
      let to = block-place side sink.block some input.block in
      let elems = trace (location_of side net) (location_of side sink.block) sink.pin in
      let lines = many printed_elem 29 elems (elems-short side limit elems
      (trace-elems side some limit (location_of side net) (location_of side sink.block) sink.pin
      from to input.pin)
      (numbers-small (location_of side net) (location_of side sink.block) sink.pin input.pin)) in
      let count = trace-count side (location_of side net) (location_of side sink.block) sink.pin
      limit from to in
      let begins = codes "\n\nNet " ++ decimal net in
      let before = begins ++ codes " (" in
      let name = net_name net ++ codes ")\n\n" in
      both (before ++ name) (flat_map printed_elem elems) 26 5974
      (both before name 13 13
      (both begins (codes " (") 11 2
      (both (codes "\n\nNet ") (decimal net) 6 5 (omega arith) digits)
      (omega arith))
      (both (net_name net) (codes ")\n\n") 10 3
      (both (codes "n") (decimal net) 5 5 (omega arith) digits) (omega arith)))
      (omega (arith, lines, count))

  nets-short : (first : ℕ) (sinks : List Sink) → first + length sinks ≤ side * side →
      All (IsInput side) sinks →
      AllByRecursion (λ net. length (printed_net net) ≤ 6000)
      (map (route_net side) (enumerate_from first sinks))
  nets-short first [] within inputs = tt
  nets-short first (sink ∷ sinks) within inputs = (
    net-short first sink (omega arith) (inputs 0 sink (omega arith)),
    nets-short (first + 1) sinks (omega arith) (All-tail (IsInput side) sink sinks inputs),
  )

  route-short : (seed nets : ℕ) → nets ≤ side * side →
      length (generated_route seed side nets) ≤ 2 ^ 26
  route-short seed nets few =
      let most = few-blocks in
      let sinks = sinks_of seed side nets in
      let count = drawing-length seed side nets in
      let lines = many printed_net 6000 (route_nets side sinks)
      (nets-short 0 sinks (omega (arith, count)) (sinks-inputs seed side nets some few)) in
      let made = length-map (enumerate_from 0 sinks) (route_net side) in
      let numbered = length-enumerate_from 0 sinks in
      let digits = three-digits side (omega arith) in
      let a = codes "Array size: " ++ decimal side in
      let b = a ++ codes " x " in
      let c = b ++ decimal side in
      let last = codes " logic blocks.\n\nRouting:" in
      both (c ++ last) (flat_map printed_net (route_nets side sinks) ++ codes "\n") 100 67108764
      (both c last 50 50
      (both b (decimal side) 40 10
      (both a (codes " x ") 30 10 (both (codes "Array size: ") (decimal side) 20 10 (omega arith)
      (omega (arith, digits))) (omega arith)) (omega (arith, digits))) (omega arith))
      (both (flat_map printed_net (route_nets side sinks)) (codes "\n") 67108763 1
      (omega (arith, lines, made, numbered, count)) (omega arith))

  -- ---- the placement

  place-short : (block : ℕ) → block < side * side → length (place_line side block) ≤ 40
  place-short block below = grind (arith, few-blocks, block-place, both, five-digits, three-digits)

  places-short : (first count : ℕ) → first + count ≤ side * side →
      AllByRecursion (λ block. length (place_line side block) ≤ 40) (range_with_len first count)
  places-short first zero within = tt
  places-short first (suc count) within =
      (place-short first (omega arith), places-short (first + 1) count (omega arith))

  placement-short : length (generated_placement side) ≤ 2 ^ 26
  placement-short =
      let most = few-blocks in
      let blocks = range_with_len 0 (side * side) in
      let lines = many (place_line side) 40 blocks (places-short 0 (side * side) (omega arith)) in
      let count = length-range_with_len 0 (side * side) in
      let digits = three-digits side (omega arith) in
      let start = codes "Netlist file: gen.net Architecture file: gen.arch\nArray size: " in
      let a = start ++ decimal side in
      let b = a ++ codes " x " in
      let c = b ++ decimal side in
      both (placement_head side) (flat_map (place_line side) blocks) 200 67108664
      (both c (codes " logic blocks\n") 150 50
      (both b (decimal side) 140 10
      (both a (codes " x ") 120 20 (both start (decimal side) 100 20 (omega arith)
      (omega (arith, digits))) (omega arith)) (omega (arith, digits))) (omega arith))
      (omega (arith, lines, count))

  -- ---- the netlist

  pin-short : (net : Option ℕ) → ((n : ℕ) → net ≡ Some n → n < 10000) →
      length (pin_word net) ≤ 10
  pin-short None few = omega arith
  pin-short (Some net) few =
      let below = few net refl in
      both (codes "n") (decimal net) 5 5 (omega arith) (five-digits net (omega arith))

  module _ (nets : ℕ) (few : nets ≤ 10000) (ends : List ℕ)
      (small : (pin net : ℕ) → slice_get ends pin ≡ Some net → net < 10000) where
    inputs-short : (pins : List ℕ) → AllByRecursion (λ pin. length (input_word ends pin) ≤ 20) pins
    inputs-short [] = tt
    inputs-short (pin ∷ pins) = (
      both (pin_word (slice_get ends pin)) (codes " ") 10 10
          (pin-short (slice_get ends pin) (small pin)) (omega arith),
      inputs-short pins,
    )

    block-short : (block : ℕ) → block < 10000 → length (block_lines nets (block, ends)) ≤ 200
    block-short block below =
        grind (arith, both, five-digits, many, inputs-short, pin-short, driven-below)

  -- the nets that end at a block
  ends-small : (sinks : List Sink) → AreTaken sinks → length sinks ≤ 10000 →
      (block pin net : ℕ) → slice_get (nets_into sinks block) pin ≡ Some net → net < 10000
  ends-small sinks taken few block pin net is =
      let below = slice_get_within sinks net (record { block = block; pin = pin })
      (taken.ends block pin net is) in omega arith

  blocks-short : (nets : ℕ) → nets ≤ 10000 → (sinks : List Sink) → AreTaken sinks →
      length sinks ≤ 10000 → (first count : ℕ) → first + count ≤ 10000 →
      AllByRecursion (λ block. length (block_lines nets block) ≤ 200)
      (enumerate_from first (map (nets_into sinks) (range_with_len first count)))
  blocks-short nets few sinks taken ends first zero within = tt
  blocks-short nets few sinks taken ends first (suc count) within = (
    block-short nets few (nets_into sinks first) (ends-small sinks taken ends first) first
        (omega arith),
    blocks-short nets few sinks taken ends (first + 1) count (omega arith),
  )

  netlist-short : (seed nets : ℕ) → nets ≤ side * side →
      length (generated_netlist seed side nets) ≤ 2 ^ 26
  netlist-short seed nets few =
      let most = few-blocks in
      let sinks = sinks_of seed side nets in
      let count = drawing-length seed side nets in
      let table = input_table side sinks in
      let lines = many (block_lines nets) 200 (enumerate_from 0 table)
      (blocks-short nets (omega arith) sinks (sinks-taken seed side nets some few)
      (omega (arith, count)) 0 (side * side) (omega arith)) in
      let numbered = length-enumerate_from 0 table in
      let blocks = table-length side sinks in
      omega (arith, lines, numbered, blocks)

pub texts-short : (seed side nets : ℕ) → 1 ≤ side → side ≤ SIDE_LIMIT → nets ≤ side * side →
    AreShort (2 ^ 26) (generated seed side nets)
texts-short seed side nets some limit few =
    grind (arith, netlist-short, placement-short, route-short)
