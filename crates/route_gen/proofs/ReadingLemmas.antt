-- The route of a generated problem reads back.
use Rattle.std.proofs.Common.{rules, ◌≡◌, ℕ, ◌+◌, ◌*◌, ◌<◌, ◌≤◌, ◌^◌, true, false, List, [], ◌∷◌, length, refl, arith}
use Rattle.std.specs.Prelude.{All, map}
use Rattle.std.specs.List.{enumerate_from}
use Rattle.std.proofs.lemmas.List.{length-map}
use Rattle.std.proofs.lemmas.List.Elements.{All-cons, All-from_recursion, All-nil, All-tail}
use Rattle.std.proofs.lemmas.List.FromFn.{length-enumerate_from}
use Rattle.fpga_text.proofs.PrintedWords.{IsWord, decimal-word}
use Rattle.fpga_types.specs.declared.limits.TheConstants.{SIDE_LIMIT}
use Rattle.fpga_route.specs.ReadBack.{IsKeptLine, IsPrintable, IsPrintableElem, IsPrintableNet, ReadsBack}
use Rattle.fpga_route.proofs.PrintedLemmas.{word-name}
use Rattle.fpga_route.proofs.ReadBackLemmas.{reads_back}
use Rattle.route_gen.specs.Draws.{location_of, sinks_of}
use Rattle.route_gen.specs.Netlists.{net_name}
use Rattle.route_gen.specs.Routes.{route_net, route_to}
use Rattle.route_gen.specs.Traces.{trace}
use Rattle.route_gen.specs.declared.draws.Sink.{Sink}
use Rattle.route_gen.proofs.DrawLemmas.{IsInput, drawing-length, sinks-inputs}
use Rattle.route_gen.proofs.PlaceLemmas.{square}
use Rattle.route_gen.proofs.TraceLemmas.{block-place, square_of, trace-elems}

-- a name is a word
pub name-word : (net : ℕ) → net < 2 ^ 64 → IsWord (net_name net)
name-word net fits = record { some = refl; bytes = (decimal-word net fits).bytes }

module _ (side : ℕ) (some : 1 ≤ side) (limit : side ≤ SIDE_LIMIT) where
  -- so few blocks are there
  few_blocks : side * side ≤ 10000
  few_blocks = square side SIDE_LIMIT limit

  -- a net
  net-printable : (net : ℕ) (sink : Sink) → net < side * side → IsInput side sink →
      IsPrintableNet (square_of side) (route_net side (net, sink))
  net-printable net sink below end =
      let few = few_blocks in
      record {
        k = omega arith;
        name = word-name (net_name net) (name-word net (omega arith));
        elems = All-from_recursion (IsPrintableElem (square_of side))
            (trace (location_of side net) (location_of side sink.block) sink.pin)
            (trace-elems side some limit (location_of side net) (location_of side sink.block)
            sink.pin (block-place side net some below) (block-place side sink.block some end.block)
            end.pin);
        kept = All-nil IsKeptLine;
        no_elems = λ global. absurd (let clash : false ≡ true = global in cc);
        no_kept = λ ordinary. refl;
      }

  -- the nets from a number on
  nets-printable : (first : ℕ) (sinks : List Sink) → first + length sinks ≤ side * side →
      All (IsInput side) sinks →
      All (IsPrintableNet (square_of side))
      (map (route_net side) (enumerate_from first sinks))
  nets-printable first [] few all = All-nil (IsPrintableNet (square_of side))
  nets-printable first (sink ∷ sinks) few all =
      All-cons (IsPrintableNet (square_of side)) (route_net side (first, sink))
      (map (route_net side) (enumerate_from (first + 1) sinks))
      (net-printable first sink (omega arith) (all 0 sink (omega arith)))
      (nets-printable (first + 1) sinks (omega arith) (All-tail (IsInput side) sink sinks all))

  -- a route
  route-printable : (sinks : List Sink) → length sinks ≤ side * side → All (IsInput side) sinks →
      IsPrintable (route_to side sinks)
  route-printable sinks few all =
      grind (arith, few_blocks, length-map, length-enumerate_from, nets-printable)

-- the route that a seed gives reads back
pub route-reads : (seed side nets : ℕ) → 1 ≤ side → side ≤ SIDE_LIMIT → nets ≤ side * side →
    ReadsBack (route_to side (sinks_of seed side nets))
route-reads seed side nets some limit few =
    search (rules, drawing-length, reads_back, route-printable, sinks-inputs)
