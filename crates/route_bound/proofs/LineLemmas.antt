-- How many nets cross each straight line, net by net.
use Rattle.std.proofs.Common.{◌≡◌, ℕ, ◌+◌, ◌<◌, ◌≤◌, Bool, true, false, List, [], ◌∷◌, Some, length, length-append, take, refl, ap, arith}
use Rattle.std.specs.Prelude.{filter, if◌then◌else◌, slice_get}
use Rattle.std.specs.List.{range_with_len}
use Rattle.std.specs.Option.{option_map_or}
use Rattle.std.proofs.lemmas.List.{get_or-take, length-take-le}
use Rattle.std.proofs.lemmas.List.FromFn.{length-range_with_len}
use Rattle.std.proofs.lemmas.List.Sums.{count_by-le-length, length-filter}
use Rattle.fpga_types.specs.Problem.{PlacedNetlist}
use Rattle.fpga_types.specs.declared.netlist.Net.{Net}
use Rattle.route_bound.specs.Lines.{AreCounted, IsBestLine, IsFirstGreatest, crosses_line, crossings_among, one_if}
use Rattle.route_bound.specs.Ranges.{corners_of, line_count, line_range}
use Rattle.route_bound.specs.declared.range.LineKind.{LineKind}
use Rattle.route_bound.proofs.AcrossLemmas.{crossing-more}

one-more : (b : Bool) (n : ℕ) → length (if b then n ∷ [] else []) ≡ one_if b
one-more true n = refl
one-more false n = refl

module _ (placed : PlacedNetlist) (kind : LineKind) where
  pub among-more : (n line : ℕ) (net : Net) → slice_get placed.netlist.nets n ≡ Some net
      → crossings_among placed kind (n + 1) line
      ≡ crossings_among placed kind n line + one_if (crosses_line placed kind net line)
  among-more n line net here =
      let more = ap length (crossing-more placed
      (corners_of (line_range placed.placement.grid kind line)) n net here) in
      let last = one-more (crosses_line placed kind net line) n in
      let both = length-append (filter (λ number. option_map_or
      (λ net. crosses_line placed kind net line) (slice_get placed.netlist.nets number) false)
      (range_with_len 0 n)) (if crosses_line placed kind net line then n ∷ [] else []) in
      omega (arith, more, last, both)

  pub among-few : (n line : ℕ) → crossings_among placed kind n line ≤ n
  among-few n line =
      let test = λ (number : ℕ). option_map_or (λ (net : Net). crosses_line placed kind net line)
      (slice_get placed.netlist.nets number) false in
      let numbers = range_with_len 0 n in
      omega (
        arith,
        length-filter test numbers,
        count_by-le-length test numbers,
        length-range_with_len 0 n,
      )

  -- the greatest of all counts is that of a line that most nets cross
  pub best-line : (row : List ℕ) (limit at : ℕ) → limit ≡ line_count placed.placement.grid kind
      → limit ≤ length row → AreCounted placed kind (length placed.netlist.nets) row
      → IsFirstGreatest (take limit row) at → IsBestLine placed kind at
  best-line row limit at all room counted is =
      let size : length (take limit row) ≡ limit = length-take-le limit row room in
      let there : at < line_count placed.placement.grid kind =
      omega (arith, is.there, size, all) in
      record {
        there = there;
        most = λ c low.
            let inside : c < limit = omega (arith, low, all) in
            let below : c < length (take limit row) = omega (arith, inside, size) in
            let here = is.greatest c below in
            omega (
              arith,
              here,
              get_or-take limit row c 0 inside,
              get_or-take limit row at 0 (omega (arith, there, all)),
              counted c low,
              counted at there,
            );
      }
