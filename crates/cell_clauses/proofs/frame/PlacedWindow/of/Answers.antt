use Rattle.std.proofs.Common.{◌≡◌, ℕ, ◌+◌, ◌*◌, ◌<◌, ◌≤◌, All, List, length, ap, subst, arith}
use Rattle.sat_clause.specs.declared.limits.TheConstants.{VARIABLE_LIMIT}
use Rattle.cell_clauses.specs.declared.window.Arrival.{Arrival}
use Rattle.cell_clauses.specs.declared.window.WindowNet.{WindowNet}
use Rattle.cell_clauses.proofs.frame.PlacedWindow.of.Goals as goal

pub invariant_of-result : goal.invariant_of-result
invariant_of-result c =
    let sizes = c.in-Some.sizes in
    let there : c.len-4.result ≡ length c.in_ok-arrivals.arrivals.items = omega arith in
    let pins : length c.as_slice-pins.result.now ≡ length c.args.arch.now.pins =
    ap length c.as_slice-pins.ensures in
    record {
      few_pins = c.requires.pins;
      nets_are = omega (arith, c.in-Some.ensures.sizes.nets_are);
      cells_are = omega (arith, c.in-Some.ensures.sizes.cells_are);
      come_to = subst (λ (nets : List WindowNet).
          All (λ (a : Arrival). a.net < length nets) c.in_ok-arrivals.arrivals.items)
          c.as_slice.ensures.value c.in_ok-arrivals.ensures.low;
      few = subst (λ (n : ℕ). sizes.nets * sizes.cells + (sizes.nets + 1) * sizes.cells * sizes.width
          + n * (length c.args.arch.now.pins + 1) ≤ VARIABLE_LIMIT) there
          (subst (λ (n : ℕ). sizes.nets * sizes.cells
          + (sizes.nets + 1) * sizes.cells * sizes.width + c.len-4.result * (n + 1)
          ≤ VARIABLE_LIMIT) pins c.in-Some.ensures.sizes.few);
    }
