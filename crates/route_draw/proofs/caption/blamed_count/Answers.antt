use Rattle.std.proofs.Common.{rules, arith, ℕ, ◌+◌, ap₂, sym, ◌∙◌}
use Rattle.fpga_types.specs.declared.netlist.Net.{Net}
use Rattle.route_draw.specs.Blamed.{is_blamed}
use Rattle.list_laws.proofs.Places.{get-there}
use Rattle.route_draw.proofs.CountLemmas.{at-most-one, count-next, count-whole}
use Rattle.route_draw.proofs.caption.blamed_count.Goals as goal

pub loop-net-preserved : goal.loop-net-preserved
loop-net-preserved c = record {
  few = let one = at-most-one (is_blamed c.args.names.now c.net-item.result.name)
      c.blamed_one-count.result c.blamed_one-count.ensures in
      omega (arith, one, c.loop-net.invariant.few);
  counted = ap₂ (λ (a b : ℕ). a + b) c.loop-net.invariant.counted c.blamed_one-count.ensures
      ∙ sym (count-next (λ (net : Net). is_blamed c.args.names.now net.name) c.args.nets.now
      c.loop-net.net-index c.net-item.result
      (get-there c.args.nets.now c.loop-net.net-index c.net-item.result c.net-item.result
      (search rules) (search rules)));
}

pub returns : goal.returns
returns c =
    count-whole (λ (net : Net). is_blamed c.args.names.now net.name) c.args.nets.now
    c.loop-net.net-index c.loop-net.count (omega arith) c.loop-net.invariant.counted
