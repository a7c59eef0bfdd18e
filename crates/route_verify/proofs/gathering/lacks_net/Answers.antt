use Rattle.std.proofs.Common.{◌≡◌, ◌<◌, ◌∙◌, ap, arith, get_or, length, drop, ◌+◌, sym, List, Bool}
use Rattle.std.specs.Prelude.{◌||◌}
use Rattle.std.specs.List.{list_any}
use Rattle.fpga_bounds.specs.Heads.{lacks_line}
use Rattle.fpga_bounds.proofs.HeadLemmas.{any-next}
use Rattle.fpga_types.specs.declared.netlist.Net.{Net}
use Rattle.route_verify.proofs.gathering.lacks_net.Goals as goal

pub returns-then-is_missing : goal.returns-then-is_missing
returns-then-is_missing c =
    let names : List Net = c.args.names.now in
    let i = c.loop-net.net-index in
    let net : Net = c.net-item.result in
    let is : net ≡ get_or names i net = c.net-item.is
    ∙ ap (λ (nets : List Net). get_or nets i net) c.loop-net.invariant.items in
    let within : i < length names = omega (
      arith,
      ap (length {A = Net}) c.loop-net.invariant.items,
    ) in
    sym (c.loop-net.invariant.ahead
    ∙ any-next (lacks_line c.args.heads.now) names i net within is
    ∙ ap (λ (b : Bool). b || list_any (lacks_line c.args.heads.now) (drop (i + 1) names))
    (sym c.is_missing.ensures ∙ c.if-is_missing.true))

pub loop-net-preserved : goal.loop-net-preserved
loop-net-preserved c = record {
  items = c.loop-net.invariant.items;
  ahead =
      let names : List Net = c.args.names.now in
      let i = c.loop-net.net-index in
      let net : Net = c.net-item.result in
      let is : net ≡ get_or names i net = c.net-item.is
      ∙ ap (λ (nets : List Net). get_or nets i net) c.loop-net.invariant.items in
      let within : i < length names = omega (
        arith,
        ap (length {A = Net}) c.loop-net.invariant.items,
      ) in
      c.loop-net.invariant.ahead
      ∙ any-next (lacks_line c.args.heads.now) names i net within is
      ∙ ap (λ (b : Bool). b || list_any (lacks_line c.args.heads.now) (drop (i + 1) names))
      (sym c.is_missing.ensures ∙ c.if-is_missing.false);
}
