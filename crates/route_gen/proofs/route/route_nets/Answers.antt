use Rattle.std.proofs.Common.{◌≡◌, ℕ, length, take, ap, ◌∙◌, arith}
use Rattle.std.specs.Prelude.{map}
use Rattle.std.specs.List.{enumerate_from}
use Rattle.std.proofs.Math.Seq.{take-length}
use Rattle.std.proofs.lemmas.List.FromFn.{length-enumerate_from}
use Rattle.route_gen.specs.Routes.{route_net}
use Rattle.route_gen.proofs.RangeLemmas.{numbered_row}
use Rattle.route_gen.proofs.route.route_nets.Goals as goal

pub loop-net-preserved : goal.loop-net-preserved
loop-net-preserved c =
    numbered_row (route_net c.args.side) c.args.sinks.now c.loop-net.net _ c.loop-net.nets.items
    c.push.new.self.items c.in_ok-route_net.field-0 c.loop-net-test.true c.loop-net.invariant
    c.in_ok-route_net.ensures c.in_ok-push.ensures.items

pub returns : goal.returns
returns c =
    let count = length-enumerate_from 0 c.args.sinks.now in
    let all : c.loop-net.net ≡ length (enumerate_from 0 c.args.sinks.now)
    = omega (arith, count, c.loop-net-test.false) in
    c.loop-net.invariant
    ∙ ap (λ (n : ℕ). map (route_net c.args.side) (take n (enumerate_from 0 c.args.sinks.now))) all
    ∙ ap (map (route_net c.args.side)) (take-length (enumerate_from 0 c.args.sinks.now))
