use Rattle.std.proofs.Common.{◌∙◌, ◌++◌, List, ap}
use Rattle.std.specs.Prelude.{string_bytes}
use Rattle.fpga_types.specs.declared.problem.PinStep.{PinStep}
use Rattle.router_says.proofs.SeenLemmas.{three-parts}
use Rattle.router_says.specs.Seen.{apart_said, net_said}
use Rattle.router_says.specs.declared.phrases.TheConstants.{SEEN_TRACKLESS}
use Rattle.router_says.proofs.seen.append_trackless.Goals as goal

pub returns : goal.returns
returns c = three-parts (string_bytes c.args.out.now) (string_bytes c.push_str.new.self)
    (string_bytes c.append_net.new.out) (string_bytes c.append_apart.new.out)
    SEEN_TRACKLESS.now (net_said c.args.problem.now c.args.found.now.tree)
    (apart_said c.args.found.now.pins.items) c.in_ok-push_str.ensures.bytes
    c.in_ok-append_net.ensures
    (c.in_ok-append_apart.ensures
    ∙ ap (λ (row : List PinStep). string_bytes c.append_net.new.out ++ apart_said row)
    c.deref.ensures.value)
