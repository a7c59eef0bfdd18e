use Rattle.std.proofs.Common.{◌∙◌, [], ap, sym}
use Rattle.std.specs.Prelude.{◌==◌, ◌&&◌, length, not}
use Rattle.std.specs.List.{list_all}
use Rattle.fpga_types.specs.Fits.{has_sink}
use Rattle.fpga_types.specs.Terminals.{sinks_named}
use Rattle.fpga_types.specs.declared.route.RouteNet.{RouteNet}
use Rattle.route_verify.specs.Heads.{head_cause}
use Rattle.route_verify.specs.Rules.{JudgedNet}
use Rattle.route_verify.proofs.RuleLemmas.{head-is}
use Rattle.route_verify.proofs.TableLemmas.{head-by}
use Rattle.route_verify.proofs.gathering.cause_of_head.Goals as goal

pub returns : goal.returns
returns c = λ earlier is.
    let net : RouteNet = c.args.net.now in
    c.head_cause.ensures
    ∙ (λ i. head_cause net.line (c.is_known.ensures i)
    (is i) (c.is_bare.ensures i) ((c.is_lacking-lacking.ensures ∙ ap (λ (of : JudgedNet).
    not net.global && length net.elems == 0
    && not (list_all (has_sink []) (sinks_named of.problem of.name))) c.requires) i))
    ∙ sym (head-by c.args.judge.now.reach c.args.judge.now.width c.args.judge.now.problem earlier net
    ∙ head-is c.args.judge.now.width c.args.judge.now.problem earlier net)
