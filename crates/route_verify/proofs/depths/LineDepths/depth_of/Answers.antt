use Rattle.std.proofs.Common.{◌≡◌, ◌∙◌, ap, sym, true}
use Rattle.fpga_types.specs.Kinds.{is_channel}
use Rattle.route_verify.specs.LineDepths.{depth_by, first_depth}
use Rattle.route_verify.proofs.LineDepthLemmas.{depth-is}
use Rattle.route_verify.proofs.depths.LineDepths.depth_of.Goals as goal

pub returns : goal.returns
returns c = λ elems has.
    let channel : is_channel c.args.line.kind ≡ true =
    sym c.is_channel.ensures ∙ c.if-not-is_channel.false in
    c.depth_by.ensures
    ∙ (λ i. depth_by c.args.self.now.previous ((c.first_of-first.ensures
    ∙ ap (first_depth c.args.self.now.firsts) c.line_key.ensures) i) c.args.self.now.last)
    ∙ depth-is c.args.self.now elems c.args.line has channel
