use Rattle.fpga_types.specs.Sound.{IsSoundElem}
use Rattle.fpga_types.specs.declared.route.Elem.{Elem}
use Rattle.route_negotiate.proofs.LineLemmas.{elems_more}
use Rattle.route_negotiate.proofs.text.add_elem.Goals as goal

pub returns : goal.returns
returns c =
    let e : Elem = record c.args.e { line = c.in_ok-line.line } in
    let sound : IsSoundElem c.args.grid e = record { label = cc; place = cc } in
    λ low lines. rw (c.in_ok-push.ensures.items)
    (elems_more c.args.grid low c.args.last.now c.args.elems.now.items e lines sound
    c.in_ok-line.ensures.line)
