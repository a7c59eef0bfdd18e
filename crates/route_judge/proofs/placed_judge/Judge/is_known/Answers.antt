use Rattle.std.proofs.Common.{◌∙◌, ap, get_or, length, refl, sym, List}
use Rattle.std.proofs.lemmas.Option.{slice_get_read}
use Rattle.fpga_bounds.proofs.HeadLemmas.{known-as}
use Rattle.fpga_types.specs.declared.netlist.Net.{Net}
use Rattle.route_judge.proofs.placed_judge.Judge.is_known.Goals as goal

pub returns : goal.returns
returns c =
    let nets : List Net = c.args.self.now.problem.netlist.nets in
    let net : Net = c.index-as_slice-number.result in
    c.agree.ensures
    ∙ sym (known-as nets c.args.net.now.name c.args.net.now.global c.args.number net
    c.requires.named
    (slice_get_read nets (length nets) c.args.number net refl c.requires.within
    (c.index-as_slice-number.is
    ∙ ap (λ (ns : List Net). get_or ns c.args.number net) (c.as_slice.ensures ∙ c.names.ensures))))
