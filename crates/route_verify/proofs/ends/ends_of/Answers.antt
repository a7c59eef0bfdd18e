use Rattle.std.proofs.Common.{◌∙◌, ◌<◌, ap, get_or, length, refl, subst, sym, List}
use Rattle.std.proofs.lemmas.Option.{slice_get_read}
use Rattle.fpga_bounds.specs.NetTable.{number_named}
use Rattle.fpga_bounds.proofs.NameLemmas.{named-at, unnamed}
use Rattle.fpga_types.specs.declared.netlist.Net.{Net}
use Rattle.route_verify.proofs.ends.ends_of.Goals as goal

pub returns-in_default : goal.returns-in_default
returns-in_default c =
    unnamed c.args.design.now.netlist.nets c.args.name.now
    (ap (λ (nets : List Net). number_named nets c.args.name.now) (sym c.requires)
    ∙ sym c.in_default.ensures.number)

pub of-requires : goal.of-requires
of-requires c =
    let nets : List Net = c.args.design.now.netlist.nets in
    let net : Net = c.index-as_slice-number.result in
    named-at nets c.args.name.now c.in-Some.number
    (ap (λ (ns : List Net). number_named ns c.args.name.now) (sym c.requires)
    ∙ sym c.in-Some.ensures.number) net
    (slice_get_read nets (length nets) c.in-Some.number net refl
    (subst (λ (ns : List Net). c.in-Some.number < length ns) c.requires c.in-Some.ensures.within)
    (c.index-as_slice-number.is
    ∙ ap (λ (ns : List Net). get_or ns c.in-Some.number net) (c.as_slice.ensures ∙ c.requires)))
