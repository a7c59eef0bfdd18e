use Rattle.std.proofs.Common.{ap, refl, ◌∙◌}
use Rattle.std.proofs.lemmas.Result.{MatchResult-weaker}
use Rattle.fpga_problem.specs.declared.source.TheConstants.{TEXT_BYTES}
use Rattle.fpga_types.specs.declared.netlist.Netlist.{Netlist}
use Rattle.route_picture.specs.Words.{words_said}
use Rattle.route_picture.proofs.DrawnLemmas.{drawn-of, misnamed-of, misrouted-of}
use Rattle.route_picture.proofs.drawn.picture_of_problem.Goals as goal

pub returns-in-Err : goal.returns-in-Err
returns-in-Err c = λ before now are faultless said.
    misnamed-of (words_said c.args.words) TEXT_BYTES before now _ _ _ _ _ c.in-Err.stop are refl
    faultless said (c.as_slice-nets.ensures ∙ ap (λ (n : Netlist). n.nets) c.netlist.ensures.value)
    c.names-names.ensures c.in-Err.ensures.stop

pub returns : goal.returns
returns c =
    MatchResult-weaker c.shown.result c.shown.ensures
    (λ picture shows files are faultless said.
    drawn-of (words_said c.args.words) TEXT_BYTES files _ _ _ _ _ _ _ _ _ are refl faultless
    said (c.as_slice-nets.ensures ∙ ap (λ (n : Netlist). n.nets) c.netlist.ensures.value)
    c.names-names.ensures c.in-Ok.ensures.nets c.in-Ok.ensures.blame c.shown_cut-cut.ensures
    c.routed.ensures shows)
    (λ stop stops before now are faultless said.
    misrouted-of (words_said c.args.words) TEXT_BYTES before now _ _ _ _ stop are refl faultless
    said c.routed.ensures stops)
