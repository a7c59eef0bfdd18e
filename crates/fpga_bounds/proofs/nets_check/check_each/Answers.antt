use Rattle.std.proofs.Common.{◌≡◌, ◌+◌, ◌<◌, ◌∙◌, ℕ, refl, sym, ap, subst, Bool, List, [], ◌∷◌, ◌++◌, length, take, arith, Some, add-one}
use Rattle.std.specs.Prelude.{◌||◌, slice_get}
use Rattle.std.specs.List.{list_any}
use Rattle.std.proofs.Math.Seq.{take-length}
use Rattle.std.proofs.lemmas.List.{length-take-le}
use Rattle.std.proofs.lemmas.Option.{slice_get_read}
use Rattle.list_laws.proofs.Places.{take-get}
use Rattle.fpga_text.specs.FirstFault.{first_fault}
use Rattle.fpga_types.specs.Fit.{is_pin_of, same_pin}
use Rattle.fpga_types.specs.declared.route.Elem.{Elem}
use Rattle.fpga_types.specs.declared.route.RouteNet.{RouteNet}
use Rattle.fpga_bounds.specs.NetTable.{HasNetLines}
use Rattle.fpga_bounds.proofs.KeyLemmas.{pins-more}
use Rattle.fpga_bounds.proofs.LineLemmas.{get-none, nets-none, past-net, refused-elems, refused-head}
use Rattle.fpga_bounds.proofs.nets_check.check_each.Goals as goal

pub returns-in-Err-clause-answers : goal.returns-in-Err-clause-answers
returns-in-Err-clause-answers g c =
    let nets : List RouteNet = c.args.nets.now in
    let net : RouteNet = c.index-nets-n.result in
    let within : c.loop-n.n < length nets = omega arith in
    let here : slice_get nets c.loop-n.n ≡ Some net =
    slice_get_read nets (length nets) c.loop-n.n net refl within c.index-nets-n.is in
    refused-head (g.R.LineRules.fault c.args.rules.now) _ nets c.loop-n.n net here
    c.loop-n.invariant.past c.in-Err.fault
    (c.in-Err.ensures.answers (take c.loop-n.n nets) c.loop-n.invariant.lined)

pub check_elems-requires : goal.check_elems-requires
check_elems-requires g c κs =
    let nets : List RouteNet = c.args.nets.now in
    let n : ℕ = c.loop-n.n in (
      (refl, tt),
      (
        (c.in-Ok.ensures.answers (take n nets) c.loop-n.invariant.lined).1,
        (
          omega (arith, c.requires.limit, length-take-le n nets (omega arith)),
          (c.loop-n.invariant.pins, c.loop-n.invariant.kept c.index-nets-n.result),
        ),
      ),
    )

pub returns-in-Err-check_elems-clause-answers : goal.returns-in-Err-check_elems-clause-answers
returns-in-Err-check_elems-clause-answers g c =
    let nets : List RouteNet = c.args.nets.now in
    let net : RouteNet = c.index-nets-n.result in
    let within : c.loop-n.n < length nets = omega arith in
    let here : slice_get nets c.loop-n.n ≡ Some net =
    slice_get_read nets (length nets) c.loop-n.n net refl within c.index-nets-n.is in
    refused-elems (g.R.LineRules.fault c.args.rules.now) _ nets c.loop-n.n net here
    c.loop-n.invariant.past
    (c.in-Ok.ensures.answers (take c.loop-n.n nets) c.loop-n.invariant.lined).0
    c.in-Err-check_elems.fault c.in-Err-check_elems.ensures.refused

pub loop-n-preserved : goal.loop-n-preserved
loop-n-preserved g c =
    let nets : List RouteNet = c.args.nets.now in
    let net : RouteNet = c.index-nets-n.result in
    let within : c.loop-n.n < length nets = omega arith in
    let here : slice_get nets c.loop-n.n ≡ Some net =
    slice_get_read nets (length nets) c.loop-n.n net refl within c.index-nets-n.is in
    let head = c.in-Ok.ensures.answers (take c.loop-n.n nets) c.loop-n.invariant.lined in
    let more : take (c.loop-n.n + 1) nets ≡ take c.loop-n.n nets ++ net ∷ [] =
    rw add-one (take-get nets c.loop-n.n net here) in
    record {
      past = past-net (g.R.LineRules.fault c.args.rules.now) _ nets c.loop-n.n net here
          c.loop-n.invariant.past head.0 c.in_default.ensures.good;
      pins = λ e.
          c.in-Ok-take_pins.ensures e
          ∙ ap (λ (b : Bool). b || list_any (same_pin e) c.as_slice.result.now)
          (c.loop-n.invariant.pins e)
          ∙ ap (λ (es : List Elem). is_pin_of (take c.loop-n.n nets) e || list_any (same_pin e) es)
          c.as_slice.ensures ∙ sym (pins-more nets c.loop-n.n net e here);
      kept = λ next. subst (λ (earlier : List RouteNet).
          g.R.LineRules.has_kept c.end_net.new.kept earlier next []) (sym more)
          (c.in-Ok-end_net.ensures (take c.loop-n.n nets) c.in_default.ensures.kept next);
      lined = subst (HasNetLines (g.R.LineRules.problem c.args.rules.now).netlist.nets
          c.check_head.new.marks) (sym more)
          (c.in-Ok.ensures.marked (take c.loop-n.n nets) c.loop-n.invariant.lined);
    }

pub returns-clause-answers : goal.returns-clause-answers
returns-clause-answers g c =
    let nets : List RouteNet = c.args.nets.now in
    let end : c.loop-n.n ≡ length nets = omega arith in (
      c.loop-n.invariant.past.same ∙ ap first_fault
          (nets-none (g.R.LineRules.fault c.args.rules.now) nets c.loop-n.n
          (get-none nets c.loop-n.n (omega arith))),
      λ net. subst (λ (all : List RouteNet). g.R.LineRules.has_kept c.loop-n.kept all net [])
          (ap (λ m. take m nets) end ∙ take-length nets) (c.loop-n.invariant.kept net),
    )
