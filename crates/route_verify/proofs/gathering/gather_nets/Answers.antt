use Rattle.std.proofs.Common.{◌≡◌, ◌+◌, ◌<◌, ◌∙◌, ◌++◌, ◌∷◌, [], ℕ, refl, sym, ap, subst, length, take, None, Some, Bool, add-one, append-nil, arith, List}
use Rattle.std.specs.Prelude.{◌||◌, slice_get}
use Rattle.std.specs.List.{list_any}
use Rattle.std.proofs.lemmas.List.{length-take-le}
use Rattle.std.proofs.lemmas.Option.{slice_get_read}
use Rattle.list_laws.proofs.Places.{take-get}
use Rattle.fpga_bounds.proofs.KeyLemmas.{pins-more}
use Rattle.fpga_bounds.proofs.LineLemmas.{get-none}
use Rattle.fpga_types.specs.Fit.{is_pin_of, same_pin}
use Rattle.fpga_types.specs.Fits.{has_net}
use Rattle.fpga_types.specs.declared.route.Elem.{Elem}
use Rattle.fpga_types.specs.declared.route.RouteNet.{RouteNet}
use Rattle.route_verify.specs.AllCauses.{cause_against}
use Rattle.route_verify.specs.Gathered.{elems_causes, nets_causes, problem_of}
use Rattle.route_verify.specs.Judge.{HasKept, JudgedProblem}
use Rattle.route_verify.specs.Rules.{JudgedNet}
use Rattle.route_verify.specs.declared.line_cause.LineCause.{LineCause}
use Rattle.route_verify.proofs.GatherLemmas.{more, nets-net, nets-none}
use Rattle.route_verify.proofs.gathering.gather_nets.Goals as goal

pub gather_elems-requires : goal.gather_elems-requires
gather_elems-requires c =
    let nets : List RouteNet = c.args.nets.now in
    let n : ℕ = c.loop-n.n in
    record {
      net = ap (λ (of : JudgedNet). of.name) c.in_ok-rules.ensures;
      nets = omega (arith, c.requires.limit, length-take-le n nets (omega arith));
      pins = c.loop-n.invariant.pins;
      kept = c.loop-n.invariant.kept;
    }

pub loop-n-preserved : goal.loop-n-preserved
loop-n-preserved c =
    let nets : List RouteNet = c.args.nets.now in
    let n : ℕ = c.loop-n.n in
    let net : RouteNet = c.index-nets-n.result in
    let within : n < length nets = omega arith in
    let here : slice_get nets n ≡ Some net =
    slice_get_read nets (length nets) n net refl within c.index-nets-n.is in
    let one_more : take (n + 1) nets ≡ take n nets ++ net ∷ [] =
    rw add-one (take-get nets n net here) in
    let judge : JudgedProblem = c.args.judge.now in
    let elems : List LineCause = elems_causes judge (take n nets) net 0 in
    let rest : List LineCause = nets_causes judge nets (n + 1) in
    let repeated : c.stands_before-repeated.result ≡ has_net (take n nets) net.name =
    c.stands_before-repeated.ensures
    ∙ ap (λ (hs : List RouteNet). has_net (take n hs) net.name) c.requires.same in
    let head : nets_causes judge nets n
    ≡ cause_against (Some n) None c.cause_of_head-cause.result ++ (elems ++ rest) =
    nets-net judge nets n net here
    ∙ (λ i. cause_against (Some (length-take-le n nets (omega arith) i)) None
    (sym (c.cause_of_head-cause.ensures (take n nets) repeated) i) ++ (elems ++ rest)) in
    record {
      causes = more _ _ _ elems (elems ++ rest) rest
          (more _ _ _ _ _ (elems ++ rest) c.loop-n.invariant.causes c.in_ok-put.ensures head)
          (c.in_ok-gather_elems.ensures.causes ∙ ap (λ (j : JudgedProblem).
          c.put.new.causes.items ++ elems_causes j (take n nets) net 0)
          (ap problem_of c.in_ok-rules.ensures))
          refl;
      pins = λ e.
          c.in_ok-take_pins.ensures e
          ∙ ap (λ (b : Bool). b || list_any (same_pin e) c.as_slice.result.now)
          (c.loop-n.invariant.pins e)
          ∙ ap (λ (es : List Elem). is_pin_of (take n nets) e || list_any (same_pin e) es)
          c.as_slice.ensures ∙ sym (pins-more nets n net e here);
      kept = subst (λ (earlier : List RouteNet). HasKept c.end_net.new.kept earlier [])
          (sym one_more)
          (c.in_ok-end_net.ensures (take n nets) c.in_ok-gather_elems.ensures.kept net);
    }

pub returns : goal.returns
returns c =
    sym (ap (λ (rest : List LineCause). c.loop-n.causes.items ++ rest)
    (nets-none c.args.judge.now c.args.nets.now c.loop-n.n
    (get-none c.args.nets.now c.loop-n.n (omega arith)))
    ∙ append-nil c.loop-n.causes.items) ∙ c.loop-n.invariant.causes
