use Rattle.std.proofs.Common.{◌≡◌, Bool, true, false, Option, refl, sym, ap, ◌∙◌}
use Rattle.std.specs.Prelude.{not, ◌&&◌}
use Rattle.std.specs.Option.{option_to_list}
use Rattle.fpga_types.specs.declared.problem.Terminal.{Terminal}
use Rattle.fpga_bounds.specs.Keys.{has_elem}
use Rattle.fpga_bounds.specs.NetEnds.{lacks_one}
use Rattle.fpga_bounds.proofs.net_ends.is_missing.Goals as goal

and-true : (b : Bool) → b ≡ (b && true)
and-true true = refl
and-true false = refl

pub returns : goal.returns
returns c =
    ap not (c.has_elem.ensures ∙ ap (has_elem c.args.seen.now) c.sink_line.ensures ∙ and-true _)
    ∙ ap (λ (o : Option Terminal). lacks_one c.args.seen.now (option_to_list o)) (sym c.in-Some.is)
