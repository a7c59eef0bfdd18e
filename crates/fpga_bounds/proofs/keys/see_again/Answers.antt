use Rattle.std.proofs.Common.{◌∙◌}
use Rattle.fpga_bounds.specs.Keys.{elem_key}
use Rattle.fpga_bounds.proofs.KeyLemmas.{one_more_elem}
use Rattle.fpga_bounds.proofs.keys.see_again.Goals as goal

pub returns-clause-gains : goal.returns-clause-gains
returns-clause-gains c = λ q. c.in_ok-is_new.ensures.updates.0 (elem_key q)
    ∙ one_more_elem c.elem_key.result c.args.e q _ c.elem_key.ensures
