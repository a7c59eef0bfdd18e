use Rattle.std.proofs.Common.{◌∙◌}
use Rattle.fpga_bounds.specs.Keys.{elem_key}
use Rattle.fpga_bounds.proofs.KeyLemmas.{one_more_elem}
use Rattle.fpga_bounds.proofs.keys.see.Goals as goal

pub returns : goal.returns
returns c = λ q. c.in_ok-insert.ensures.updates.0 (elem_key q)
    ∙ one_more_elem c.elem_key.result c.args.e q _ c.elem_key.ensures
