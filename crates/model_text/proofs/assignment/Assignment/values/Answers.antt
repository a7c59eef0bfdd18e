use Rattle.std.proofs.Common.{refl}
use Rattle.model_text.proofs.ModelLemmas.{satisfied}
use Rattle.model_text.proofs.assignment.Assignment.values.Goals as goal

pub returns : goal.returns
returns c = λ literals formula given none.
    rw c.deref.ensures.value
    (satisfied formula.vars literals c.args.self.now given formula refl none)
