use Rattle.std.proofs.Common.{subst, sym}
use Rattle.std.specs.Prelude.{List, ℤ}
use Rattle.model_text.specs.Drafts.{IsDraftOf}
use Rattle.model_text.proofs.ReadLemmas.{fault-passed, numbers-passed}
use Rattle.model_text.proofs.draft.Draft.take_line.Goals as goal

pub returns-in-Passed-clause-answers : goal.returns-in-Passed-clause-answers
returns-in-Passed-clause-answers c = λ before clean is.
    let words = c.args.line.now.words in (
      fault-passed _ before c.args.line.now.number words c.in-Passed.ensures clean,
      subst (λ (ns : List ℤ). IsDraftOf ns c.args.self.now)
          (sym (numbers-passed before words c.in-Passed.ensures)) is,
    )
