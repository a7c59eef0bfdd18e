use Rattle.std.proofs.Common.{◌∙◌, ap, subst, sym}
use Rattle.fpga_problem.specs.Texts.{faults_of, problem_said}
use Rattle.fpga_text.specs.FirstFault.{IsRefusal}
use Rattle.fpga_types.specs.Texts.{Texts}
use Rattle.router_words.specs.Job.{recipe_said}
use Rattle.run_made.specs.Generated.{IsMade, PosesNone}
use Rattle.run_made.proofs.GeneratedLaws.{refused-many, said-made}
use Rattle.router_top.proofs.trying.make_problem.Goals as goal

pub returns-in-Ok-read_problem-clause-made : goal.returns-in-Ok-read_problem-clause-made
returns-in-Ok-read_problem-clause-made c =
    let recipe = recipe_said c.args.recipe in
    let said = c.in-Ok-read_problem.ensures.1
    ∙ ap problem_said (c.lent.ensures ∙ c.in-Ok.ensures.texts) in
    subst (IsMade recipe) (sym said)
    (said-made recipe c.args.recipe.in_range c.in-Ok.ensures.room)

pub returns-clause-none : goal.returns-clause-none
returns-clause-none c =
    let recipe = recipe_said c.args.recipe in
    let refusal = c.in-Err-read_problem.refusal in
    subst (PosesNone recipe) (sym c.unread_outcome.ensures)
    (refused-many recipe c.args.recipe.in_range c.in-Ok.ensures.room refusal.file refusal.fault
    (subst (λ (texts : Texts). IsRefusal (faults_of texts refusal.file) refusal.fault)
    (c.lent.ensures ∙ c.in-Ok.ensures.texts) c.in-Err-read_problem.ensures.first))
