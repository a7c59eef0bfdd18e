use Rattle.std.proofs.Common.{◌≡◌, ◌∙◌, List, sym, ap, subst}
use Rattle.sat_clause.specs.Formula.{Cnf}
use Rattle.sat_clause.specs.Judge.{inputs}
use Rattle.sat_clause.specs.Step.{Step}
use Rattle.route_core.specs.Trimmed.{IsTrimmed}
use Rattle.route_core.specs.Trimming.{needed_steps, trimmed_of}
use Rattle.route_core.proofs.TrimmingLemmas.{trims_well}
use Rattle.route_core.proofs.trimming.trim.Goals as goal

pub returns : goal.returns
returns c =
    let is : c.in_ok-small.small.steps ≡ trimmed_of c.args.formula.now.cnf c.args.log.now.steps =
    c.in_ok-small.ensures ∙ c.in_ok-back.ensures
    ∙ ap (λ (f : Cnf). needed_steps (inputs f) c.in_ok-sources.sources.log)
    c.in_ok-sources.ensures.formula
    ∙ ap (needed_steps (inputs c.args.formula.now.cnf)) c.in_ok-sources.ensures.log in
    subst (λ (ss : List Step). IsTrimmed c.args.formula.now.cnf c.args.log.now.steps ss) (sym is)
    (trims_well c.args.formula.now.cnf c.args.log.now.steps c.requires.accepted)
