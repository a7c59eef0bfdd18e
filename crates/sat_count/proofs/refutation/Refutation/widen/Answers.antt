use Rattle.std.proofs.Common.{◌<◌, add-one, subst, sym}
use Rattle.sat_clause.specs.declared.limits.TheConstants.{LITERAL_LIMIT}
use Rattle.sat_count.specs.Refuting.{RefutationState}
use Rattle.sat_count.proofs.VariableLemmas.{widen-refutes}
use Rattle.sat_count.proofs.refutation.Refutation.widen.Goals as goal

pub invariant_of-self : goal.invariant_of-self
invariant_of-self c =
    let was : RefutationState = record {
      cnf = c.self.inside.formula.now.cnf;
      steps = c.self.inside.log.steps;
      last_id = c.self.inside.last_id;
      last_variable = c.self.inside.last_variable;
    } in
    let room = subst (λ (r : RefutationState). r.last_variable < LITERAL_LIMIT)
    (sym c.self.view_is) c.requires in
    rw add-one (widen-refutes was c.self.invariant room)
