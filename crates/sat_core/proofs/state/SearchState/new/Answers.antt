use Rattle.std.proofs.Common.{◌≡◌, length, arith}
use Rattle.sat_core.specs.Inputs.{pairs_and_below}
use Rattle.sat_core.proofs.InputLaws.{all_picked, taken_all}
use Rattle.sat_core.proofs.RankingLaws.{ranked_start}
use Rattle.sat_core.proofs.state.SearchState.new.Goals as goal

pub invariant_of-result : goal.invariant_of-result
invariant_of-result c =
    let inputs = c.in_ok-watches.ensures.taken in
    let vars : c.in_ok-watches.field-0.watches.vars ≡ c.args.formula.now.cnf.vars = inputs.vars in
    record {
      store = rw c.len-inputs.ensures inputs.store;
      ready = record {
        clean = c.in_ok-findings.ensures.clean;
        size = omega (arith, c.in_ok-findings.ensures.size, c.vars-vars.ensures.value, vars);
      };
      ranked = ranked_start _ c.in_ok-watches.field-0.watches.vars
          c.in_ok-watches.field-0.watches.trail _
          (omega (arith, c.vars-vars.ensures.value, vars)) inputs.none_true
          c.in_ok-findings.ensures.ranked;
    }

pub returns : goal.returns
returns c =
    let cnf = c.args.formula.now.cnf in
    let inputs = c.in_ok-watches.field-0 in
    rw c.len-inputs.ensures
    (taken_all cnf (pairs_and_below (length cnf.clauses)) inputs.singles inputs.watches
    (all_picked cnf) c.in_ok-watches.ensures.taken)
