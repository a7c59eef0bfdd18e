use Rattle.std.proofs.Common.{arith}
use Rattle.sat_clause.proofs.PartsLaws.{length-parts_from}
use Rattle.sat_clause.proofs.FormulaLaws.{IsWithin-more}
use Rattle.sat_clause.proofs.formula.Formula.reserve.Goals as goal

pub invariant_of-self-2 : goal.invariant_of-self-2
invariant_of-self-2 c =
    let lits_ok = c.in_ok-reserve-2.ensures in
    let ends_ok = c.in_ok-reserve.ensures in
    let old = c.self.invariant in
    let full = c.self.inside.ends.ok.0 in
    let many = length-parts_from 0 c.self.inside.lits.items c.self.inside.ends.items in
    let few = rw (← c.self.view_is) at c.requires.few_clauses in
    let no_fewer = rw (← c.self.view_is) at c.requires.no_fewer in
    let rise = rw c.self.inside.lits.ok.0 at old.rise in
    record {
      rise = rw (ends_ok.items, lits_ok.len) old.rise;
      within =
          rw lits_ok.items (IsWithin-more c.self.inside.vars c.args.vars c.self.inside.lits.items
          c.self.inside.ends.items old.within rise no_fewer);
      few_vars = c.requires.few_vars;
      few_clauses = omega arith;
      clauses_fit = omega arith;
      few_lits = omega arith;
      lits_fit = omega arith;
    }
