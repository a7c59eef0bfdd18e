use Rattle.std.proofs.Common.{sym, arith}
use Rattle.sat_check.proofs.InputLaws.{is_some-within, marked_without, none_changes, position_is}
use Rattle.sat_check.proofs.input_clauses.InputClauses.take_out.Goals as goal

pub returns-in_default-clause-live : goal.returns-in_default-clause-live
returns-in_default-clause-live c =
    let p = c.self.inside in
    let none = rw c.deref.ensures.value at c.in_default.ensures in
    rw (← c.self.view_is) (none_changes p.formula.now.cnf.vars p.live.items
    p.formula.now.cnf.clauses c.args.id (sym none))

pub returns-clause-found : goal.returns-clause-found
returns-clause-found c =
    let p = c.self.inside in
    let some = rw c.deref.ensures.value at c.in-Some.ensures in
    let within = (position_is p.live.items c.args.id c.in-Some.at (sym some)).0 in
    rw (← c.self.view_is, ← some) (sym
    (is_some-within p.formula.now.cnf.clauses c.in-Some.at
    (omega (arith, within, c.self.invariant.one_each))))

pub returns-clause-live : goal.returns-clause-live
returns-clause-live c =
    let p = c.self.inside in
    let some = rw c.deref.ensures.value at c.in-Some.ensures in
    rw (← c.self.view_is) (marked_without p.formula.now.cnf.vars p.live.items
    p.formula.now.cnf.clauses c.args.id c.in-Some.at (sym some))
