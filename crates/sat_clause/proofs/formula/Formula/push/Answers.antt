use Rattle.std.proofs.Common.{◌≡◌, ◌+◌, length, arith}
use Rattle.std.proofs.lemmas.List.Elements.{All-append}
use Rattle.sat_clause.specs.Literal.{IsWithin}
use Rattle.sat_clause.proofs.PartsLaws.{parts_push, rise_push}
use Rattle.sat_clause.proofs.formula.Formula.push.Goals as goal

pub invariant_of-self : goal.invariant_of-self
invariant_of-self c =
    let more = c.in-Ok.ensures in
    let old = c.self.invariant in
    let within = rw (← c.self.view_is) at c.requires.within in
    let room = rw (← c.self.view_is) at c.requires.clause_room in
    let lits_room = rw (← c.self.view_is) at c.requires.lit_room in
    record {
      rise =
          rw (c.push_reserved.ensures.items, c.len.ensures)
          (rise_push c.self.inside.lits.len _ 0 c.self.inside.ends.items old.rise
          (omega arith));
      within =
          rw more.items (All-append (IsWithin c.self.inside.vars) c.self.inside.lits.items
          c.args.lits.now old.within within);
      few_vars = old.few_vars;
      few_clauses = omega arith;
      clauses_fit = omega arith;
      few_lits = omega arith;
      lits_fit = omega arith;
    }

pub returns-clause-clauses : goal.returns-clause-clauses
returns-clause-clauses c =
    let more = c.in-Ok.ensures in
    let full = c.self.inside.lits.ok.0 in
    let rise = rw full at c.self.invariant.rise in
    let end : c.len.result ≡ length c.self.inside.lits.items + length c.args.lits.now =
    omega arith in
    rw (← c.self.view_is, c.push_reserved.ensures.items, more.items)
    (parts_push 0 c.self.inside.lits.items c.args.lits.now c.self.inside.ends.items _ rise end)
