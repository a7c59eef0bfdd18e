use Rattle.std.proofs.Common.{◌<◌, ◌≤◌, length, refl, sym, ◌∙◌, subst}
use Rattle.sat_clause.specs.Literal.{Clause}
use Rattle.sat_watch.specs.Chains.{literals}
use Rattle.sat_watch.proofs.RelinkLemmas.{heads_long, heads_short, linked_long, linked_short}
use Rattle.sat_watch.proofs.links.relink.Goals as goal

pub returns-then-lits-ge2 : goal.returns-then-lits-ge2
returns-then-lits-ge2 c =
    let a = c.args in let ks = a.arena.now.clauses in let lits = literals ks a.c in
    let two : 2 ≤ length lits = subst (λ (l : Clause). 2 ≤ length l) c.lits.ensures.value
    c.if-lits-ge2.true in
    record {
      clauses = c.link_first.ensures.clauses ∙ linked_long a.vars lits a.heads.now.items a.c ks two;
      spare = c.link_first.ensures.spare;
      heads = c.link_first.ensures.heads ∙ heads_long a.vars lits a.c a.heads.now.items two;
      near = c.lits.ensures.near;
    }

pub returns-else-lits-ge2 : goal.returns-else-lits-ge2
returns-else-lits-ge2 c =
    let a = c.args in let ks = a.arena.now.clauses in let lits = literals ks a.c in
    let short : length lits < 2 = subst (λ (l : Clause). length l < 2) c.lits.ensures.value
    c.if-lits-ge2.false in
    record {
      clauses = sym (linked_short a.vars lits a.heads.now.items a.c ks short);
      spare = refl;
      heads = sym (heads_short a.vars lits a.c a.heads.now.items short);
      near = c.lits.ensures.near;
    }
