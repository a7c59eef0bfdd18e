use Rattle.std.proofs.Common.{rules, ◌≡◌, ◌∙◌, ◌++◌, ◌-◌, ℕ, suc, List, [], ◌∷◌, sym, ap, subst}
use Rattle.std.specs.Prelude.{All, flat_map}
use Rattle.std.proofs.lemmas.List.{drop_all}
use Rattle.std.proofs.lemmas.List.Elements.{All-nil, All-cons}
use Rattle.sat_clause.specs.Literal.{IsWithin}
use Rattle.sat_text.specs.Printed.{clause_text}
use Rattle.sat_text.specs.Rows.{between}
use Rattle.sat_text.proofs.RowsLemmas.{between-next, between-none}
use Rattle.sat_text.proofs.clauses.put_rows.Goals as goal

pub loop-i-init : goal.loop-i-init
loop-i-init c =
    let clauses = c.args.formula.now.cnf.clauses in
    let none : between c.args.behind c.args.behind clauses ≡ [] =
    between-none clauses c.args.behind in
    record {
      from = search rules;
      before = search rules;
      long = search (rules, c.told-room);
      put = drop_all 1538 c.args.room.now (search (rules, c.told-room))
          ∙ ap (flat_map clause_text) (sym none);
      within = subst (All (All (IsWithin c.args.formula.now.cnf.vars))) (sym none)
          (All-nil (All (IsWithin c.args.formula.now.cnf.vars)));
    }

pub loop-i-preserved : goal.loop-i-preserved
loop-i-preserved c =
    let clauses = c.args.formula.now.cnf.clauses in
    let i = c.loop-i.i in
    let same : suc (i - 1) ≡ i = search rules in
    let next : between (i - 1) c.args.behind clauses
    ≡ c.clause.result.now ∷ between (suc (i - 1)) c.args.behind clauses =
    between-next clauses (i - 1) c.args.behind c.clause.result.now c.clause.ensures.value
    (search rules) in
    let more : between (i - 1) c.args.behind clauses
    ≡ c.clause.result.now ∷ between i c.args.behind clauses =
    next ∙ ap (λ (k : ℕ). c.clause.result.now ∷ between k c.args.behind clauses) same in
    record {
      from = search rules;
      before = search rules;
      long = c.put_row.array_long;
      put = c.in-Some.ensures.put
          ∙ ap (λ (t : List ℕ). clause_text c.clause.result.now ++ t) c.loop-i.invariant.put
          ∙ ap (flat_map clause_text) (sym more);
      within = subst (All (All (IsWithin c.args.formula.now.cnf.vars))) (sym more)
          (All-cons (All (IsWithin c.args.formula.now.cnf.vars)) c.clause.result.now
          (between i c.args.behind clauses) c.clause.ensures.within c.loop-i.invariant.within);
    }

pub returns-clause-put : goal.returns-clause-put
returns-clause-put c =
    let at : c.loop-i.i ≡ c.args.first = search rules in
    c.loop-i.invariant.put
    ∙ ap (λ (k : ℕ). flat_map clause_text (between k c.args.behind
    c.args.formula.now.cnf.clauses)) at

pub returns-clause-within : goal.returns-clause-within
returns-clause-within c =
    let at : c.loop-i.i ≡ c.args.first = search rules in
    subst (λ (k : ℕ). All (All (IsWithin c.args.formula.now.cnf.vars)) (between k c.args.behind
    c.args.formula.now.cnf.clauses)) at c.loop-i.invariant.within
