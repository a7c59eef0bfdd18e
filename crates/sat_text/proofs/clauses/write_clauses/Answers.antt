use Rattle.std.proofs.Common.{rules, ◌≡◌, ◌∙◌, ◌≤◌, ℕ, [], length, take, drop, ap, subst}
use Rattle.std.specs.Prelude.{All}
use Rattle.std.proofs.Math.Seq.{take-length}
use Rattle.std.proofs.lemmas.List.{drop_all}
use Rattle.std.proofs.lemmas.List.Elements.{All-append}
use Rattle.list_laws.proofs.FrontParts.{all-front}
use Rattle.sat_clause.specs.Literal.{IsWithin}
use Rattle.sat_text.specs.Printed.{clause_text}
use Rattle.sat_text.specs.Rows.{between}
use Rattle.sat_text.proofs.PieceLemmas.{all-passed, none-passed, piece-passed, rest-fails}
use Rattle.sat_text.proofs.RowsLemmas.{between-rest, front-between}
use Rattle.sat_text.proofs.clauses.write_clauses.Goals as goal

pub loop-next-init : goal.loop-next-init
loop-next-init g c = record {
  most = search rules;
  passed = none-passed clause_text c.args.formula.now.cnf.clauses _ _;
  within = all-front (All (IsWithin c.args.formula.now.cnf.vars)) c.args.formula.now.cnf.clauses;
  created = c.requires;
}

pub returns-in_default-clause-written : goal.returns-in_default-clause-written
returns-in_default-clause-written g c =
    rest-fails clause_text c.args.formula.now.cnf.clauses c.loop-next.invariant.passed
    c.in_default.ensures.err

pub loop-next-preserved : goal.loop-next-preserved
loop-next-preserved g c =
    let clauses = c.args.formula.now.cnf.clauses in
    let next = c.loop-next.next in
    let behind = c.in-Ok.others in
    let later : next ≤ behind = search rules in
    record {
      most = c.in-Ok.ensures.ok.most;
      passed = piece-passed clause_text clauses c.loop-next.invariant.passed
          (between next behind clauses) (drop behind clauses)
          (between-rest clauses next behind later) c.in-Ok.ensures.ok.passed;
      within = subst (All (All (IsWithin c.args.formula.now.cnf.vars)))
          (front-between clauses next behind later)
          (All-append (All (IsWithin c.args.formula.now.cnf.vars)) (take next clauses)
          (between next behind clauses) c.loop-next.invariant.within c.in-Ok.ensures.ok.within);
      created = search rules;
    }

pub returns-clause-written : goal.returns-clause-written
returns-clause-written g c =
    let clauses = c.args.formula.now.cnf.clauses in
    let none : drop c.loop-next.next clauses ≡ [] =
    drop_all c.loop-next.next clauses (search rules) in
    all-passed clause_text clauses c.loop-next.invariant.passed none

pub returns-clause-within : goal.returns-clause-within
returns-clause-within g c =
    let clauses = c.args.formula.now.cnf.clauses in
    let whole : c.loop-next.next ≡ length clauses = search rules in
    subst (All (All (IsWithin c.args.formula.now.cnf.vars)))
    (ap (λ (n : ℕ). take n clauses) whole ∙ take-length clauses) c.loop-next.invariant.within
