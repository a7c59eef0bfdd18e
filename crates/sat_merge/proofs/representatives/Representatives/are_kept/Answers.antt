use Rattle.std.proofs.Common.{◌≡◌, arith, pos, sym, true}
use Rattle.std.proofs.lemmas.List.Elements.{All-more}
use Rattle.list_laws.proofs.FrontParts.{all-whole}
use Rattle.sat_clause.specs.declared.literal.Lit.{Lit}
use Rattle.sat_clause.specs.Literal.{lit}
use Rattle.sat_merge.specs.Representatives.{keeps}
use Rattle.sat_merge.specs.Rewritten.{AreKept}
use Rattle.sat_merge.proofs.RepresentativeLaws.{kept_within}
use Rattle.sat_merge.proofs.representatives.Representatives.are_kept.Goals as goal

-- the next literal is of a representative
pub loop-l-preserved : goal.loop-l-preserved
loop-l-preserved c =
    All-more (λ (l : Lit). keeps c.args.self.now l ≡ true) c.args.clause.now c.loop-l.l-index
    (lit (pos 0)) c.loop-l-test.true c.loop-l.invariant
    (rw c.variable.ensures at (sym c.if-not-is_representative.ensures.value))

-- at the end they are all the literals of the clause
all_kept : (c : goal.After-loop-l) → AreKept (keeps c.args.self.now) c.args.clause.now
all_kept c =
    all-whole (λ (l : Lit). keeps c.args.self.now l ≡ true) c.args.clause.now c.loop-l.l-index
    (omega arith) c.loop-l.invariant

pub returns-clause-kept : goal.returns-clause-kept
returns-clause-kept c = (λ is. all_kept c, search)

pub returns-clause-within : goal.returns-clause-within
returns-clause-within c = λ is vars many.
    kept_within c.args.self.now vars c.args.clause.now many c.requires (all_kept c)
