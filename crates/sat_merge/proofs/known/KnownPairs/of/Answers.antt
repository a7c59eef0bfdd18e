use Rattle.std.proofs.Common.{◌≡◌, ◌∙◌, ap, arith, inl, inr, slice_get, subst, sym}
use Rattle.std.proofs.lemmas.Bool.Decides.{eqb_tells}
use Rattle.list_laws.proofs.Places.{some_is}
use Rattle.sat_merge.specs.Known.{IsNoted}
use Rattle.sat_merge.proofs.LemmaLaws.{noted_inputs, noted_more}
use Rattle.sat_merge.proofs.known.KnownPairs.of.Goals as goal

pub loop-at-preserved : goal.loop-at-preserved
loop-at-preserved c = λ i clause below at.
    elim (eqb_tells i c.loop-at.at) [
      | inl here ↦
          let same : c.clause.result.now ≡ clause =
          some_is (sym c.clause.ensures.value
          ∙ ap (slice_get c.args.formula.now.cnf.clauses) (sym here.1) ∙ at) in
          subst (IsNoted c.note.new.self) same (c.in_ok-note.ensures.noted c.if-not-branch.false)
      | inr other ↦
          noted_more c.loop-at.known c.note.new.self clause c.in_ok-note.ensures.more
          (c.loop-at.invariant i clause (omega (arith, other.1, below)) at)
    ]

pub returns : goal.returns
returns c =
    noted_inputs c.args.formula.now.cnf c.loop-at.known (λ i clause below at.
    c.loop-at.invariant i clause (omega (arith, below, c.loop-at-test.false, c.len-at-end.ensures))
    at)
