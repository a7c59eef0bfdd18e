use Rattle.std.specs.Option.{is_some}
use Rattle.std.proofs.Common.{◌≡◌, ◌+◌, ◌++◌, ◌∷◌, [], ◌∙◌, inl, inr, pos, take, get_or, sym, false, IfNone, Option, None, Some}
use Rattle.std.proofs.lemmas.List.{take_more}
use Rattle.sat_clause.specs.declared.literal.Lit.{Lit}
use Rattle.sat_clause.specs.Literal.{Clause, lit}
use Rattle.sat_core.proofs.AnalysisLaws.{either_place}
use Rattle.sat_core.proofs.analysis.Analysis.are_covered.Goals as goal

pub loop-l-preserved : goal.loop-l-preserved
loop-l-preserved c =
    let trail = c.args.self.now.watches.now.trail in
    let lits = c.args.lits.now in
    let i = c.loop-l.l-index in
    let l : Lit = get_or lits i (lit (pos 0)) in
    let front : Clause = take i lits in
    let longer : take (i + 1) lits ≡ front ++ l ∷ [] =
    take_more lits i (lit (pos 0)) c.loop-l-test.true in
    rw longer (λ place is. elim (either_place trail front l place is) [
      | inl before ↦ c.loop-l.invariant place before
      | inr here ↦ none_said c.uncovered_place.result c.uncovered_place.ensures.none
          (sym c.is_some.ensures ∙ c.if-is_some.false) place here
    ])
  where
    none_said : {X : Type 0} {P : Type 0} (o : Option X) → IfNone o P → is_some o ≡ false → P
    none_said None said is = said
    none_said (Some x) said is = cc
