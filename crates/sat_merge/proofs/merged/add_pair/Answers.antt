use Rattle.std.proofs.Common.{[], ◌∷◌, ◌++◌, ◌∙◌, All, ap, arith, pos, subst, sym}
use Rattle.sat_clause.specs.Formula.{Cnf}
use Rattle.sat_clause.specs.Literal.{IsWithin, lit}
use Rattle.sat_merge.specs.Representatives.{keeps}
use Rattle.sat_merge.specs.Rewritten.{AreKept}
use Rattle.sat_merge.proofs.MergedLaws.{two_lits}
use Rattle.sat_merge.proofs.merged.add_pair.Goals as goal

pub push-requires-clause-within : goal.push-requires-clause-within
push-requires-clause-within c =
    let vars = c.args.merged.now.cnf.vars in
    let two = two_lits c.args.clause.now (lit (pos 0)) (lit (pos 0)) c.requires.two in
    subst (λ (f : Cnf). All (IsWithin f.vars) c.in-Some.pair) (sym c.room_for.ensures.cnf)
    (c.in-Some.ensures.within vars c.requires.may.variables
    (subst (All (IsWithin vars)) (sym two) c.requires.may.within))

pub returns : goal.returns
returns c =
    let two = two_lits c.args.clause.now (lit (pos 0)) (lit (pos 0)) c.requires.two in
    record {
      vars = c.push.ensures.vars ∙ ap (λ (f : Cnf). f.vars) c.room_for.ensures.cnf;
      own = c.in-Some.pair;
      clauses = c.push.ensures.clauses
          ∙ ap (λ (f : Cnf). f.clauses ++ c.in-Some.pair ∷ []) c.room_for.ensures.cnf;
      stays = λ kept.
          c.in-Some.ensures.kept (subst (AreKept (keeps c.args.representatives.now)) (sym two) kept)
          ∙ two;
      clause_room = omega (arith, c.push.ensures.clause_room, c.room_for.ensures.clause_room);
      lit_room = omega (
        arith,
        c.push.ensures.lit_room,
        c.in_ok-room.ensures.room.0,
        c.in_ok-room.ensures.room.1,
      );
    }
