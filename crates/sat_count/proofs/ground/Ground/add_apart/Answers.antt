use Rattle.std.proofs.Common.{All, subst, sym}
use Rattle.sat_clause.specs.Literal.{Clause, IsWithin}
use Rattle.sat_count.proofs.LevelLemmas.{apart-holds, apart-within}
use Rattle.sat_count.proofs.ground.Ground.add_apart.Goals as goal

pub add-requires-clause-within : goal.add-requires-clause-within
add-requires-clause-within c =
    subst (λ (clause : Clause). All (IsWithin c.args.refutation.now.last_variable) clause)
    (sym c.apart_clause-clause.ensures)
    (apart-within c.args.refutation.now c.args.self.now c.requires.ground
    c.args.self.now.many.1 c.args.lower c.args.higher c.args.track c.requires.lower
    c.requires.higher c.requires.track)

pub add-requires-clause-follows : goal.add-requires-clause-follows
add-requires-clause-follows c =
    rw (c.apart_clause-clause.ensures, c.apart_hints-hints.ensures)
    (apart-holds c.args.refutation.now c.args.self.now c.requires.ground
    c.args.self.now.many.1 c.args.lower c.args.higher c.args.track c.requires.lower
    c.requires.higher c.requires.track c.requires.helped)
