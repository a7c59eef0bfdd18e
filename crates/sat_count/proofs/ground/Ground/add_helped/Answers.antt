use Rattle.std.proofs.Common.{All, subst, sym}
use Rattle.sat_clause.specs.Literal.{Clause, IsWithin}
use Rattle.sat_count.proofs.LevelLemmas.{helped-follows, helped-within}
use Rattle.sat_count.proofs.ground.Ground.add_helped.Goals as goal

pub add-requires-clause-within : goal.add-requires-clause-within
add-requires-clause-within c =
    subst (λ (clause : Clause). All (IsWithin c.args.refutation.now.last_variable) clause)
    (sym c.helped_clause-clause.ensures)
    (helped-within c.args.refutation.now c.args.self.now c.requires.ground
    c.args.self.now.many.1 c.args.lower c.args.higher c.args.track c.requires.lower
    c.requires.higher c.requires.track)

pub add-requires-clause-follows : goal.add-requires-clause-follows
add-requires-clause-follows c =
    rw (c.helped_clause-clause.ensures, c.helped_hints-hints.ensures)
    (helped-follows c.args.refutation.now c.args.self.now c.requires.ground
    c.args.self.now.many.1 c.args.lower c.args.higher c.args.track c.requires.lower
    c.requires.higher c.requires.track)
