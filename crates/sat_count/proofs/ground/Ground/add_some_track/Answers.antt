use Rattle.std.proofs.Common.{◌∙◌, All, subst, sym}
use Rattle.sat_clause.specs.Literal.{Clause, IsWithin}
use Rattle.std.proofs.Common.{get_or}
use Rattle.sat_count.proofs.LevelLemmas.{some-holds, some-within}
use Rattle.sat_count.proofs.RowLemmas.{row-some}
use Rattle.sat_count.proofs.ground.Ground.add_some_track.Goals as goal

pub add-requires-clause-some : goal.add-requires-clause-some
add-requires-clause-some c = λ none.
    row-some (get_or c.args.self.now.firsts.now c.args.place 0) c.args.self.now.tracks
    c.args.self.now.many.0 (sym (c.deref.ensures.value ∙ c.in-Ok.ensures) ∙ none)

pub add-requires-clause-within : goal.add-requires-clause-within
add-requires-clause-within c =
    subst (λ (clause : Clause). All (IsWithin c.args.refutation.now.last_variable) clause)
    (sym (c.deref.ensures.value ∙ c.in-Ok.ensures))
    (some-within c.args.refutation.now c.args.self.now c.requires.ground
    c.args.self.now.many.1 c.args.place c.requires.place)

pub add-requires-clause-follows : goal.add-requires-clause-follows
add-requires-clause-follows c =
    rw (
      c.deref.ensures.value,
      c.in-Ok.ensures,
      c.deref-2.ensures.value,
      c.in-Ok-some_hints.ensures,
    )
    (some-holds c.args.refutation.now c.args.self.now c.requires.ground
    c.args.self.now.many.1 c.args.place c.requires.place)
