use Rattle.std.proofs.Common.{map, ap, ◌∙◌}
use Rattle.sat_arena.specs.Compact.{moved_by}
use Rattle.sat_watch.specs.Delete.{entry_moved}
use Rattle.sat_watch.specs.Trail.{TrailState}
use Rattle.sat_watch.proofs.ReasonLemmas.{store_moved, turned_moved}
use Rattle.sat_watch.proofs.trail.Trail.move_reasons.Goals as goal

pub invariant_of-self : goal.invariant_of-self
invariant_of-self c =
    let i = c.self.inside in let to = moved_by c.args.moves.now in
    store_moved to i.entries c.move_all.new.entries
    (c.move_all.ensures ∙ ap (map (entry_moved to)) c.deref_mut.ensures.value) i.vars i.truths
    i.places c.self.invariant

pub returns : goal.returns
returns c =
    let i = c.self.inside in let to = moved_by c.args.moves.now in
    record {
      vars = ap (λ (t : TrailState). t.vars) c.self.view_is;
      entries =
          turned_moved to i.entries c.move_all.new.entries
          (c.move_all.ensures ∙ ap (map (entry_moved to)) c.deref_mut.ensures.value) ∙
          ap (λ (t : TrailState). map (entry_moved to) t.entries) c.self.view_is;
    }
