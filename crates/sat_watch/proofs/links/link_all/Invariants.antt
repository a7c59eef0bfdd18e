use Rattle.std.proofs.Common.{take}
use Rattle.sat_watch.specs.Relinking.{AreNear, IsRelinking}
use Rattle.sat_watch.proofs.links.link_all.Given as goal

-- the clauses so far are linked
abbrev pub invariant-loop-pair : goal.invariant-loop-pair
invariant-loop-pair l = record {
  relinking :
      IsRelinking l.vars l.initial.arena.clauses l.pair-index l.arena.clauses l.heads.items;
  near : AreNear (take l.pair-index l.moves);
}
