use Rattle.std.proofs.Common.{subst, sym}
use Rattle.sat_check.specs.Finder.{Finder, Finds}
use Rattle.sat_rat.proofs.counted_clauses.CountedClauses.widen.Goals as goal

pub returns-clause-tracks : goal.returns-clause-tracks
returns-clause-tracks c = λ live tracks.
    let now = rw (← c.self.view_is) at tracks in
    record {
      finds = subst (λ (f : Finder). Finds f live) (sym c.widen.ensures.live) now.finds;
      counted = now.counted;
    }
