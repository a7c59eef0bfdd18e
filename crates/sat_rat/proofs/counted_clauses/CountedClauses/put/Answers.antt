use Rattle.std.proofs.Common.{◌≡◌, List, ℕ, subst}
use Rattle.sat_check.specs.LiveStore.{live_at}
use Rattle.sat_clause.specs.Live.{put}
use Rattle.sat_rat.specs.Counts.{AreCounted}
use Rattle.sat_rat.proofs.TrackLaws.{counted_put}
use Rattle.sat_rat.proofs.counted_clauses.CountedClauses.put.Goals as goal

pub returns-clause-ok : goal.returns-clause-ok
returns-clause-ok c = λ live tracks.
    let p = c.self.inside in
    let now = rw (← c.self.view_is) at tracks in
    let counted = counted_put (live_at p.live) live c.in-Some.counts c.add.new.self
    c.take-2.new.self now.finds (now.counted c.in-Some.counts c.in-Some.is) c.args.id
    c.in-Ok.gone.items c.args.clause.now c.in-Ok.ensures.times c.in-Ok-add.ensures.ok
    (simp c.deref.ensures.value at c.take-2.ensures) in
    record {
      finds = c.in-Ok-put.ensures.live live now.finds;
      counted = λ counts is.
          let same : c.take-2.new.self ≡ counts = cc in
          subst (λ (row : List ℕ). AreCounted row (put live c.args.id c.args.clause.now)) same
          counted;
    }
