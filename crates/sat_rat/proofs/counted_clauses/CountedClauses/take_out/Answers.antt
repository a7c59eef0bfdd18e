use Rattle.std.proofs.lemmas.Int.{to_z-of_z}
use mir.Val.{SFits}
use mir.Syntax.{w64}
use Rattle.std.proofs.Common.{◌≡◌, ℕ, ℤ, List, subst}
use Rattle.sat_clause.specs.Judge.{take_out}
use Rattle.sat_check.specs.Finder.{Finds}
use Rattle.sat_check.specs.LiveStore.{live_at}
use Rattle.sat_rat.specs.Counts.{AreCounted}
use Rattle.sat_rat.proofs.TrackLaws.{counted_out}
use Rattle.sat_rat.proofs.counted_clauses.CountedClauses.take_out.Goals as goal

pub returns-clause-tracks : goal.returns-clause-tracks
returns-clause-tracks c = λ found live tracks.
    let p = c.self.inside in
    let fits : SFits w64 c.args.id = c.ranges.id in
    let at = simp to_z-of_z at c.in-Some-named.ensures.value in
    let now = rw (← c.self.view_is) at tracks in
    let counted = counted_out (live_at p.live) live c.in-Some.counts c.take.new.self now.finds
    (now.counted c.in-Some.counts c.in-Some.is) c.args.id c.in-Some-named.clause.now at
    c.take.ensures in
    record {
      finds = subst (λ (z : ℤ). Finds (live_at c.take_out-2.new.self) (take_out live z))
          (to_z-of_z w64 c.args.id fits) (c.take_out-2.ensures.live found live now.finds);
      counted = λ counts is.
          let same : c.take.new.self ≡ counts = cc in
          subst (λ (row : List ℕ). AreCounted row (take_out live c.args.id)) same counted;
    }
