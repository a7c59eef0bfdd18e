use Rattle.std.proofs.Common.{◌≡◌, ◌∙◌, ◌==◌, ap, get_or, reverse, slice_index_or, subst, arith}
use Rattle.sat_clause.specs.Literal.{is_among, negation}
use Rattle.sat_watch.specs.Trail.{TrailState, falses}
use Rattle.sat_watch.specs.TrailStore.{place_of}
use Rattle.sat_watch.proofs.StoredLemmas.{default_free}
use Rattle.sat_watch.proofs.StoreLemmas.{truth_one}
use Rattle.sat_watch.proofs.TableLemmas.{place_within}
use Rattle.sat_watch.proofs.trail.Trail.is_true.Goals as goal

pub returns : goal.returns
returns c =
    let p = c.self.inside in let l = c.args.l in let read = c.index.result.now in
    let store = c.self.invariant in
    let within = rw (← c.self.view_is) at c.requires in
    let below = place_within p.vars l within in
    let there : read ≡ slice_index_or p.truths.items (place_of p.vars l) 0 =
    c.index.ensures ∙ (ap (λ n. get_or p.truths.items n read) c.place.ensures ∙
    default_free p.truths.items (place_of p.vars l) read 0
    (omega (arith, below, store.wide, p.truths.ok.0))) in
    subst (λ (t : TrailState). (read == 1) ≡ is_among (falses t.entries) (negation l))
    c.self.view_is
    (truth_one (reverse p.entries.items) l read within.0 store.trail.once
    (there ∙ store.told l within))
