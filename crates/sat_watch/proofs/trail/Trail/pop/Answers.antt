use Rattle.std.proofs.Common.{◌∙◌, ap, set}
use Rattle.sat_clause.specs.Literal.{negation}
use Rattle.sat_watch.specs.TrailStore.{place_of}
use Rattle.sat_watch.proofs.StoreLemmas.{pop_store}
use Rattle.sat_watch.proofs.trail.Trail.pop.Goals as goal

pub invariant_of-self-2 : goal.invariant_of-self-2
invariant_of-self-2 c =
    let p = c.self.inside in let l = c.in-Some.entry.lit in
    let told = c.tell.ensures ∙ ap (λ t. set (set t (place_of p.vars l) 0)
    (place_of p.vars (negation l)) 0) c.deref_mut.ensures.value in
    pop_store p.vars p.entries c.pop.new.self p.truths p.places c.in-Some.entry c.self.invariant
    c.tell.new.truths told c.in-Some.ensures.items c.in-Some.ensures.capacity
