use Rattle.std.proofs.Common.{◌∙◌, ap, length, set, sym}
use Rattle.sat_clause.specs.Literal.{negation}
use Rattle.sat_watch.specs.Trail.{TrailState}
use Rattle.sat_watch.specs.TrailStore.{place_of}
use Rattle.sat_watch.proofs.StoreLemmas.{has_room, push_store}
use Rattle.sat_watch.proofs.trail.Trail.push.Goals as goal

pub push_reserved-requires : goal.push_reserved-requires
push_reserved-requires c =
    let p = c.self.inside in
    let free = rw (← c.self.view_is) at c.requires.open in
    let within = rw (← c.self.view_is) at c.requires.within in
    has_room p.vars p.entries p.entries p.truths p.places c.args.entry c.self.invariant within free

pub invariant_of-self : goal.invariant_of-self
invariant_of-self c =
    let p = c.self.inside in
    let free = rw (← c.self.view_is) at c.requires.open in
    let within = rw (← c.self.view_is) at c.requires.within in
    let told = c.tell.ensures ∙ ap (λ l. set (set l (place_of p.vars c.args.entry.lit) 1)
    (place_of p.vars (negation c.args.entry.lit)) 2) c.deref_mut-truths.ensures.value in
    rw (
      c.variable.ensures,
      c.len-older.ensures ∙ ap (λ (t : TrailState). length t.entries) (sym c.self.view_is),
    )
    (push_store p.vars p.entries c.push_reserved.new.self p.truths p.places c.args.entry
    c.self.invariant within free c.tell.new.truths told
    c.push_reserved.ensures.items c.push_reserved.ensures.capacity)
