use Rattle.std.proofs.Common.{Option, Some, None, subst}
use Rattle.std.specs.Prelude.{IfSome}
use Rattle.sat_watch.specs.Chains.{ChainsState}
use Rattle.sat_watch.specs.Tails.{IsPart, IsTail, refs}
use Rattle.sat_watch.proofs.TailLemmas.{tail_at}
use Rattle.sat_watch.proofs.chains.Chains.tail_from.Goals as goal

some_more : {X : Type 0} {P Q : X → Type 0} (o : Option X) → ((x : X) → P x → Q x) →
    IfSome o P → IfSome o Q
some_more None more p = tt
some_more (Some x) more p = more x p

pub returns : goal.returns
returns c =
    let i = c.self.inside in
    let within = rw (← c.self.view_is) at c.requires.within in
    subst (λ (s : ChainsState). IfSome c.from.result
    (λ tail. IsTail s.clauses c.args.f (Some c.args.clause) tail.0.now (refs tail.1.now) None))
    c.self.view_is
    (some_more c.from.result
    (λ tail part. tail_at i.vars i.arena.clauses i.tails c.args.f c.args.clause tail.0.now
    tail.1.now c.self.invariant.tails within
    (subst (λ p. IsPart i.tails p c.args.clause.word tail.0.now tail.1.now) c.place.ensures part))
    c.from.ensures)
