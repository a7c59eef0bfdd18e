use Rattle.std.proofs.Common.{◌≡◌, ◌≢◌, pos, List, get_or, sym, ap, ◌∙◌, subst, arith}
use Rattle.std.specs.Ordering.{int_eq}
use Rattle.std.proofs.lemmas.Bool.{both_ways}
use Rattle.std.proofs.lemmas.Bool.Decides.{Decides-int_eq}
use Rattle.sat_clause.specs.declared.literal.Lit.{Lit}
use Rattle.sat_clause.specs.Literal.{lit}
use Rattle.sat_arena.specs.Store.{stored_at}
use Rattle.sat_watch.specs.Chains.{ChainsState, IsPlaceOf}
use Rattle.sat_watch.proofs.VisitLemmas.{in_chain, in_chain_held, watch_first, watch_second}
use Rattle.sat_watch.proofs.chains.Chains.place.Goals as goal

pub lits-requires : goal.lits-requires
lits-requires c =
    let goes = rw (← c.self.view_is) at c.requires.goes in
    record { held = in_chain_held c.self.inside.arena.clauses c.args.f c.args.clause goes }

pub returns-then-eq-clause-place : goal.returns-then-eq-clause-place
returns-then-eq-clause-place c =
    let ks = c.self.inside.arena.clauses in
    let goes = rw (← c.self.view_is) at c.requires.goes in
    let k = stored_at ks c.args.clause in
    let a = in_chain ks c.args.f c.args.clause goes in
    let first : (get_or k.lits 0 (lit (pos 0))).code ≡ c.args.f.code =
    ap (λ (l : List Lit). (get_or l 0 (lit (pos 0))).code)
    (sym c.lits.ensures.value) ∙
    (Decides-int_eq (get_or c.lits.result.now 0 (lit (pos 0))).code c.args.f.code).0
    (sym c.eq.ensures ∙ c.if-eq.true) in
    subst (λ (s : ChainsState). IsPlaceOf s.clauses c.args.f
    (record { clause = c.args.clause; which = 0 })) c.self.view_is
    (record {
      held = in_chain_held ks c.args.f c.args.clause goes;
      which = omega arith;
      watch = watch_first k.lits c.args.f k.link0 k.link1 a.0 a.1 first;
    })

pub returns-clause-place : goal.returns-clause-place
returns-clause-place c =
    let ks = c.self.inside.arena.clauses in
    let goes = rw (← c.self.view_is) at c.requires.goes in
    let k = stored_at ks c.args.clause in
    let a = in_chain ks c.args.f c.args.clause goes in
    let first : (get_or k.lits 0 (lit (pos 0))).code ≢ c.args.f.code =
    λ e. both_ways (int_eq (get_or c.lits.result.now 0 (lit (pos 0))).code c.args.f.code)
    (sym c.eq.ensures ∙ c.if-eq.false)
    ((Decides-int_eq (get_or c.lits.result.now 0 (lit (pos 0))).code c.args.f.code).1
    (ap (λ (l : List Lit). (get_or l 0 (lit (pos 0))).code) c.lits.ensures.value ∙ e)) in
    subst (λ (s : ChainsState). IsPlaceOf s.clauses c.args.f
    (record { clause = c.args.clause; which = 1 })) c.self.view_is
    (record {
      held = in_chain_held ks c.args.f c.args.clause goes;
      which = omega arith;
      watch = watch_second k.lits c.args.f k.link0 k.link1 a.0 a.1 first;
    })
