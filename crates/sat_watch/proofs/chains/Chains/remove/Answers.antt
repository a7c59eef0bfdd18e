use Rattle.std.proofs.Common.{◌≡◌, ◌+◌, ◌*◌, rules, List, None, true, false, vec_len, replicate, sym, ap, ◌∙◌, subst, arith}
use Rattle.sat_arena.specs.declared.moves.Move.{Move}
use Rattle.sat_arena.specs.Compact.{compacted, moves_of}
use Rattle.sat_arena.specs.Store.{Store, Stored}
use Rattle.sat_watch.specs.Chains.{IsChained}
use Rattle.sat_watch.specs.Relinking.{AreRefsOf, AreUnlinked, marked}
use Rattle.sat_watch.proofs.DeleteLemmas.{refs_without, unlinked_without, unmarked_again}
use Rattle.sat_watch.proofs.RelinkLemmas.{marked_held}
use Rattle.sat_watch.proofs.TailLemmas.{no_tails}
use Rattle.sat_watch.proofs.chains.Chains.remove.Goals as goal
use Rattle.sat_watch.proofs.chains.Chains.remove.Goals.{After-mark_all-in_default}

pub mark_all-requires-in_default : goal.mark_all-requires-in_default
mark_all-requires-in_default c =
    let ks = c.self.inside.arena.clauses in let refs = c.args.clauses.now in
    let held = rw (← c.self.view_is) at c.requires.held in
    record {
      held =
          λ k d lt. rw (c.in_default.ensures.err, c.mark_all.ensures.clauses)
          (marked_held true refs ks _ ∙ held k d lt);
    }

-- where there is no memory all marks are taken off again
same : (c : After-mark_all-in_default) →
    c.mark_all-in_default.new.arena.clauses ≡ c.self.inside.arena.clauses
same c =
    let refs = c.args.clauses.now in
    c.mark_all-in_default.ensures.clauses ∙
    (ap (λ (s : Store). marked false refs s.clauses) c.in_default.ensures.err ∙
    (ap (marked false refs) c.mark_all.ensures.clauses ∙ unmarked_again refs
    c.self.inside.arena.clauses c.self.invariant.chained.unmarked))

pub invariant_of-self : goal.invariant_of-self
invariant_of-self c =
    let i = c.self.inside in
    record {
      chained =
          subst (λ l. IsChained i.vars l i.heads.items)
          (sym (same (goal.at.invariant_of-self c).After-mark_all-in_default))
          c.self.invariant.chained;
      tails = rw c.clear.ensures (no_tails i.vars c.mark_all-in_default.new.arena.clauses);
    }

pub returns-in_default-clause-chained : goal.returns-in_default-clause-chained
returns-in_default-clause-chained c = (invariant_of-self c).chained

pub returns-in_default-clause-err : goal.returns-in_default-clause-err
returns-in_default-clause-err c =
    let i = c.self.inside in
    let same = same (goal.at.returns-in_default-clause-err c).After-mark_all-in_default in
    let spare : c.mark_all-in_default.new.arena.spare ≡ i.arena.spare =
    c.mark_all-in_default.ensures.spare ∙
    (ap (λ (s : Store). s.spare) c.in_default.ensures.err ∙ c.mark_all.ensures.spare) in
    (λ x. record { vars = i.vars; clauses = same x; spare = spare x; heads = i.heads.items }) ∙
    c.self.view_is

pub link_all-requires : goal.link_all-requires
link_all-requires c =
    let i = c.self.inside in let ks = i.arena.clauses in let refs = c.args.clauses.now in
    let h = c.self.invariant.chained in
    let is : c.compact.new.self.clauses ≡ compacted (marked true refs ks) =
    c.in-Ok.ensures.clauses ∙ ap compacted c.mark_all.ensures.clauses in
    let moves : c.in-Ok.moves ≡ moves_of (marked true refs ks) =
    c.in-Ok.ensures.pairs ∙ ap moves_of c.mark_all.ensures.clauses in
    let long : vec_len i.heads ≡ i.vars * 2 + 1 = omega (arith, i.heads.ok.0, h.many) in
    let empty : c.fill.new.self.items ≡ replicate (i.vars * 2 + 1) None =
    c.fill.ensures.items (search rules) ∙
    (ap (replicate (vec_len i.heads)) c.none.ensures ∙ ap (λ n. replicate n None) long) in
    record {
      unlinked =
          subst (λ l. AreUnlinked i.vars l c.fill.new.self.items) (sym is)
          (unlinked_without i.vars ks i.heads.items h refs c.fill.new.self.items empty);
      references =
          subst (λ (p : List Stored × List Move). AreRefsOf p.0 p.1)
          (λ x. (sym is x, sym moves x)) (refs_without i.vars ks i.heads.items h refs);
    }
