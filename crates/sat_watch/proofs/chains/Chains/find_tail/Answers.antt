use Rattle.std.proofs.Common.{[], None, Some, refl, sym, ap, ◌∙◌, subst}
use Rattle.sat_watch.specs.Chains.{HasCursor, head_of, next_on}
use Rattle.sat_watch.specs.Tails.{IsTail, refs}
use Rattle.sat_watch.proofs.TailLemmas.{GoesBehind, goes_behind, place_goes_on}
use Rattle.sat_watch.proofs.chains.Chains.find_tail.Goals as goal
use Rattle.sat_watch.proofs.chains.Chains.find_tail.Goals.{After-after-next}

pub loop-next-init : goal.loop-next-init
loop-next-init c =
    let s = c.args.self.now in
    let chain = c.requires.chained.chains c.args.l c.requires.within in
    record {
      cursor = (
        None,
        subst (HasCursor (next_on s.clauses c.args.l) (head_of s c.args.l) None)
            (sym c.head-next.ensures) (record { kept = []; rest = chain.refs; is = chain.is }),
      );
      tail = (c.head-next.result, rw (c.requires.others, c.requires.words) refl);
    }

pub place-at-requires : goal.place-at-requires
place-at-requires c =
    let l = c.loop-next in
    record {
      goes =
          place_goes_on c.args.self.now c.args.l l.invariant.cursor.0 l.next c.in-Some.clause
          l.invariant.cursor.1 c.in-Some.is;
    }

behind : (c : After-after-next) →
    GoesBehind c.args.self.now c.args.l c.loop-next.next c.after-next.result
behind c =
    let l = c.loop-next in
    goes_behind c.args.self.now c.args.l l.invariant.cursor.0 l.next c.in-Some.clause
    l.invariant.cursor.1 c.in-Some.is c.place-at.result c.after-next.result c.requires.chained
    c.place-at.ensures.place c.place-at.ensures.clause c.after-next.ensures.value

pub loop-next-smaller : goal.loop-next-smaller
loop-next-smaller c = (behind (goal.at.loop-next-smaller c).After-after-next).shorter

pub loop-next-preserved : goal.loop-next-preserved
loop-next-preserved c =
    let on = behind (goal.at.loop-next-preserved c).After-after-next in
    let l = c.loop-next in
    let s = c.args.self.now in
    record {
      cursor = (on.before, on.cursor);
      tail =
          c.in_ok-take_pair.ensures c.after-next.result l.invariant.tail.0
          (sym c.after-next.ensures.value)
          (subst (λ n. IsTail s.clauses c.args.l l.invariant.tail.0 l.others.items
          (refs l.words.items) n)
          (c.in-Some.is ∙ ap Some (sym c.place-at.ensures.clause)) l.invariant.tail.1);
    }
