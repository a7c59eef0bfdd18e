use Rattle.std.proofs.Common.{◌∙◌, ◌++◌, sym, ap}
use Rattle.std.specs.List.{filter}
use Rattle.sat_core.specs.Deletable.{is_deletable, places_of, refs_of}
use Rattle.sat_core.proofs.DeletableLaws.{advances, deletable_rise, from_on, one_more}
use Rattle.sat_core.proofs.choosing.find_candidates.Goals as goal
use Rattle.sat_core.proofs.choosing.find_candidates.Goals.{then-is_deletable+in_ok-push, else-is_deletable}

pub returns-in_err-push-clause-rising : goal.returns-in_err-push-clause-rising
returns-in_err-push-clause-rising c =
    deletable_rise c.args.watches.now c.args.above c.first-next.ensures.placed

pub returns-clause-rising : goal.returns-clause-rising
returns-clause-rising c =
    deletable_rise c.args.watches.now c.args.above c.first-next.ensures.placed

pub loop-next-smaller : goal.loop-next-smaller
loop-next-smaller c =
    let w = c.args.watches.now in let l = c.loop-next in let r = c.in-Some.c in
    (advances w c.args.above (refs_of l.found.items) r l.next c.behind-next.result
    c.first-next.ensures.placed (l.invariant.next r c.in-Some.is) c.in-Some.is
    c.behind-next.ensures l.invariant.found).smaller

pub loop-next-preserved : goal.loop-next-preserved
loop-next-preserved c =
    let w = c.args.watches.now in let l = c.loop-next in let r = c.in-Some.c in
    let ahead = advances w c.args.above (refs_of l.found.items) r l.next c.behind-next.result
    c.first-next.ensures.placed (l.invariant.next r c.in-Some.is) c.in-Some.is
    c.behind-next.ensures l.invariant.found in
    let rest = filter (is_deletable w c.args.above)
    (places_of (from_on w.clauses c.behind-next.result)) in
    record {
      next = ahead.attached;
      found = elim c.if-is_deletable.branch [
        | then-is_deletable+in_ok-push w' ↦
            let pushed = ap (λ v. refs_of v.items) w'.found-is
            ∙ (ap refs_of w'.in_ok-push.ensures.items
            ∙ one_more l.found.items w'.candidate_of.result r w'.candidate_of.ensures) in
            ap (λ refs. refs ++ rest) pushed
            ∙ ahead.taken (sym c.is_deletable.ensures ∙ w'.if-is_deletable.true)
        | else-is_deletable w' ↦
            ap (λ v. refs_of v.items ++ rest) w'.found-is
            ∙ ahead.passed (sym c.is_deletable.ensures ∙ w'.if-is_deletable.false)
      ];
    }
