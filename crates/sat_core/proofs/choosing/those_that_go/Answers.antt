use Rattle.std.proofs.Common.{◌+◌, take, ap, subst, sym, ◌∙◌}
use Rattle.sat_core.specs.Deletable.{ArePartOf, refs_of}
use Rattle.sat_core.proofs.DeletableLaws.{one_passed, one_taken}
use Rattle.sat_core.proofs.choosing.those_that_go.Goals as goal
use Rattle.sat_core.proofs.choosing.those_that_go.Goals.{then-goes+in_ok-push, else-goes}

pub loop-candidate-preserved : goal.loop-candidate-preserved
loop-candidate-preserved c =
    let l = c.loop-candidate in let ks = c.args.candidates.now in
    elim c.if-goes.branch [
      | then-goes+in_ok-push w ↦
          subst (λ refs. ArePartOf refs (refs_of (take (l.candidate-index + 1) ks)))
          (sym (ap (λ v. v.items) w.deleted-is ∙ w.in_ok-push.ensures.items))
          (one_taken l.deleted.items ks l.candidate-index _ c.loop-candidate-test.true l.invariant)
      | else-goes w ↦
          subst (λ refs. ArePartOf refs (refs_of (take (l.candidate-index + 1) ks)))
          (sym (ap (λ v. v.items) w.deleted-is))
          (one_passed l.deleted.items ks l.candidate-index c.loop-candidate-test.true l.invariant)
    ]
