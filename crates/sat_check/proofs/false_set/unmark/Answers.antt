use Rattle.std.proofs.Common.{◌≡◌, ◌∙◌, false, pos, ap, inl, inr, subst, sym}
use Rattle.std.specs.Ordering.{int_eq}
use Rattle.std.proofs.lemmas.Bool.{or_cases}
use Rattle.std.proofs.lemmas.Bool.Decides.{Decides-int_eq}
use Rattle.std.proofs.lemmas.List.Folds.{list_any_more}
use Rattle.sat_clause.specs.Literal.{lit}
use Rattle.sat_check.specs.Bits.{is_set}
use Rattle.sat_check.specs.FalseStore.{slot_of}
use Rattle.sat_check.proofs.BitsLaws.{stays_clear}
use Rattle.sat_check.proofs.false_set.unmark.Goals as goal

pub loop-l-preserved : goal.loop-l-preserved
loop-l-preserved c =
    let marks = c.clear.new.self in
    let stays = stays_clear c.loop-l.marks marks c.slot.result c.clear.ensures.here
    c.clear.ensures.others in
    record {
      many = c.clear.ensures.many ∙ c.loop-l.invariant.many;
      unmarked = λ m is.
          elim (or_cases _ _ (sym
          (list_any_more (λ x. int_eq x.code m.code) c.args.lits.now c.loop-l.l-index
          (lit (pos 0)) c.loop-l-test.true) ∙ is)) [
            | inl before ↦ stays (slot_of m.code) (c.loop-l.invariant.unmarked m before)
            | inr here ↦ subst (λ at. is_set marks at ≡ false)
                (c.slot.ensures.value ∙ ap slot_of ((Decides-int_eq _ m.code).0 here))
                c.clear.ensures.here
          ];
      others = λ at clear. stays at (c.loop-l.invariant.others at clear);
    }
