use Rattle.std.proofs.Common.{◌∙◌, suc, add-one, inl, sym, arith}
use Rattle.sat_core.specs.Inputs.{no_singles, pairs_below}
use Rattle.sat_core.proofs.InputLaws.{keeps_attached, pair_long, pair_not_yet, pair_now, pair_once, pairs_next, pairs_pass, simple_of, taken_more, two_free}
use Rattle.sat_core.proofs.LeftLaws.{left_settled, settled_pair}
use Rattle.sat_core.proofs.SameLaws.{same_itself}
use Rattle.sat_core.proofs.inputs.attach_pairs.Goals as goal

pub loop-i-preserved-then-not-is_pair : goal.loop-i-preserved-then-not-is_pair
loop-i-preserved-then-not-is_pair c =
    let cnf = c.args.formula.now.cnf in
    let was = c.loop-i.invariant in
    record {
      taken =
          rw add-one (pairs_pass cnf c.loop-i.i c.clause-lits.result.now
          c.clause-lits.ensures.value (sym c.is_pair.ensures ∙ c.if-not-is_pair.true)
          (no_singles cnf) c.loop-i.watches was.taken);
      left =
          rw add-one (c.in_ok-list_other.ensures cnf c.clause-lits.ensures.value was.left);
    }

pub attach-requires-clause-may : goal.attach-requires-clause-may
attach-requires-clause-may c =
    let lits = c.clause-lits.result.now in
    let is = sym c.is_pair.ensures ∙ c.if-not-is_pair.false in
    inl (two_free c.loop-i.watches lits c.loop-i.invariant.taken.none_true (pair_once lits is)
    (pair_long lits is))

pub loop-i-preserved : goal.loop-i-preserved
loop-i-preserved c =
    let n = c.loop-i.i in
    let lits = c.clause-lits.result.now in
    let is = sym c.is_pair.ensures ∙ c.if-not-is_pair.false in
    let long = pair_long lits is in
    let simple = simple_of lits lits c.loop-i.invariant.taken c.clause-lits.ensures.within
    (same_itself lits) (pair_once lits is) in
    record {
      taken =
          rw add-one (taken_more (pairs_below (suc n)) n c.clause-lits.ensures.value
          (pair_not_yet n lits) (pairs_next n) (pair_now n lits is) c.loop-i.invariant.taken
          (omega (arith, c.loop-i-test.true, c.len-i-end.ensures)) (same_itself lits) simple
          (keeps_attached (no_singles c.args.formula.now.cnf) c.loop-i.watches c.attach.new.self
          lits (suc n) c.in_ok-attach.field-0 long (rw add-one at c.in_ok-attach.ensures.ok)));
      left =
          rw add-one (left_settled c.args.formula.now.cnf 0 c.loop-i.others.items n
          (settled_pair c.args.formula.now.cnf n lits c.clause-lits.ensures.value is)
          c.loop-i.invariant.left);
    }
