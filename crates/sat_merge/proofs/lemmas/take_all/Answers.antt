use Rattle.std.proofs.Common.{◌∙◌, refl, sym}
use Rattle.sat_merge.proofs.lemmas.take_all.Goals as goal

pub loop-input-init : goal.loop-input-init
loop-input-init c = record {
  live = refl;
  vars = refl;
  taken = λ vars merge are. are;
}

pub loop-input-preserved : goal.loop-input-preserved
loop-input-preserved c = record {
  live = c.in_ok-take.ensures.live ∙ c.loop-input.invariant.live;
  vars = c.in_ok-take.ensures.vars ∙ c.loop-input.invariant.vars;
  taken = λ vars merge are.
      c.in_ok-take.ensures.taken c.if-not-branch.false (vars ∙ sym c.loop-input.invariant.live)
      merge (c.loop-input.invariant.taken vars merge are);
}
