use Rattle.std.proofs.Common.{arith, refl}
use Rattle.sat_order.proofs.LubyLaws.{half-power, last-term}
use Rattle.sat_order.proofs.luby.term.Goals as goal

pub terms-init : goal.terms-init
terms-init c = record {
  power = (32, refl);
  small = omega arith;
  first = omega arith;
  last = omega arith;
  same = λ term is. is;
}

pub terms-preserved : goal.terms-preserved
terms-preserved c =
    let half = half-power c.terms.invariant.power.0 c.terms.half c.terms.invariant.power.1
    (omega arith) in
    record {
      power = (half.0, half.1);
      small = omega (arith, half.2);
      first = c.shorter-rest.ensures.first;
      last = omega (arith, half.2, c.shorter-rest.ensures.last);
      same = λ term is. c.terms.invariant.same term (c.shorter-rest.ensures.same term is);
    }

pub returns : goal.returns
returns c = c.terms.invariant.same c.terms.half
    (last-term c.terms.invariant.power.0 c.terms.rest c.terms.half c.terms.invariant.power.1
    (omega arith))
