use Rattle.std.proofs.Common.{◌≡◌, ◌+◌, ◌*◌, refl, rules, arith, None, Some, replicate}
use Rattle.sat_watch.proofs.FewLemmas.{empty_trail}
use Rattle.sat_watch.proofs.StoreLemmas.{none_told}
use Rattle.sat_watch.specs.TrailStore.{trail_state}
use Rattle.sat_watch.proofs.trail.Trail.new.Goals as goal

pub invariant_of-result : goal.invariant_of-result
invariant_of-result c =
    let vars = c.args.vars in
    let none : c.in_ok-vec.field-0.items ≡ replicate (vars * 2 + 1) 0 =
    c.in_ok-vec.ensures.items_if_clones_equal (search rules) in
    let nothing = c.in_ok-with_capacity.ensures.items in
    record {
      trail = empty_trail (trail_state vars c.in_ok-with_capacity.field-0) c.requires (rw nothing
          refl);
      within = rw nothing (λ k d within. absurd (omega arith));
      room = c.in_ok-with_capacity.ensures.capacity;
      wide = omega (arith, c.in_ok-vec.ensures.len);
      many = c.in_ok-vec-2.ensures.len;
      told = rw (nothing, none) (none_told vars);
      placed = rw nothing (λ l within n is. let clash : None ≡ Some n = is in cc);
    }
