use Rattle.std.proofs.Common.{◌≡◌, ℕ, Bool, true, List, length, replicate, sym, ap, ◌∙◌, subst, arith, rules}
use Rattle.std.proofs.lemmas.List.{length-replicate}
use Rattle.sat_order.specs.Heap.{IsSeated}
use Rattle.sat_order.proofs.OrderLaws.{new-state, none-early, zero-at}
use Rattle.sat_order.proofs.order.Order.new.Goals as goal

pub returns : goal.returns
returns c =
    let zeros : c.in_ok-vec.field-0.items ≡ replicate c.args.vars 0 = search rules in
    new-state c.args.vars c.in_ok-vec.field-0.items c.in_ok-new.field-0 c.in_ok-full.field-0 zeros
    c.in_ok-new.ensures.seated c.in_ok-full.ensures

pub invariant_of-result : goal.invariant_of-result
invariant_of-result c =
    let acts : List ℕ = c.in_ok-vec.field-0.items in
    let zeros : acts ≡ replicate c.args.vars 0 = search rules in
    let long : length acts ≡ c.args.vars =
    ap (λ (l : List ℕ). length l) zeros ∙ length-replicate {A = ℕ} c.args.vars 0 in
    let seated = c.in_ok-new.ensures.seated in
    record {
      few = omega (arith, long, c.requires);
      seated = subst (λ (n : ℕ). IsSeated n c.in_ok-new.field-0) (sym long) seated;
      within = omega arith;
      heap = record { pairs = λ i j from under in_j. absurd (omega (arith, in_j)) };
      whole = ap (λ (l : List Bool). length l) c.in_ok-full.ensures
          ∙ length-replicate c.args.vars true ∙ sym long;
      apart = λ x there. none-early c.args.vars c.in_ok-new.field-0 seated x;
      asleep = λ x there. zero-at c.args.vars acts zeros x;
    }
