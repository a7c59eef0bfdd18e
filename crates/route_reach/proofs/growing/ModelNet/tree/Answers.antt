use Rattle.std.proofs.Common.{◌≡◌, ◌+◌, ℕ, subst, arith}
use Rattle.std.specs.Prelude.{All}
use Rattle.route_reach.specs.Growth.{IsGrown, IsSpreadFrom}
use Rattle.route_reach.specs.ModelNets.{net_of}
use Rattle.route_reach.specs.Modelled.{ModelOf, NetOf, frame_in}
use Rattle.route_reach.proofs.GrowthLemmas.{IsSpread, few-wires, grown-on, grown-start, serves, spread-on, spread-start}
use Rattle.route_reach.proofs.Heeds.{satisfies-heeds}
use Rattle.route_reach.proofs.growing.ModelNet.tree.Goals as goal

pub new-requires-clause-few : goal.new-requires-clause-few
new-requires-clause-few c =
    rw c.width.ensures (few-wires (net_of c.args.self.now) c.args.self.now.is)

pub begin-requires : goal.begin-requires
begin-requires c =
    rw c.new-level.ensures.items (grown-start (net_of c.args.self.now) c.args.self.now.is
    c.in_ok-tree.tree (rw c.width.ensures at c.in_ok-tree.ensures))

pub loop-joins-init : goal.loop-joins-init
loop-joins-init c = record {
  grown = c.in_ok-begin.ensures.grown.grown;
  spread = spread-start (net_of c.args.self.now) c.args.self.now.is c.begin.new.tree
      c.in_ok-begin.ensures.begun;
}

pub spread-requires-clause-joins : goal.spread-requires-clause-joins
spread-requires-clause-joins c =
    omega (arith, c.loop-joins-test.true, c.reach-joins-end.ensures.value)

pub spread-requires-clause-level : goal.spread-requires-clause-level
spread-requires-clause-level c =
    rw c.as_slice.ensures.value c.loop-joins.invariant.grown.is_level.each

pub spread-requires-clause-grown : goal.spread-requires-clause-grown
spread-requires-clause-grown c =
    rw c.new-next.ensures.items (grown-on (net_of c.args.self.now) c.args.self.now.is
    c.loop-joins.joins c.loop-joins.tree c.loop-joins.level.items c.loop-joins.invariant.grown)

pub loop-joins-preserved : goal.loop-joins-preserved
loop-joins-preserved c =
    let n : NetOf = net_of c.args.self.now in
    let d : ℕ = c.loop-joins.joins in
    record {
      grown = c.in_ok-spread.ensures.grown.grown;
      spread = spread-on n c.args.self.now.is d c.loop-joins.tree c.spread.new.tree
          c.loop-joins.level.items c.spread.new.next.items c.loop-joins.invariant.grown
          c.loop-joins.invariant.spread c.in_ok-spread.ensures.grown
          (subst (All (IsSpreadFrom n c.spread.new.tree (d + 1))) c.as_slice.ensures.value
          c.in_ok-spread.ensures.spread);
    }

pub returns-clause-tree : goal.returns-clause-tree
returns-clause-tree c = c.loop-joins.invariant.grown.is_tree

pub returns-clause-used : goal.returns-clause-used
returns-clause-used c = c.loop-joins.invariant.grown.used

pub returns-clause-serves : goal.returns-clause-serves
returns-clause-serves c =
    let n : NetOf = net_of c.args.self.now in
    let m : ModelOf = n.model in
    let is = c.args.self.now.is in
    let end : c.loop-joins.joins ≡ m.reach = omega (
      arith,
      c.loop-joins-test.false,
      c.loop-joins.auto.joins-end,
      c.reach-joins-end.ensures.value,
    ) in
    serves n is (satisfies-heeds (frame_in m) m.problem.route m.values
    c.reach-joins-end.ensures.model) c.loop-joins.tree c.loop-joins.level.items
    (subst (λ (d : ℕ). IsGrown n d c.loop-joins.tree c.loop-joins.level.items) end
    c.loop-joins.invariant.grown)
    (subst (IsSpread n is c.loop-joins.tree) end c.loop-joins.invariant.spread)
