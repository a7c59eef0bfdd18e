use Rattle.std.proofs.Common.{Bool, false, List, set, ap, ◌∙◌, arith}
use Rattle.sat_order.proofs.BitLaws.{below-size, removed}
use Rattle.sat_order.proofs.bit_set.BitSet.remove.Goals as goal

pub index_mut-requires : goal.index_mut-requires
index_mut-requires c =
    let o = c.self.inside in
    omega (
      arith,
      below-size o.size o.words.items c.args.self.now c.args.number c.self.view_is
          c.requires,
      c.self.invariant.many,
    )

pub invariant_of-self : goal.invariant_of-self
invariant_of-self c =
    let o = c.self.inside in let x = c.args.number in
    (removed o.size o.words.items o.low x c.index_mut.result.now c.self.invariant
    (below-size o.size o.words.items c.args.self.now x c.self.view_is c.requires)
    c.index_mut.ensures.value).1

pub returns : goal.returns
returns c =
    let o = c.self.inside in let x = c.args.number in
    (removed o.size o.words.items o.low x c.index_mut.result.now c.self.invariant
    (below-size o.size o.words.items c.args.self.now x c.self.view_is c.requires)
    c.index_mut.ensures.value).0
    ∙ ap (λ (l : List Bool). set l x false) c.self.view_is
