use Rattle.std.proofs.Common.{◌≡◌, ◌/◌, ◌%◌, ℕ, Bool, false, List, get_or, nat_eq, sym, ap, ◌∙◌, arith}
use Rattle.std.specs.Int.{bit_at}
use Rattle.std.proofs.lemmas.Nat.Bits.{shr_and_one}
use Rattle.sat_order.proofs.BitLaws.{below-size, member-at, read-is}
use Rattle.sat_order.proofs.bit_set.BitSet.has.Goals as goal

pub index-requires : goal.index-requires
index-requires c =
    let o = c.self.inside in
    omega (
      arith,
      below-size o.size o.words.items c.args.self.now c.args.number c.self.view_is
          c.requires,
      c.self.invariant.many,
    )

pub returns : goal.returns
returns c =
    let o = c.self.inside in let x : ℕ = c.args.number in
    let in_x = below-size o.size o.words.items c.args.self.now x c.self.view_is c.requires in
    let word : ℕ = c.index.result.now in
    let is : get_or o.words.items (x / 64) 0 ≡ word =
    read-is o.words.items (x / 64) word (omega (arith, in_x, c.self.invariant.many))
    c.index.ensures in
    ap (λ v. nat_eq v 1) (shr_and_one word (x % 64))
    ∙ ap (λ v. nat_eq (bit_at v (x % 64)) 1) (sym is)
    ∙ sym (member-at o.size o.words.items x in_x)
    ∙ ap (λ (l : List Bool). get_or l x false) c.self.view_is
