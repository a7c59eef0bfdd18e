use Rattle.std.proofs.Common.{◌≡◌, ◌+◌, ◌*◌, ◌<◌, ◌≤◌, ◌^◌, ℕ, Bool, false, List, get_or, length, sym, ap, ◌∙◌, subst, arith, rules}
use Rattle.std.specs.Int.{trailing_zeros, w64}
use Rattle.sat_order.specs.BitSet.{IsLeast}
use Rattle.sat_order.proofs.BitLaws.{least-is, none-is, read-is}
use Rattle.sat_order.proofs.bit_set.BitSet.least.Goals as goal

pub returns-then-low-len-clause-none : goal.returns-then-low-len-clause-none
returns-then-low-len-clause-none c =
    let o = c.self.inside in let ws : List ℕ = o.words.items in
    let low : ℕ = c.next_word-low.result in
    let empty : (k : ℕ) → o.low ≤ k → k < low → get_or ws k 0 ≡ 0 = (λ k from before.
    ap (λ (l : List ℕ). get_or l k 0) (sym c.deref.ensures.value)
    ∙ c.next_word-low.ensures.empty k from before) in
    λ x. ap (λ (l : List Bool). get_or l x false) (sym c.self.view_is)
    ∙ none-is o.size ws o.low low c.self.invariant empty
    (omega (arith, c.len.ensures, c.if-low-len.true)) x

pub returns-clause-least : goal.returns-clause-least
returns-clause-least c =
    let o = c.self.inside in let ws : List ℕ = o.words.items in
    let low : ℕ = c.next_word-low.result in
    let empty : (k : ℕ) → o.low ≤ k → k < low → get_or ws k 0 ≡ 0 = (λ k from before.
    ap (λ (l : List ℕ). get_or l k 0) (sym c.deref.ensures.value)
    ∙ c.next_word-low.ensures.empty k from before) in
    let in_low : low < length ws = omega (arith, c.len.ensures, c.if-low-len.false) in
    let word : ℕ = c.index-word.result.now in
    let is : get_or ws low 0 ≡ word = read-is ws low word in_low c.index-word.ensures in
    let some : 1 ≤ get_or ws low 0 =
    subst (λ (l : List ℕ). 1 ≤ get_or l low 0) c.deref.ensures.value
    (c.next_word-low.ensures.some
    (subst (λ (l : List ℕ). low < length l) (sym c.deref.ensures.value) in_low)) in
    let fits : word < 2 ^ 64 = search (rules, c.index-word.type_inv, c.self.ranges) in
    let x : ℕ = low * 64 + trailing_zeros w64 word in
    subst (λ (l : List Bool). IsLeast l x) c.self.view_is
    (least-is o.size ws o.low low c.self.invariant empty some (omega (arith, is, fits)) x
    (ap (λ (v : ℕ). low * 64 + trailing_zeros w64 v) (sym is)))
