-- The clauses of all wires, by number; and six rows of clauses, one behind another.
use Rattle.std.proofs.Common.{◌≡◌, ℕ, zero, suc, ◌+◌, ◌*◌, List, [], ◌∷◌, ◌++◌, length, refl, sym, ap, ◌∙◌, arith}
use Rattle.std.specs.Prelude.{flat_map}
use Rattle.std.specs.List.{range_with_len}
use Rattle.std.proofs.lemmas.Grind.{flat_map-append}
use Rattle.std.proofs.lemmas.List.{append-nil}
use Rattle.list_laws.proofs.Ranges.{range-push}
use Rattle.fpga_graph.specs.GraphOf.{GraphOf}
use Rattle.sat_clause.specs.FormulaStore.{FormulaState}
use Rattle.sat_clause.specs.Literal.{Clause}
use Rattle.route_encode.specs.Adding.{Adds, HasRoom}
use Rattle.route_encode.specs.Encoding.{below, place_of}
use Rattle.route_encode.proofs.AddLemmas.{adds-both, room-first, room-second}
use Rattle.route_encode.proofs.RivalLemmas.{range-append}
use Rattle.route_reach.specs.Encoding.{Frame, each_wire, reached_is_used, stays_reached}
use Rattle.route_reach.specs.WireClauses.{stays_clauses, used_clauses}

shifted : {C : Type 0} (g : ℕ → List C) (a k n : ℕ)
    → flat_map (λ t. g (a + t)) (range_with_len k n) ≡ flat_map g (range_with_len (a + k) n)
shifted g a k zero = refl
shifted {C} g a k (suc n) =
    let next : a + (k + 1) ≡ a + k + 1 = omega arith in
    ap (λ (cs : List C). g (a + k) ++ cs) (shifted g a (k + 1) n
    ∙ ap (λ (m : ℕ). flat_map g (range_with_len m n)) next)

-- place by place is slot by slot and then track by track
each-place : {C : Type 0} (g : ℕ → List C) (width count : ℕ)
    → flat_map (λ s. flat_map (λ t. g (place_of width s t)) (below width)) (below count)
    ≡ flat_map g (below (count * width))
each-place g width zero =
    let none : zero * width ≡ 0 = omega arith in ap (λ (n : ℕ). flat_map g (below n)) (sym none)
each-place {C} g width (suc count) =
    let row : ℕ → List C = λ s. flat_map (λ t. g (place_of width s t)) (below width) in
    let last : 0 + count ≡ count = omega arith in
    let more : count * width + width ≡ suc count * width = omega arith in
    let from : count * width + 0 ≡ 0 + count * width = omega arith in
    ap (flat_map row) (range-push 0 count ∙ ap (λ (n : ℕ). below count ++ n ∷ []) last)
    ∙ flat_map-append row (below count) (count ∷ [])
    ∙ ap (λ (cs : List C). flat_map row (below count) ++ cs) (append-nil (row count)
    ∙ shifted g (count * width) 0 width
    ∙ ap (λ (n : ℕ). flat_map g (range_with_len n width)) from)
    ∙ ap (λ (cs : List C). cs ++ flat_map g (range_with_len (0 + count * width) width))
    (each-place g width count)
    ∙ sym (flat_map-append g (below (count * width)) (range_with_len (0 + count * width) width))
    ∙ ap (flat_map g) (sym (range-append 0 (count * width) width)
    ∙ ap below more)

module _ (f : Frame) where
  abbrev wires : ℕ
  wires = let g : GraphOf = f.graph in length f.all * g.width

  pub used-by-number : each_wire f (reached_is_used f)
      ≡ flat_map (used_clauses wires f.reach) (below wires)
  used-by-number = let g : GraphOf = f.graph in
      each-place (used_clauses wires f.reach) g.width (length f.all)

  pub stays-by-number : each_wire f (stays_reached f)
      ≡ flat_map (stays_clauses wires f.reach) (below wires)
  stays-by-number = let g : GraphOf = f.graph in
      each-place (stays_clauses wires f.reach) g.width (length f.all)

-- six rows of clauses
module _ (a b c d e z : List Clause) (s0 : FormulaState)
    (room : HasRoom s0 (a ++ b ++ c ++ d ++ e ++ z)) where
  five : HasRoom s0 (a ++ b ++ c ++ d ++ e)
  five = room-first s0 (a ++ b ++ c ++ d ++ e) z room

  four : HasRoom s0 (a ++ b ++ c ++ d)
  four = room-first s0 (a ++ b ++ c ++ d) e five

  three : HasRoom s0 (a ++ b ++ c)
  three = room-first s0 (a ++ b ++ c) d four

  two : HasRoom s0 (a ++ b)
  two = room-first s0 (a ++ b) c three

  pub first-room : HasRoom s0 a
  first-room = room-first s0 a b two

  module _ (s1 : FormulaState) (f1 : Adds s0 a s1) where
    pub second-room : HasRoom s1 b
    second-room = room-second s0 s1 a b two f1

    module _ (s2 : FormulaState) (f2 : Adds s1 b s2) where
      at-two : Adds s0 (a ++ b) s2
      at-two = adds-both s0 s1 s2 a b f1 f2

      pub third-room : HasRoom s2 c
      third-room = room-second s0 s2 (a ++ b) c three at-two

      module _ (s3 : FormulaState) (f3 : Adds s2 c s3) where
        at-three : Adds s0 (a ++ b ++ c) s3
        at-three = adds-both s0 s2 s3 (a ++ b) c at-two f3

        pub fourth-room : HasRoom s3 d
        fourth-room = room-second s0 s3 (a ++ b ++ c) d four at-three

        module _ (s4 : FormulaState) (f4 : Adds s3 d s4) where
          at-four : Adds s0 (a ++ b ++ c ++ d) s4
          at-four = adds-both s0 s3 s4 (a ++ b ++ c) d at-three f4

          pub fifth-room : HasRoom s4 e
          fifth-room = room-second s0 s4 (a ++ b ++ c ++ d) e five at-four

          module _ (s5 : FormulaState) (f5 : Adds s4 e s5) where
            at-five : Adds s0 (a ++ b ++ c ++ d ++ e) s5
            at-five = adds-both s0 s4 s5 (a ++ b ++ c ++ d) e at-four f5

            pub sixth-room : HasRoom s5 z
            sixth-room = room-second s0 s5 (a ++ b ++ c ++ d ++ e) z room at-five

            pub six-added : (s6 : FormulaState) → Adds s5 z s6
                → Adds s0 (a ++ b ++ c ++ d ++ e ++ z) s6
            six-added s6 f6 = adds-both s0 s5 s6 (a ++ b ++ c ++ d ++ e) z at-five f6
