-- One number more on a ruler; and both rulers.
use Rattle.std.proofs.Common.{◌≡◌, ℕ, ◌+◌, List, ◌++◌, add-one, ap, ap₂, append_assoc, refl, sym, ◌∙◌}
use Rattle.std.specs.Prelude.{codes}
use Rattle.fpga_types.specs.Size.{Size}
use Rattle.route_draw.specs.Parts.{Adds}
use Rattle.route_draw.specs.Ruler.{AreRulers, columns, number_if, numbers, rows, ruler_opening}

pub numbers-next : (axis : List ℕ) (place : ℕ → ℕ) (step given at n : ℕ) (old mid new : List ℕ)
    → given ≡ step → at ≡ place n → mid ≡ old ++ numbers step axis place n
    → new ≡ mid ++ number_if given axis at n → new ≡ old ++ numbers step axis place (n + 1)
numbers-next axis place step given at n old mid new is there front next =
    next ∙ ap₂ (λ (s a : ℕ). mid ++ number_if s axis a n) is there
    ∙ ap (λ (t : List ℕ). t ++ number_if step axis (place n) n) front
    ∙ append_assoc old (numbers step axis place n) (number_if step axis (place n) n)
    ∙ ap (λ (m : ℕ). old ++ numbers step axis place m) (sym (add-one n))

-- a text was appended behind another
joined : (old part mid more new : List ℕ) → mid ≡ old ++ part → new ≡ mid ++ more
    → new ≡ old ++ (part ++ more)
joined old part mid more new is next =
    next ∙ ap (λ (t : List ℕ). t ++ more) is ∙ append_assoc old part more

pub rulers-added : (grid : Size) (right below beside down : ℕ) (s0 s1 s2 s3 s4 s5 s6 : List ℕ)
    → s1 ≡ s0 ++ ruler_opening (codes "r") right below → s2 ≡ s1 ++ columns grid.nx
    → s3 ≡ s2 ++ codes "</g>\n" → s4 ≡ s3 ++ ruler_opening (codes "r e") beside down
    → s5 ≡ s4 ++ rows grid.ny → s6 ≡ s5 ++ codes "</g>\n" → Adds (AreRulers grid) s0 s6
rulers-added grid right below beside down s0 s1 s2 s3 s4 s5 s6 e1 e2 e3 e4 e5 e6 = record {
  part = _;
  is_part = record {
    right = right;
    below = below;
    beside = beside;
    down = down;
    text_is = refl;
  };
  added = joined s0 _ s5 _ s6 (joined s0 _ s4 _ s5 (joined s0 _ s3 _ s4 (joined s0 _ s2 _ s3
      (joined s0 _ s1 _ s2 e1 e2) e3) e4) e5) e6;
}
