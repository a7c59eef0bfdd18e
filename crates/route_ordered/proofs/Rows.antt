-- The clauses of an order, computed for a few rows of slots that were worked out by hand.
use Rattle.std.proofs.Common.{◌≡◌, [], ◌∷◌, refl}
use Rattle.fpga_types.specs.declared.arch.Pattern.TheVariants.{Subset, Universal, Wilton}
use Rattle.route_encode.specs.Encoding.{has, lacks}
use Rattle.route_ordered.specs.Ordered.{precedence}

-- two slots, three tracks, subset blocks
subset_row : precedence Subset 3 (0 ∷ 2 ∷ [])
    ≡ (lacks 3 0 1 ∷ []) ∷ (lacks 3 0 2 ∷ [])
    ∷ (lacks 3 2 1 ∷ has 3 0 0 ∷ []) ∷ (lacks 3 2 2 ∷ has 3 0 1 ∷ []) ∷ []
subset_row = refl

-- the same under universal blocks, where the middle track is in no pair
odd_row : precedence Universal 3 (0 ∷ 2 ∷ [])
    ≡ (lacks 3 0 2 ∷ []) ∷ (lacks 3 2 2 ∷ has 3 0 0 ∷ has 3 0 2 ∷ []) ∷ []
odd_row = refl

-- two pairs of tracks
even_row : precedence Universal 4 (0 ∷ 1 ∷ [])
    ≡ (lacks 4 0 3 ∷ [])
    ∷ (lacks 4 0 1 ∷ []) ∷ (lacks 4 0 2 ∷ []) ∷ (lacks 4 0 2 ∷ [])
    ∷ (lacks 4 1 3 ∷ has 4 0 0 ∷ has 4 0 3 ∷ [])
    ∷ (lacks 4 1 1 ∷ has 4 0 0 ∷ has 4 0 3 ∷ [])
    ∷ (lacks 4 1 2 ∷ has 4 0 0 ∷ has 4 0 3 ∷ [])
    ∷ (lacks 4 1 2 ∷ has 4 0 1 ∷ has 4 0 2 ∷ []) ∷ []
even_row = refl

-- Wilton blocks have no groups
no_row : precedence Wilton 4 (0 ∷ 1 ∷ []) ≡ []
no_row = refl
