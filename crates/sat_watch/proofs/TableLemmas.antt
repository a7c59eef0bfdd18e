-- The places of literals in a table of all literals.
use Rattle.std.proofs.Common.{◌≡◌, ◌≢◌, ◌*◌, ◌<◌, ◌≤◌, ℕ, suc, ℤ, pos, negsuc, nat_abs, ap, arith}
use Rattle.sat_clause.specs.declared.literal.Lit.{Lit}
use Rattle.sat_clause.specs.Literal.{IsWithin, lit}
use Rattle.sat_watch.specs.TrailStore.{place_by, place_of}

-- different literals have different places
place_one : (vars : ℕ) (x y : ℤ) → 1 ≤ nat_abs x → nat_abs x ≤ vars → 1 ≤ nat_abs y →
    nat_abs y ≤ vars → place_by vars x ≡ place_by vars y → x ≡ y
place_one vars (pos m) (pos n) a b c d e = ap pos (omega (arith, e))
place_one vars (pos m) (negsuc n) a b c d e = absurd (omega (arith, e))
place_one vars (negsuc m) (pos n) a b c d e = absurd (omega (arith, e))
place_one vars (negsuc m) (negsuc n) a b c d e = ap negsuc (omega (arith, e))

pub places_apart : (vars : ℕ) (l m : Lit) → IsWithin vars l → IsWithin vars m → l ≢ m →
    place_of vars l ≢ place_of vars m
places_apart vars l m wl wm ne e =
    ne (ap lit (place_one vars l.code m.code wl.0 wl.1 wm.0 wm.1 e))

place_below : (vars : ℕ) (x : ℤ) → nat_abs x ≤ vars → place_by vars x < suc (vars * 2)
place_below vars (pos m) b = omega arith
place_below vars (negsuc m) b = omega arith

pub place_within : (vars : ℕ) (l : Lit) → IsWithin vars l → place_of vars l < suc (vars * 2)
place_within vars l within = place_below vars l.code within.1
