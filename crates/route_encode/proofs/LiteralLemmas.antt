-- The literals of slots and tracks that are there are of variables that are there.
use Rattle.std.proofs.Common.{ℕ, ◌*◌, ◌<◌, ◌≤◌, arith}
use Rattle.std.specs.Prelude.{All}
use Rattle.std.proofs.lemmas.List.Elements.{All-map}
use Rattle.list_laws.proofs.Members.{all-from_In, from_In-range}
use Rattle.sat_clause.specs.Literal.{IsWithin}
use Rattle.route_encode.specs.Encoding.{below, has, some_track}
use Rattle.route_encode.proofs.BitLemmas.{place-inside}

pub has-within : (count width s t : ℕ) → s < count → t < width
    → IsWithin (count * width) (has width s t)
has-within count width s t low inside = let h =
    place-inside count width s t low inside in (omega arith, omega (arith, h))

pub some_track-within : (count width s vars : ℕ) → s < count → count * width ≤ vars
    → All (IsWithin vars) (some_track width s)
some_track-within count width s vars low few =
    All-map (IsWithin vars) (has width s) (below width)
    (all-from_In (λ t. IsWithin vars (has width s t)) (below width)
    (λ t i. let r = from_In-range 0 width t i in
    let inside = has-within count width s t low (omega (arith, r.1)) in
    (inside.0, omega (arith, inside.1, few))))
