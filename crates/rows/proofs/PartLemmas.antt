-- The places of a text at which a part of it begins, from a position on.
use Rattle.std.proofs.Common.{◌≡◌, ℕ, ◌<◌, ◌+◌, Bool, true, false, List, length, drop, refl, arith}
use Rattle.std.specs.Prelude.{if◌then◌else◌, nat_eq}
use Rattle.std.specs.List.{starts_with}
use Rattle.std.proofs.lemmas.List.{drop_more}
use Rattle.rows.specs.Parts.{places_of}

-- they are those behind the position, and the position itself where the part begins there
places-from : (part text : List ℕ) (i : ℕ) (b : Bool) → i < length text
    → b ≡ starts_with nat_eq (drop i text) part
    → places_of part (drop i text)
    ≡ (if b then 1 else 0) + places_of part (drop (i + 1) text)
places-from part text i b below is = rw (is, drop_more text i 0 below) refl

-- so the count goes up by one where the part begins
pub counted : (part text : List ℕ) (i count : ℕ) → i < length text
    → true ≡ starts_with nat_eq (drop i text) part
    → count + places_of part (drop i text) ≡ places_of part text
    → (count + 1) + places_of part (drop (i + 1) text) ≡ places_of part text
counted part text i count below begins sum =
    omega (arith, places-from part text i true below begins, sum)

-- and stays where it does not
pub passed : (part text : List ℕ) (i count : ℕ) → i < length text
    → false ≡ starts_with nat_eq (drop i text) part
    → count + places_of part (drop i text) ≡ places_of part text
    → count + places_of part (drop (i + 1) text) ≡ places_of part text
passed part text i count below begins sum =
    omega (arith, places-from part text i false below begins, sum)
