-- The first words of a line, as they are taken one by one.
use Rattle.std.proofs.Math.ListN.{set}
use Rattle.std.proofs.Common.{◌≡◌, ◌<◌, ◌≤◌, ◌+◌, ℕ, List, [], ◌∷◌, ◌++◌, length, take, refl}
use Rattle.std.specs.Prelude.{map}
use Rattle.std.proofs.lemmas.List.{take-append-le, take_all, map-set, take_more_set, length-map}

-- as many words as are looked at
pub take-seam : {X : Type 0} (n : ℕ) (first rest all : List X) → first ++ rest ≡ all
    → n ≤ length first → length first ≤ n → first ≡ take n all
take-seam n first rest all e least most =
    rw (← e, take-append-le n first rest least, take_all n first most) refl

-- one more word, where there is room for it
pub take-map-set : {X Y : Type 0} (f : X → Y) (n : ℕ) (words : List X) (word : X) → n < length words
    → take (n + 1) (map f (set words n word)) ≡ take n (map f words) ++ f word ∷ []
take-map-set f n words word within =
    let room : n < length (map f words) = (rw length-map within) in
    rw (map-set f words n word, take_more_set (map f words) n (f word) room) refl
