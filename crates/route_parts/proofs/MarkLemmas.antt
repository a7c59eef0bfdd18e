-- Marks at the parts of wires, as more wires are looked at, and the sinks that open a marked part.
use Rattle.std.proofs.Common.{◌≡◌, ◌≢◌, ℕ, ◌+◌, ◌<◌, Bool, true, false, List, [], ◌∷◌, ◌++◌, length, get_or, set, take, refl, sym, ap, ◌∙◌, subst, add-one, append_assoc}
use Rattle.std.specs.Prelude.{◌==◌, ◌||◌, flat_map}
use Rattle.std.specs.List.{list_any}
use Rattle.std.proofs.Math.Bool.{or-false, or-true}
use Rattle.std.proofs.lemmas.Bool.{false≢true}
use Rattle.std.proofs.lemmas.List.{get_or-set_other, get_or-set_same}
use Rattle.std.proofs.lemmas.List.Folds.{list_any-append}
use Rattle.list_laws.proofs.FrontParts.{made-next}
use Rattle.list_laws.proofs.Members.{In-flat_map, In-list_any, list_any-from_In}
use Rattle.list_laws.proofs.Places.{get-In, get-there, take-get}
use Rattle.fpga_graph.specs.GraphOf.{GraphOf}
use Rattle.fpga_graph.specs.Wires.{opened_wires}
use Rattle.fpga_types.specs.declared.grid.PinAt.{PinAt}
use Rattle.fpga_types.specs.declared.grid.Wire.{Wire}
use Rattle.route_parts.specs.Links.{part_in}
use Rattle.route_parts.specs.Marks.{AreMarked}
use Rattle.route_parts.proofs.PinLemmas.{eqb-is, is-eqb}

-- the part of one wire more is marked
marked-one : (g : GraphOf) (table : List ℕ) (others : List Wire) (w : Wire) (marks : List Bool)
    → part_in g table w < length marks → AreMarked g table others marks
    → AreMarked g table (others ++ w ∷ []) (set marks (part_in g table w) true)
marked-one g table others w marks inside h p =
    go (part_in g table w == p) refl
    ∙ sym (list_any-append (λ u. part_in g table u == p) others (w ∷ []))
  where
    go : (b : Bool) → (part_in g table w == p) ≡ b
        → get_or (set marks (part_in g table w) true) p false
        ≡ (list_any (λ u. part_in g table u == p) others || ((part_in g table w == p) || false))
    go true e =
        let same : part_in g table w ≡ p = eqb-is (part_in g table w) p e in
        subst (λ (q : ℕ). get_or (set marks (part_in g table w) true) q false ≡ true) same
        (get_or-set_same marks (part_in g table w) true false inside)
        ∙ sym (rw e (or-true (list_any (λ u. part_in g table u == p) others)))
    go false e =
        let other : p ≢ part_in g table w =
        λ same. false≢true (sym e ∙ is-eqb (part_in g table w) p (sym same)) in
        get_or-set_other marks (part_in g table w) p true false other ∙ h p
        ∙ sym (rw e (or-false (list_any (λ u. part_in g table u == p) others)))

-- so is that of the next wire of a list
pub marked-next : (g : GraphOf) (table : List ℕ) (wires : List Wire) (i : ℕ) (d : Wire)
    (marks : List Bool) (number : ℕ) → number ≡ part_in g table (get_or wires i d)
    → i < length wires → number < length marks → (others : List Wire)
    → AreMarked g table (others ++ take i wires) marks
    → AreMarked g table (others ++ take (i + 1) wires) (set marks number true)
marked-next g table wires i d marks number is low inside others h =
    let w : Wire = get_or wires i d in
    let more : take (i + 1) wires ≡ take i wires ++ w ∷ [] =
    ap (λ (n : ℕ). take n wires) (add-one i)
    ∙ take-get wires i w (get-there wires i w d low refl) in
    subst (λ (n : ℕ). AreMarked g table (others ++ take (i + 1) wires) (set marks n true)) (sym is)
    (subst (λ (ws : List Wire). AreMarked g table ws (set marks (part_in g table w) true))
    (append_assoc others (take i wires) (w ∷ []) ∙ sym (ap (λ (ws : List Wire). others ++ ws) more))
    (marked-one g table (others ++ take i wires) w marks
    (subst (λ (n : ℕ). n < length marks) is inside) h))

-- what the front elements make, and what the next one makes
made-more : {A : Type 0} (f : A → List Wire) (xs : List A) (i : ℕ) (d : A) → i < length xs
    → flat_map f (take (i + 1) xs) ≡ flat_map f (take i xs) ++ f (get_or xs i d)
made-more f xs i d low =
    ap (λ (n : ℕ). flat_map f (take n xs)) (add-one i)
    ∙ made-next f xs i (get_or xs i d) (get-there xs i (get_or xs i d) d low refl)

-- with the parts of what the next pin opens
pub marked-pins : (g : GraphOf) (table : List ℕ) (pins : List PinAt) (i : ℕ) (d : PinAt)
    (marks : List Bool) → i < length pins
    → AreMarked g table (flat_map (opened_wires g) (take i pins)
    ++ opened_wires g (get_or pins i d)) marks
    → AreMarked g table (flat_map (opened_wires g) (take (i + 1) pins)) marks
marked-pins g table pins i d marks low h =
    subst (λ (ws : List Wire). AreMarked g table ws marks)
    (sym (made-more (opened_wires g) pins i d low)) h

-- what is found in what one element makes is found in what all make
pub found-in_all : {A : Type 0} (p : Wire → Bool) (f : A → List Wire) (xs : List A) (i : ℕ) (d : A)
    (b : Bool) → b ≡ list_any p (f (get_or xs i d)) → b ≡ true → i < length xs
    → list_any p (flat_map f xs) ≡ true
found-in_all p f xs i d b is h low =
    let x = get_or xs i d in
    let found = In-list_any p (f x) (sym is ∙ h) in
    list_any-from_In p (flat_map f xs) found.0
    (In-flat_map f xs x found.0 (get-In xs i x (get-there xs i x d low refl)) found.1) found.2
