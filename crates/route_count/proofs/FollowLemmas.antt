-- Why the clauses of the first level follow by their hints.
use Rattle.std.proofs.Common.{◌≡◌, ◌≢◌, ℕ, ℤ, pos, true, false, Option, Some, None, List, [], ◌∷◌, ◌++◌, refl, ◌∙◌, subst}
use Rattle.list_laws.proofs.Members.{all-from_In}
use Rattle.sat_clause.specs.declared.cause.Cause.{Cause}
use Rattle.sat_clause.specs.declared.literal.Lit.{Lit}
use Rattle.sat_clause.specs.Literal.{Clause, is_among}
use Rattle.sat_clause.specs.Live.{Live, named}
use Rattle.sat_clause.proofs.LiteralLaws.{among_here, among_more, contains_among}
use Rattle.sat_clause.proofs.ReadingLaws.{AllFalse}
use Rattle.list_laws.proofs.Members.{contains-In}
use Rattle.sat_rat.specs.FullRup.{full_rup, lead, resolution_fault}
use Rattle.sat_rat.specs.Groups.{groups_of}
use Rattle.sat_count.specs.Names.{no, yes}
use Rattle.route_count.specs.Said.{chain_hints, reason_hints}
use Rattle.sat_count.proofs.HintLemmas.{false-two, lead-conflict, lead-unit, open-second, over-no, over-yes, past-no, past-yes}

-- ---- one hint

-- the clause itself
pub itself-follows : (live : Live) (id : ℕ) (c : Clause) → named live (pos id) ≡ Some c
    → full_rup live c (pos id ∷ []) ≡ None
itself-follows live id c there =
    lead-conflict live c id (resolution_fault live c (groups_of (pos id ∷ []))) c there
    (all-from_In (λ l. is_among c l ≡ true) c (λ l i. contains_among c l (contains-In c l i)))

-- ---- slot s has a track where the first slot r of its tree has it, since slot f has it then

module _ (live : Live) (first second r f s : ℕ)
    (before : named live (pos first) ≡ Some (no r ∷ yes f ∷ []))
    (joined : named live (pos second) ≡ Some (no f ∷ yes s ∷ []))
    (rf : r ≢ f) (sf : s ≢ f)
  where
    abbrev start : List Lit
    start = no r ∷ yes s ∷ []

    abbrev end : List Lit → Option Cause
    end = resolution_fault live start (groups_of (pos first ∷ pos second ∷ []))

    pub led-follows : full_rup live start (pos first ∷ pos second ∷ []) ≡ None
    led-follows =
        lead-unit live start first (pos second ∷ []) end (no r ∷ yes f ∷ []) (yes f) before
        (open-second start (no r) (yes f) (among_here (yes s ∷ []) (no r))
        (over-no (yes s ∷ []) r f (past-yes [] s f sf refl)))
        (past-no (yes s ∷ []) r f rf (over-yes [] s f refl))
        ∙ lead-conflict live (no f ∷ start) second end (no f ∷ yes s ∷ []) joined
        (false-two (no f ∷ start) (no f) (yes s) (among_here start (no f))
        (among_more start (no f) (yes s)
        (among_more (yes s ∷ []) (no r) (yes s) (among_here [] (yes s)))))

-- ---- slots r and q do not both have a track, since slots a and b of their trees do not

-- variable y is true where x is: by the clause with the id, or since they are one
abbrev pub Leads : Live → (x y : ℕ) → Option ℕ → Type 0
Leads live x y None = x ≡ y
Leads live x y (Some id) = named live (pos id) ≡ Some (no x ∷ yes y ∷ [])

-- what is false behind it
abbrev behind : Option ℕ → (y : ℕ) → List Lit → List Lit
behind None y set = set
behind (Some hint) y set = no y ∷ set

lead-reason : (live : Live) (set : List Lit) (x y : ℕ) (o : Option ℕ) (rest : List ℤ)
    (end : List Lit → Option Cause) → Leads live x y o → is_among set (no x) ≡ true
    → is_among set (yes y) ≡ false → ((hint : ℕ) → o ≡ Some hint → is_among set (no y) ≡ false)
    → lead live set (reason_hints o ++ rest) end ≡ lead live (behind o y set) rest end
lead-reason live set x y None rest end leads has free other = refl
lead-reason live set x y (Some hint) rest end leads has free other =
    lead-unit live set hint rest end (no x ∷ yes y ∷ []) (yes y) leads
    (open-second set (no x) (yes y) has free) (other hint refl)

behind-has : (live : Live) (set : List Lit) (x y : ℕ) (o : Option ℕ) → Leads live x y o
    → is_among set (no x) ≡ true → is_among (behind o y set) (no y) ≡ true
behind-has live set x y None leads has =
    subst (λ (n : ℕ). is_among set (no n) ≡ true) leads has
behind-has live set x y (Some hint) leads has = among_here set (no y)

behind-keeps : (set : List Lit) (y : ℕ) (o : Option ℕ) (l : Lit) → is_among set l ≡ true
    → is_among (behind o y set) l ≡ true
behind-keeps set y None l h = h
behind-keeps set y (Some hint) l h = among_more set (no y) l h

behind-free : (set : List Lit) (y : ℕ) (o : Option ℕ) (z : ℕ) → is_among set (yes z) ≡ false
    → is_among (behind o y set) (yes z) ≡ false
behind-free set y None z h = h
behind-free set y (Some hint) z h = over-no set y z h

behind-other : (set : List Lit) (y : ℕ) (o : Option ℕ) (z : ℕ) → y ≢ z
    → is_among set (no z) ≡ false → is_among (behind o y set) (no z) ≡ false
behind-other set y None z other h = h
behind-other set y (Some hint) z other h = past-no set y z other h

module _ (live : Live) (r q a b : ℕ) (lower higher : Option ℕ) (last : ℕ) (c : Clause)
    (of_a : Leads live r a lower) (of_b : Leads live q b higher)
    (there : named live (pos last) ≡ Some c)
    (both : (set : List Lit) → is_among set (no a) ≡ true → is_among set (no b) ≡ true
    → AllFalse set c)
    (ra : (hint : ℕ) → lower ≡ Some hint → r ≢ a) (qa : q ≢ a) (rb : r ≢ b)
    (qb : (hint : ℕ) → higher ≡ Some hint → q ≢ b) (ab : a ≢ b)
  where
    abbrev s0 : List Lit
    s0 = no r ∷ no q ∷ []

    abbrev s1 : List Lit
    s1 = behind lower a s0

    abbrev s2 : List Lit
    s2 = behind higher b s1

    abbrev hints : List ℤ
    hints = chain_hints lower higher last

    abbrev close : List Lit → Option Cause
    close = resolution_fault live s0 (groups_of hints)

    has-r : is_among s0 (no r) ≡ true
    has-r = among_here (no q ∷ []) (no r)

    has-q : is_among s0 (no q) ≡ true
    has-q = among_more (no q ∷ []) (no r) (no q) (among_here [] (no q))

    no-yes : (z : ℕ) → is_among s0 (yes z) ≡ false
    no-yes z = over-no (no q ∷ []) r z (over-no [] q z refl)

    no-other : (z : ℕ) → r ≢ z → q ≢ z → is_among s0 (no z) ≡ false
    no-other z rz qz = past-no (no q ∷ []) r z rz (past-no [] q z qz refl)

    pub apart-follows : full_rup live s0 hints ≡ None
    apart-follows =
        lead-reason live s0 r a lower (reason_hints higher ++ pos last ∷ []) close of_a has-r
        (no-yes a) (λ hint is. no-other a (ra hint is) qa)
        ∙ lead-reason live s1 q b higher (pos last ∷ []) close of_b
        (behind-keeps s0 a lower (no q) has-q) (behind-free s0 a lower b (no-yes b))
        (λ hint is. behind-other s0 a lower b ab (no-other b rb (qb hint is)))
        ∙ lead-conflict live s2 last close c there
        (both s2 (behind-keeps s1 b higher (no a) (behind-has live s0 r a lower of_a has-r))
        (behind-has live s1 q b higher of_b (behind-keeps s0 a lower (no q) has-q)))
