-- Why the steps of a count follow by their hints. Slot i of two, slot j and the last slot had tracks
-- by the variables x, y and b at a track, and by p and q at the last one; they have it now by v and w.
use Rattle.std.proofs.Common.{◌≡◌, ◌≢◌, ℕ, pos, true, false, Option, Some, None, List, [], ◌∷◌, refl, ◌∙◌}
use Rattle.sat_clause.specs.declared.cause.Cause.{Cause}
use Rattle.sat_clause.specs.declared.literal.Lit.{Lit}
use Rattle.sat_clause.specs.Literal.{is_among}
use Rattle.sat_clause.specs.Live.{Live, named}
use Rattle.sat_clause.proofs.LiteralLaws.{among_here, among_more}
use Rattle.sat_clause.proofs.ReadingLaws.{AllFalse, HasOneOpen}
use Rattle.sat_rat.specs.FullRup.{full_rup, resolution_fault}
use Rattle.sat_rat.specs.Groups.{groups_of}
use Rattle.sat_count.specs.Names.{no, yes}
use Rattle.sat_count.proofs.HintLemmas.{false-three, false-two, lead-conflict, lead-unit, open-first, open-second, open-third, over-no, over-yes, past-no, past-yes}

-- not both have the track where the lower one had it
module _ (live : Live) (first second third v w x y b : ℕ)
    (apart : named live (pos first) ≡ Some (no x ∷ no y ∷ []))
    (last : named live (pos second) ≡ Some (no x ∷ no b ∷ []))
    (given : named live (pos third) ≡ Some (no w ∷ yes y ∷ yes b ∷ []))
    (vy : v ≢ y) (wy : w ≢ y) (xy : x ≢ y) (vb : v ≢ b) (wb : w ≢ b) (xb : x ≢ b) (yb : y ≢ b)
  where
    abbrev start : List Lit
    start = no v ∷ no w ∷ no x ∷ []

    abbrev lower : List Lit
    lower = yes y ∷ start

    abbrev end : List Lit
    end = yes b ∷ lower

    has-x : is_among start (no x) ≡ true
    has-x = among_more (no w ∷ no x ∷ []) (no v) (no x)
        (among_more (no x ∷ []) (no w) (no x) (among_here [] (no x)))

    has-w : is_among start (no w) ≡ true
    has-w = among_more (no w ∷ no x ∷ []) (no v) (no w) (among_here (no x ∷ []) (no w))

    free-y : is_among start (no y) ≡ false
    free-y = past-no (no w ∷ no x ∷ []) v y vy
        (past-no (no x ∷ []) w y wy (past-no [] x y xy refl))

    free-b : is_among lower (no b) ≡ false
    free-b = over-yes start y b (past-no (no w ∷ no x ∷ []) v b vb
        (past-no (no x ∷ []) w b wb (past-no [] x b xb refl)))

    free-given : is_among lower (yes b) ≡ false
    free-given = past-yes start y b yb
        (over-no (no w ∷ no x ∷ []) v b (over-no (no x ∷ []) w b (over-no [] x b refl)))

    free-yes-y : is_among start (yes y) ≡ false
    free-yes-y = over-no (no w ∷ no x ∷ []) v y (over-no (no x ∷ []) w y (over-no [] x y refl))

    pub help-follows : full_rup live start (pos first ∷ pos second ∷ pos third ∷ []) ≡ None
    help-follows =
        let more : List Lit → Option Cause =
        resolution_fault live start (groups_of (pos first ∷ pos second ∷ pos third ∷ [])) in
        lead-unit live start first (pos second ∷ pos third ∷ []) more (no x ∷ no y ∷ []) (no y)
        apart (open-second start (no x) (no y) has-x free-y) free-yes-y
        ∙ lead-unit live lower second (pos third ∷ []) more (no x ∷ no b ∷ []) (no b) last
        (open-second lower (no x) (no b) (among_more start (yes y) (no x) has-x) free-b) free-given
        ∙ lead-conflict live end third more (no w ∷ yes y ∷ yes b ∷ []) given
        (false-three end (no w) (yes y) (yes b)
        (among_more lower (yes b) (no w) (among_more start (yes y) (no w) has-w))
        (among_more lower (yes b) (yes y) (among_here start (yes y)))
        (among_here lower (yes b)))

-- not both have the track: the lower one did not have it, so it had the last track, and the last slot
-- has this one; so the higher one did not have it either, and had the last track too
module _ (live : Live) (first second third fourth fifth sixth v w x y b p q : ℕ)
    (helped : named live (pos first) ≡ Some (no v ∷ no w ∷ no x ∷ []))
    (or_p : named live (pos second) ≡ Some (no v ∷ yes x ∷ yes p ∷ []))
    (or_b : named live (pos third) ≡ Some (no v ∷ yes x ∷ yes b ∷ []))
    (last : named live (pos fourth) ≡ Some (no y ∷ no b ∷ []))
    (or_q : named live (pos fifth) ≡ Some (no w ∷ yes y ∷ yes q ∷ []))
    (ended : named live (pos sixth) ≡ Some (no p ∷ no q ∷ []))
    (vx : v ≢ x) (wx : w ≢ x) (xp : x ≢ p) (vp : v ≢ p) (wp : w ≢ p) (xb : x ≢ b) (pb : p ≢ b)
    (vb : v ≢ b) (wb : w ≢ b) (by : b ≢ y) (py : p ≢ y) (vy : v ≢ y) (wy : w ≢ y) (xy : x ≢ y)
    (yq : y ≢ q) (xq : x ≢ q) (bq : b ≢ q) (pq : p ≢ q) (vq : v ≢ q) (wq : w ≢ q)
  where
    abbrev s0 : List Lit
    s0 = no v ∷ no w ∷ []

    abbrev s1 : List Lit
    s1 = yes x ∷ s0

    abbrev s2 : List Lit
    s2 = no p ∷ s1

    abbrev s3 : List Lit
    s3 = no b ∷ s2

    abbrev s4 : List Lit
    s4 = yes y ∷ s3

    abbrev s5 : List Lit
    s5 = no q ∷ s4

    free-0 : is_among s0 (no x) ≡ false
    free-0 = past-no (no w ∷ []) v x vx
        (past-no [] w x wx refl)

    other-0 : is_among s0 (yes x) ≡ false
    other-0 = over-no (no w ∷ []) v x
        (over-no [] w x refl)

    one-0 : HasOneOpen s0 (no x) (no v ∷ no w ∷ no x ∷ [])
    one-0 = open-third s0 (no v) (no w) (no x)
        (among_here (no w ∷ []) (no v))
        (among_more (no w ∷ []) (no v) (no w)
        (among_here [] (no w))) free-0

    free-1 : is_among s1 (yes p) ≡ false
    free-1 = past-yes s0 x p xp
        (over-no (no w ∷ []) v p
        (over-no [] w p refl))

    other-1 : is_among s1 (no p) ≡ false
    other-1 = over-yes s0 x p
        (past-no (no w ∷ []) v p vp
        (past-no [] w p wp refl))

    one-1 : HasOneOpen s1 (yes p) (no v ∷ yes x ∷ yes p ∷ [])
    one-1 = open-third s1 (no v) (yes x) (yes p)
        (among_more s0 (yes x) (no v)
        (among_here (no w ∷ []) (no v)))
        (among_here s0 (yes x)) free-1

    free-2 : is_among s2 (yes b) ≡ false
    free-2 = over-no s1 p b
        (past-yes s0 x b xb
        (over-no (no w ∷ []) v b
        (over-no [] w b refl)))

    other-2 : is_among s2 (no b) ≡ false
    other-2 = past-no s1 p b pb
        (over-yes s0 x b
        (past-no (no w ∷ []) v b vb
        (past-no [] w b wb refl)))

    one-2 : HasOneOpen s2 (yes b) (no v ∷ yes x ∷ yes b ∷ [])
    one-2 = open-third s2 (no v) (yes x) (yes b)
        (among_more s1 (no p) (no v)
        (among_more s0 (yes x) (no v)
        (among_here (no w ∷ []) (no v))))
        (among_more s1 (no p) (yes x)
        (among_here s0 (yes x))) free-2

    free-3 : is_among s3 (no y) ≡ false
    free-3 = past-no s2 b y by
        (past-no s1 p y py
        (over-yes s0 x y
        (past-no (no w ∷ []) v y vy
        (past-no [] w y wy refl))))

    other-3 : is_among s3 (yes y) ≡ false
    other-3 = over-no s2 b y
        (over-no s1 p y
        (past-yes s0 x y xy
        (over-no (no w ∷ []) v y
        (over-no [] w y refl))))

    one-3 : HasOneOpen s3 (no y) (no y ∷ no b ∷ [])
    one-3 = open-first s3 (no y) (no b)
        (among_here s2 (no b)) free-3

    free-4 : is_among s4 (yes q) ≡ false
    free-4 = past-yes s3 y q yq
        (over-no s2 b q
        (over-no s1 p q
        (past-yes s0 x q xq
        (over-no (no w ∷ []) v q
        (over-no [] w q refl)))))

    other-4 : is_among s4 (no q) ≡ false
    other-4 = over-yes s3 y q
        (past-no s2 b q bq
        (past-no s1 p q pq
        (over-yes s0 x q
        (past-no (no w ∷ []) v q vq
        (past-no [] w q wq refl)))))

    one-4 : HasOneOpen s4 (yes q) (no w ∷ yes y ∷ yes q ∷ [])
    one-4 = open-third s4 (no w) (yes y) (yes q)
        (among_more s3 (yes y) (no w)
        (among_more s2 (no b) (no w)
        (among_more s1 (no p) (no w)
        (among_more s0 (yes x) (no w)
        (among_more (no w ∷ []) (no v) (no w)
        (among_here [] (no w)))))))
        (among_here s3 (yes y)) free-4

    all-false : AllFalse s5 (no p ∷ no q ∷ [])
    all-false = false-two s5 (no p) (no q)
        (among_more s4 (no q) (no p)
        (among_more s3 (yes y) (no p)
        (among_more s2 (no b) (no p)
        (among_here s1 (no p)))))
        (among_here s4 (no q))

    pub apart-follows : full_rup live s0 (pos first ∷ pos second ∷ pos third ∷ pos fourth
        ∷ pos fifth ∷ pos sixth ∷ []) ≡ None
    apart-follows =
        let more : List Lit → Option Cause = resolution_fault live s0 (groups_of (pos first
        ∷ pos second ∷ pos third ∷ pos fourth ∷ pos fifth ∷ pos sixth ∷ [])) in
        lead-unit live s0 first (pos second ∷ pos third ∷ pos fourth ∷ pos fifth ∷ pos sixth ∷ [])
        more (no v ∷ no w ∷ no x ∷ []) (no x) helped one-0 other-0
        ∙ lead-unit live s1 second (pos third ∷ pos fourth ∷ pos fifth ∷ pos sixth ∷ []) more
        (no v ∷ yes x ∷ yes p ∷ []) (yes p) or_p one-1 other-1
        ∙ lead-unit live s2 third (pos fourth ∷ pos fifth ∷ pos sixth ∷ []) more
        (no v ∷ yes x ∷ yes b ∷ []) (yes b) or_b one-2 other-2
        ∙ lead-unit live s3 fourth (pos fifth ∷ pos sixth ∷ []) more
        (no y ∷ no b ∷ []) (no y) last one-3 other-3
        ∙ lead-unit live s4 fifth (pos sixth ∷ []) more
        (no w ∷ yes y ∷ yes q ∷ []) (yes q) or_q one-4 other-4
        ∙ lead-conflict live s5 sixth more (no p ∷ no q ∷ []) ended all-false
