-- What hints lead to behind one that makes a literal true.
use Rattle.std.proofs.Common.{◌≡◌, ℕ, ◌+◌, ◌<◌, ℤ, pos, negsuc, List, ◌∷◌, Option, length, drop, get_or, Some, refl, sym, ◌∙◌, add-one}
use Rattle.std.proofs.Math.Seq.{drop-cons}
use Rattle.sat_clause.specs.declared.cause.Cause.{Cause}
use Rattle.sat_clause.specs.declared.literal.Lit.{Lit}
use Rattle.sat_clause.specs.declared.reading.Reading.TheVariants.{Unit}
use Rattle.sat_clause.specs.Literal.{Clause, negation}
use Rattle.sat_clause.specs.Live.{Live, named}
use Rattle.sat_clause.specs.Rup.{reading_of}
use Rattle.sat_check.specs.Finder.{Finder, Finds, named_by}
use Rattle.sat_check.proofs.HintLaws.{named_found}
use Rattle.sat_rat.specs.FullRup.{lead}

-- the hint itself
lead_here : (clauses : Live) (h : ℤ) (rest : List ℤ) (set : List Lit) (c : Clause) (l : Lit)
    (end : List Lit → Option Cause) → named clauses h ≡ Some c → Unit l ≡ reading_of set c →
    lead clauses (negation l ∷ set) rest end ≡ lead clauses set (h ∷ rest) end
lead_here clauses (pos n) rest set c l end there reads = rw (there, ← reads) refl
lead_here clauses (negsuc n) rest set c l end there reads = cc

pub lead_next : (find : Finder) (clauses : Live) → Finds find clauses → (hints : List ℤ) (i : ℕ) →
    i < length hints → (set : List Lit) (c : Clause) (l : Lit) (end : List Lit → Option Cause) →
    Some c ≡ named_by find (get_or hints i (pos 0)) → Unit l ≡ reading_of set c →
    lead clauses (negation l ∷ set) (drop (i + 1) hints) end ≡ lead clauses set (drop i hints) end
lead_next find clauses finds hints i below set c l end is reads =
    rw (add-one, drop-cons hints i (pos 0) below)
    (lead_here clauses (get_or hints i (pos 0)) _ set c l end
    (named_found find clauses finds _ ∙ sym is) reads)
