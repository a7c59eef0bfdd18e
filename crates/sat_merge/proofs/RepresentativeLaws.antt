-- Literals of representatives.
use Rattle.std.proofs.Common.{◌≡◌, ◌<◌, ◌+◌, ℕ, true, List, [], ◌∷◌, length, Option, None, Some, slice_get, All, refl, arith}
use Rattle.std.proofs.lemmas.List.Elements.{All-cons, All-head, All-nil, All-tail}
use Rattle.std.proofs.lemmas.Option.{slice_get_within}
use Rattle.sat_clause.specs.declared.literal.Lit.{Lit}
use Rattle.sat_clause.specs.Literal.{Clause, IsLiteral, IsWithin, variable}
use Rattle.sat_merge.specs.declared.representatives.ImpliedVariable.{ImpliedVariable}
use Rattle.sat_merge.specs.Representatives.{is_alone, keeps, is_representative}
use Rattle.sat_merge.specs.Rewritten.{AreKept}

-- a representative is one of the list
representative_within : (implied : List ImpliedVariable) (v : ℕ) →
    is_representative implied v ≡ true → v < length implied
representative_within implied v is = by (slice_get implied v) refl is
  where
    by : (o : Option ImpliedVariable) → slice_get implied v ≡ o → is_alone o ≡ true →
        v < length implied
    by None at none = cc
    by (Some f) at alone = slice_get_within implied v f at

-- so kept literals are of the variables
pub kept_within : (implied : List ImpliedVariable) (vars : ℕ) (clause : Clause) →
    length implied ≡ vars + 1 → All IsLiteral clause → AreKept (keeps implied) clause →
    All (IsWithin vars) clause
kept_within implied vars [] many literals kept = All-nil (IsWithin vars)
kept_within implied vars (l ∷ clause) many literals kept =
    let literal = All-head IsLiteral l clause literals in
    let head = representative_within implied (variable l)
    (All-head (λ (m : Lit). keeps implied m ≡ true) l clause kept) in
    All-cons (IsWithin vars) l clause (literal.0, omega (arith, head, many))
    (kept_within implied vars clause many (All-tail IsLiteral l clause literals)
    (All-tail (λ (m : Lit). keeps implied m ≡ true) l clause kept))
