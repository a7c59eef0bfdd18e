-- Which literals a trail makes false, and which are open.
use Rattle.std.proofs.Common.{◌≡◌, ◌≢◌, true, false, List, [], ◌∷◌, refl, sym, ap, ◌∙◌, subst, inl, inr}
use Rattle.std.proofs.lemmas.Bool.{both_ways, false_from_ne_true}
use Rattle.std.proofs.lemmas.List.Elements.{All-head, All-tail, All-cons, All-nil}
use Rattle.sat_clause.specs.declared.literal.Lit.{Lit}
use Rattle.sat_clause.specs.Literal.{negation, variable, is_among}
use Rattle.sat_clause.specs.Trail.{falses, IsOpen}
use Rattle.sat_clause.proofs.LiteralLaws.{among_here, among_more, among_other, negation-negation, same_variable, variable_negation}

-- an open literal is not false
pub open_not_false : (trail : List Lit) (l : Lit) → IsOpen trail l → is_among (falses trail) l
    ≡ false
open_not_false [] l free = refl
open_not_false (m ∷ older) l free =
    let P = λ (x : Lit). variable x ≢ variable l in
    among_other (falses older) (negation m) l
    (λ same. All-head P m older free (sym (variable_negation m) ∙ ap variable same))
    ∙ open_not_false older l (All-tail P m older free)

-- the negation of an open literal is open
pub open_negation : (trail : List Lit) (l : Lit) → IsOpen trail l → IsOpen trail (negation l)
open_negation trail l free k d within same = free k d within (same ∙ variable_negation l)

-- nor is an open literal true
pub open_not_true : (trail : List Lit) (l : Lit) → IsOpen trail l
    → is_among (falses trail) (negation l) ≡ false
open_not_true trail l free = open_not_false trail (negation l) (open_negation trail l free)

-- a literal that is neither false nor true is open
pub is_open : (trail : List Lit) (l : Lit) → is_among (falses trail) l ≡ false →
    is_among (falses trail) (negation l) ≡ false → IsOpen trail l
is_open [] l not_false not_true = All-nil (λ (x : Lit). variable x ≢ variable l)
is_open (m ∷ older) l not_false not_true =
    All-cons (λ (x : Lit). variable x ≢ variable l) m older
    (λ same. elim (same_variable m l same) [
      | inl is ↦ both_ways _ not_true
          (subst (λ (x : Lit). is_among (negation x ∷ falses older) (negation l) ≡ true) (sym is)
          (among_here (falses older) (negation l)))
      | inr is ↦ both_ways _ not_false
          (subst (λ (x : Lit). is_among (x ∷ falses older) l ≡ true)
          (sym (ap negation is ∙ negation-negation l)) (among_here (falses older) l))
    ])
    (is_open older l (rest l not_false) (rest (negation l) not_true))
  where
    rest : (x : Lit) → is_among (negation m ∷ falses older) x ≡ false → is_among (falses older) x
        ≡ false
    rest x out = false_from_ne_true _
        (λ is. both_ways _ out (among_more (falses older) (negation m) x is))

-- a false literal is of another variable than an open one
pub false_is_other : (trail : List Lit) (l m : Lit) → IsOpen trail l → is_among (falses trail) m
    ≡ true →
    variable m ≢ variable l
false_is_other trail l m free is same =
    elim (same_variable m l same) [
      | inl eq ↦ both_ways _ (open_not_false trail l free)
          (subst (λ (x : Lit). is_among (falses trail) x ≡ true) eq is)
      | inr eq ↦ both_ways _ (open_not_true trail l free)
          (subst (λ (x : Lit). is_among (falses trail) x ≡ true) eq is)
    ]
