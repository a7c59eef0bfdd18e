-- What was appended of a width, by what is seen without a search, is what is to be said of it.
use Rattle.std.proofs.Common.{rules, ◌≡◌, ℕ, List, Option, Some, None, ap, subst, ◌∙◌, ◌++◌, append_assoc}
use Rattle.std.specs.Prelude.{IfSome, IsNone}
use Rattle.list_laws.proofs.Places.{some_is}

-- what is said where there is nothing
pub where-none : {X A : Type 0} (found : Option X) → found ≡ None → (IsNone found → A) → A
where-none None is says = says (search rules)
where-none (Some x) is says = absurd (let clash : Some x ≡ None = is in cc)

-- what holds of what is there
pub where-some : {X : Type 0} (P : X → Type 0) (found : Option X) (x : X) → found ≡ Some x →
    IfSome found P → P x
where-some P None x is holds = absurd (let clash : None ≡ Some x = is in cc)
where-some P (Some y) x is holds = subst P (some_is is) holds

-- three parts were appended
pub three-parts : (start first second whole a b c : List ℕ) → first ≡ start ++ a →
    second ≡ first ++ b → whole ≡ second ++ c → whole ≡ start ++ (a ++ (b ++ c))
three-parts start first second whole a b c is_first is_second is_whole =
    is_whole
    ∙ ap (λ (t : List ℕ). t ++ c) (is_second ∙ ap (λ (t : List ℕ). t ++ b) is_first)
    ∙ append_assoc (start ++ a) b c ∙ append_assoc start a (b ++ c)
