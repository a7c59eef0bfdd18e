-- Texts that are made of parts, one behind the other.
use Rattle.std.specs.Prelude.{◌≡◌, ℕ, List, [], ◌∷◌, ◌++◌}

-- a text is a front and a rest, each of its kind
pub record IsJoined (IsFront IsRest : List ℕ → Type 0) (text : List ℕ) : Type 0 where
  pub front : List ℕ
  pub rest : List ℕ
  pub is_front : IsFront front
  pub is_rest : IsRest rest
  pub joined : text ≡ front ++ rest

-- a text has a part for each element, in their order, and no other
abbrev pub AreParts : {T : Type 0} → (T → List ℕ → Type 0) → List T → List ℕ → Type 0
AreParts IsPart [] = λ text. text ≡ []
AreParts IsPart (x ∷ xs) = IsJoined (IsPart x) (AreParts IsPart xs)

-- a part of this kind was added to a text
pub record Adds (IsPart : List ℕ → Type 0) (old new : List ℕ) : Type 0 where
  pub part : List ℕ
  pub is_part : IsPart part
  pub added : new ≡ old ++ part
