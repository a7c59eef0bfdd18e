-- What is quoted of a line is seen by its first words.
use Rattle.std.proofs.Common.{◌≡◌, [], ◌∷◌, arith, length, refl, take}
use Rattle.std.proofs.lemmas.Bool.{lt-leb}
use Rattle.fpga_text.specs.Words.{Words}
use Rattle.fault_names.specs.Quoted.{quoted}

pub quoted_front : (words : Words) → quoted (take 8 words) ≡ quoted words
quoted_front [] = refl
quoted_front (a ∷ []) = refl
quoted_front (a ∷ b ∷ []) = refl
quoted_front (a ∷ b ∷ c ∷ []) = refl
quoted_front (a ∷ b ∷ c ∷ d ∷ []) = refl
quoted_front (a ∷ b ∷ c ∷ d ∷ e ∷ []) = refl
quoted_front (a ∷ b ∷ c ∷ d ∷ e ∷ f ∷ []) = refl
quoted_front (a ∷ b ∷ c ∷ d ∷ e ∷ f ∷ g ∷ []) = refl
quoted_front (a ∷ b ∷ c ∷ d ∷ e ∷ f ∷ g ∷ h ∷ more) =
    rw (lt-leb (length (a ∷ b ∷ c ∷ d ∷ e ∷ f ∷ g ∷ h ∷ more)) 7 (omega arith)) refl
