-- An array line is one by its first words.
use Rattle.std.proofs.Common.{◌≡◌, [], ◌∷◌, take, refl}
use Rattle.fpga_text.specs.Words.{Words}
use Rattle.fpga_text.specs.ArrayLine.{size_words}

-- no more than eight words are looked at
pub size_words_take : (words : Words) → size_words (take 8 words) ≡ size_words words
size_words_take [] = refl
size_words_take (a ∷ []) = refl
size_words_take (a ∷ b ∷ []) = refl
size_words_take (a ∷ b ∷ c ∷ []) = refl
size_words_take (a ∷ b ∷ c ∷ d ∷ []) = refl
size_words_take (a ∷ b ∷ c ∷ d ∷ e ∷ []) = refl
size_words_take (a ∷ b ∷ c ∷ d ∷ e ∷ f ∷ []) = refl
size_words_take (a ∷ b ∷ c ∷ d ∷ e ∷ f ∷ g ∷ []) = refl
size_words_take (a ∷ b ∷ c ∷ d ∷ e ∷ f ∷ g ∷ h ∷ more) = refl
