-- Nets on pins, one pin more.
use Rattle.std.proofs.Common.{◌≡◌, ℕ, ◌+◌, ◌<◌, List, [], ◌∷◌, ◌++◌, length, drop, get_or, refl, sym, ap, ◌∙◌, add-one, drop-cons, append_assoc, append-nil}
use Rattle.std.specs.Prelude.{Some, None, slice_get}
use Rattle.fpga_text.specs.Bytes.{Bytes}
use Rattle.fpga_text.specs.Words.{Words}
use Rattle.fpga_types.specs.declared.arch.PinSpec.{PinSpec}
use Rattle.router_says.specs.AtFault.{NetOnPin, ordinary_uses, use_here}

words_first : (words : Words) (word : Bytes) → Some word ≡ slice_get words 0 →
    words ≡ word ∷ drop 1 words
words_first [] word said = absurd (let clash : Some word ≡ None = said in cc)
words_first (first ∷ more) word said = cc

no_words : (words : Words) → None ≡ slice_get words 0 → words ≡ []
no_words [] said = refl
no_words (first ∷ more) said = absurd (let clash : None ≡ Some first = said in cc)

none-without-words : (text : Bytes) (i : ℕ) (pins : List PinSpec) →
    ordinary_uses text i pins [] ≡ []
none-without-words text i [] = refl
none-without-words text i (pin ∷ pins) = refl

module _ (text : Bytes) (i : ℕ) (pins : List PinSpec) (words : Words) (found all : List NetOnPin)
    (so_far : found ++ ordinary_uses text i (drop i pins) words ≡ all) where
  -- there is a pin and a word more
  pub uses-next : (d : PinSpec) (word : Bytes) (more : List NetOnPin) → i < length pins →
      Some word ≡ slice_get words 0 →
      more ≡ found ++ use_here text (record { number = i; pin = get_or pins i d; net = word }) →
      more ++ ordinary_uses text (i + 1) (drop (i + 1) pins) (drop 1 words) ≡ all
  uses-next d word more inside said is =
      let here = use_here text (record { number = i; pin = get_or pins i d; net = word }) in
      let rest = ordinary_uses text (i + 1) (drop (i + 1) pins) (drop 1 words) in
      let ahead : ordinary_uses text i (drop i pins) words ≡ here ++ rest =
      ap (ordinary_uses text i (drop i pins)) (words_first words word said)
      ∙ (rw (drop-cons pins i d, add-one) refl) in
      ap (λ (us : List NetOnPin). us ++ rest) is ∙ append_assoc found here rest
      ∙ ap (λ (us : List NetOnPin). found ++ us) (sym ahead) ∙ so_far

  -- there is no word more
  pub uses-end : None ≡ slice_get words 0 → found ≡ all
  uses-end said = sym (append-nil found)
      ∙ ap (λ (us : List NetOnPin). found ++ us)
      (sym (ap (ordinary_uses text i (drop i pins)) (no_words words said)
      ∙ none-without-words text i (drop i pins))) ∙ so_far
