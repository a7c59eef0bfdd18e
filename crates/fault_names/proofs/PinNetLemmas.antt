-- What lines make, one line more; and the nets on pins, one pin more.
use Rattle.std.proofs.Common.{◌≡◌, ℕ, ◌+◌, ◌<◌, Bool, List, [], ◌∷◌, ◌++◌, length, drop, get_or, Some, None, refl, sym, ap, ◌∙◌, add-one, append_assoc, append-nil, drop-cons}
use Rattle.std.specs.Prelude.{flat_map, slice_get}
use Rattle.fpga_text.specs.Bytes.{Bytes}
use Rattle.fpga_text.specs.Words.{TextLine, Words}
use Rattle.fpga_types.specs.declared.arch.PinSpec.{PinSpec}
use Rattle.fault_names.specs.PinNets.{net_here, nets_on}

-- what is ahead is a line and then the others, and the line's words were added
pub made-ahead : (f : TextLine → List Bytes) (ahead : List TextLine) (line : TextLine)
    (after : List TextLine) (a b all : List Bytes) → ahead ≡ line ∷ after →
    b ≡ a ++ f line → a ++ flat_map f ahead ≡ all → b ++ flat_map f after ≡ all
made-ahead f ahead line after a b all split is so_far =
    ap (λ (t : List Bytes). t ++ flat_map f after) is
    ∙ append_assoc a (f line) (flat_map f after)
    ∙ ap (λ (ls : List TextLine). a ++ flat_map f ls) (sym split) ∙ so_far

words_first : (words : Words) (word : Bytes) → Some word ≡ slice_get words 0 →
    words ≡ word ∷ drop 1 words
words_first [] word said = absurd (let clash : Some word ≡ None = said in cc)
words_first (first ∷ more) word said = cc

no_words : (words : Words) → None ≡ slice_get words 0 → words ≡ []
no_words [] said = refl
no_words (first ∷ more) said = absurd (let clash : None ≡ Some first = said in cc)

none-without-words : (drives : Bool) (pins : List PinSpec) → nets_on drives pins [] ≡ []
none-without-words drives [] = refl
none-without-words drives (pin ∷ pins) = refl

module _ (drives : Bool) (i : ℕ) (pins : List PinSpec) (words : Words) (found all : List Bytes)
    (so_far : found ++ nets_on drives (drop i pins) words ≡ all) where
  -- there is a pin and a word more
  pub nets-next : (d : PinSpec) (word : Bytes) (more : List Bytes) → i < length pins →
      Some word ≡ slice_get words 0 → more ≡ found ++ net_here drives (get_or pins i d) word →
      more ++ nets_on drives (drop (i + 1) pins) (drop 1 words) ≡ all
  nets-next d word more inside said is =
      let here = net_here drives (get_or pins i d) word in
      let rest = nets_on drives (drop (i + 1) pins) (drop 1 words) in
      let ahead : nets_on drives (drop i pins) words ≡ here ++ rest =
      ap (nets_on drives (drop i pins)) (words_first words word said)
      ∙ (rw (drop-cons pins i d, add-one) refl) in
      ap (λ (ns : List Bytes). ns ++ rest) is ∙ append_assoc found here rest
      ∙ ap (λ (ns : List Bytes). found ++ ns) (sym ahead) ∙ so_far

  -- there is no word more
  pub nets-end : None ≡ slice_get words 0 → found ≡ all
  nets-end said = sym (append-nil found)
      ∙ ap (λ (ns : List Bytes). found ++ ns)
      (sym (ap (nets_on drives (drop i pins)) (no_words words said)
      ∙ none-without-words drives (drop i pins))) ∙ so_far
