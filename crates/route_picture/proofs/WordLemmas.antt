-- What eight words ask for, and that other numbers than five, six and eight ask for nothing.
use Rattle.std.proofs.Common.{◌≡◌, ◌≢◌, ◌≤◌, ◌<◌, ℕ, List, [], ◌∷◌, Option, Some, None, Result, length, map, get_or, ap, ap₂, arith, refl, string_bytes, subst, sym, ◌∙◌, String}
use Rattle.std.specs.Prelude.{option_and_then}
use Rattle.std.specs.Global.{Global}
use Rattle.fpga_text.specs.Bytes.{Bytes}
use Rattle.route_picture.specs.Words.{AnswersWords, RoutedAsked, asked, asked_at, asked_of, routed_said}
use Rattle.route_picture.specs.declared.stop.Stop.{Stop}
use Rattle.route_picture.specs.declared.words.FourNames.{FourNames}
use Rattle.route_picture.specs.declared.words.Words.{Words}

-- these are the bytes of a word
abbrev pub Spells : String Global → Bytes → Type 0
Spells word bytes = (same : String Global) × (same ≡ word) × (bytes ≡ string_bytes same)

-- the word at a place has these bytes
abbrev pub SpellsAt : List (String Global) → (place : ℕ) → Bytes → Type 0
SpellsAt words place bytes =
    (same : String Global) × (same ≡ get_or words place same) × (bytes ≡ string_bytes same)

-- a word in front of others
front : (word : String Global) (bytes : Bytes) (texts others : List Bytes) → Spells word bytes
    → texts ≡ others → string_bytes word ∷ texts ≡ bytes ∷ others
front word bytes texts others (one, same, is) rest =
    ap₂ (λ (s : Bytes) (t : List Bytes). s ∷ t) (sym (is ∙ ap string_bytes same)) rest

pub eight-words : (words : List (String Global)) (a b c d e f g h : Bytes) → 8 ≤ length words
    → length words < 9 → SpellsAt words 0 a → SpellsAt words 1 b → SpellsAt words 2 c
    → SpellsAt words 3 d → SpellsAt words 4 e → SpellsAt words 5 f → SpellsAt words 6 g
    → SpellsAt words 7 h
    → map string_bytes words ≡ a ∷ b ∷ c ∷ d ∷ e ∷ f ∷ g ∷ h ∷ []
eight-words (s0 ∷ s1 ∷ s2 ∷ s3 ∷ s4 ∷ s5 ∷ s6 ∷ s7 ∷ []) a b c d e f g h least below e0 e1 e2 e3 e4
    e5 e6 e7 =
    front s0 a _ _ e0 (front s1 b _ _ e1 (front s2 c _ _ e2 (front s3 d _ _ e3 (front s4 e _ _ e4
    (front s5 f _ _ e5 (front s6 g _ _ e6 (front s7 h _ _ e7 refl)))))))
eight-words words a b c d e f g h least below e0 e1 e2 e3 e4 e5 e6 e7 = absurd (omega arith)

-- eight words ask for a routing
pub asked-eight : (words : List Bytes) (files : FourNames) (word file option reach : Bytes)
    (routed : RoutedAsked) (result : Result Words Stop)
    → words ≡ files.arch.now ∷ files.net.now ∷ files.place.now ∷ files.route.now ∷ word ∷ file
    ∷ option ∷ reach ∷ []
    → Some routed ≡ routed_said file option reach
    → AnswersWords (asked_of files word None (Some routed)) result
    → AnswersWords (asked words) result
asked-eight words files word file option reach routed result is said answers =
    subst (λ (ws : List Bytes). AnswersWords (asked ws) result) (sym is)
    (subst (λ (r : Option RoutedAsked).
    AnswersWords (option_and_then (λ (x : RoutedAsked).
    asked_at files.arch.now files.net.now files.place.now files.route.now word None (Some x)) r)
    result) said answers)

pub none-asked : (words : List (String Global)) → length words ≢ 5 → length words ≢ 6
    → length words ≢ 8 → asked (map string_bytes words) ≡ None
none-asked (s0 ∷ s1 ∷ s2 ∷ s3 ∷ s4 ∷ []) not5 not6 not8 = absurd (not5 refl)
none-asked (s0 ∷ s1 ∷ s2 ∷ s3 ∷ s4 ∷ s5 ∷ []) not5 not6 not8 = absurd (not6 refl)
none-asked (s0 ∷ s1 ∷ s2 ∷ s3 ∷ s4 ∷ s5 ∷ s6 ∷ s7 ∷ []) not5 not6 not8 = absurd (not8 refl)
none-asked words not5 not6 not8 = refl
