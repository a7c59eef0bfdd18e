-- Words of which the last may ask for a page.
use Rattle.std.proofs.Common.{◌≡◌, Bool, true, false, List, [], ◌∷◌, ◌++◌, length, map, ap, refl, string_bytes, sym, ◌∙◌, String, arith}
use Rattle.std.specs.Global.{Global}
use Rattle.std.proofs.lemmas.List.{map-append}
use Rattle.fpga_text.specs.Bytes.{Bytes}
use Rattle.route_picture.specs.Page.{asks_page, is_html, picture_words}

-- the last word alone asks for it
last-asks : (front : List Bytes) (last : Bytes) → asks_page (front ++ last ∷ []) ≡ is_html last
last-asks [] last = refl
last-asks (one ∷ []) last = refl
last-asks (one ∷ next ∷ more) last = last-asks (next ∷ more) last

-- it is left out
last-left : (front : List Bytes) (last : Bytes) → is_html last ≡ true
    → picture_words (front ++ last ∷ []) ≡ front
last-left [] last is = rw is refl
last-left (one ∷ []) last is = ap (λ (ws : List Bytes). one ∷ ws) (last-left [] last is)
last-left (one ∷ next ∷ more) last is =
    ap (λ (ws : List Bytes). one ∷ ws) (last-left (next ∷ more) last is)

-- another stays
last-stays : (front : List Bytes) (last : Bytes) → is_html last ≡ false
    → picture_words (front ++ last ∷ []) ≡ front ++ last ∷ []
last-stays [] last is = rw is refl
last-stays (one ∷ []) last is = ap (λ (ws : List Bytes). one ∷ ws) (last-stays [] last is)
last-stays (one ∷ next ∷ more) last is =
    ap (λ (ws : List Bytes). one ∷ ws) (last-stays (next ∷ more) last is)

-- the same of words of the system
parted : (words front : List (String Global)) (last : String Global) → words ≡ front ++ last ∷ []
    → map string_bytes words ≡ map string_bytes front ++ string_bytes last ∷ []
parted words front last is =
    ap (map string_bytes) is ∙ map-append string_bytes front (last ∷ [])

pub page-asked : (words front : List (String Global)) (last : String Global) (asks : Bool)
    → words ≡ front ++ last ∷ [] → is_html (string_bytes last) ≡ asks
    → asks_page (map string_bytes words) ≡ asks
page-asked words front last asks is says =
    ap asks_page (parted words front last is)
    ∙ last-asks (map string_bytes front) (string_bytes last) ∙ says

pub page-left : (words front : List (String Global)) (last : String Global)
    → words ≡ front ++ last ∷ [] → is_html (string_bytes last) ≡ true
    → picture_words (map string_bytes words) ≡ map string_bytes front
page-left words front last is says =
    ap picture_words (parted words front last is)
    ∙ last-left (map string_bytes front) (string_bytes last) says

pub page-stays : (words front : List (String Global)) (last : String Global)
    → words ≡ front ++ last ∷ [] → is_html (string_bytes last) ≡ false
    → picture_words (map string_bytes words) ≡ map string_bytes words
page-stays words front last is says =
    ap picture_words (parted words front last is)
    ∙ last-stays (map string_bytes front) (string_bytes last) says
    ∙ sym (parted words front last is)

-- without a word there is none that asks
pub none-asks : (words : List (String Global)) → length words ≡ 0
    → (asks_page (map string_bytes words) ≡ false)
    × (picture_words (map string_bytes words) ≡ map string_bytes words)
none-asks [] none = (refl, refl)
none-asks (word ∷ more) none = absurd (omega (arith, none))
