-- How a picture is printed.
use Rattle.std.specs.Prelude.{Bool, true, false, List, [], ◌∷◌, ◌++◌, bytes_eq, codes, if◌then◌else◌}
use Rattle.fpga_text.specs.Bytes.{Bytes}
use Rattle.route_picture.specs.declared.page.TheConstants.{HEAD, TAIL}

-- what is printed of a picture: itself, or a page of HTML, which is a fixed head, the picture to
-- the byte, and a fixed tail
abbrev pub printed_as : (page : Bool) → (picture : Bytes) → Bytes
printed_as false picture = picture
printed_as true picture = HEAD.now ++ picture ++ TAIL.now

-- the word that asks for a page
abbrev pub is_html : Bytes → Bool
is_html word = bytes_eq word (codes "--html")

-- the last of some words does
abbrev pub asks_page : List Bytes → Bool
asks_page [] = false
asks_page (word ∷ []) = is_html word
asks_page (word ∷ next ∷ more) = asks_page (next ∷ more)

-- the words without it
abbrev pub picture_words : List Bytes → List Bytes
picture_words [] = []
picture_words (word ∷ []) = if is_html word then [] else word ∷ []
picture_words (word ∷ next ∷ more) = word ∷ picture_words (next ∷ more)
