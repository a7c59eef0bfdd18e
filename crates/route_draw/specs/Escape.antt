-- how a byte of a name stands in a text of XML
use Rattle.std.specs.Prelude.{ℕ, List, [], ◌∷◌, codes, ◌&&◌, ◌==◌, nat_le, if◌then◌else◌}

abbrev pub escaped : ℕ → List ℕ
escaped byte =
    if byte == 60 then codes "&lt;" else
    if byte == 62 then codes "&gt;" else
    if byte == 38 then codes "&amp;" else
    if byte == 34 then codes "&quot;" else
    if nat_le 32 byte && nat_le byte 126 then byte ∷ [] else
    codes "?"
