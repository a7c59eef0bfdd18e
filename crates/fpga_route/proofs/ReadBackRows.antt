-- Worked rows of printed routes that are read again, each by computation.
use Rattle.std.proofs.Common.{◌≡◌, [], ◌∷◌, None, refl}
use Rattle.std.specs.Prelude.{codes, map, replicate}
use Rattle.std.specs.Fmt.{digits}
use Rattle.fpga_types.specs.Legal.{route_of}
use Rattle.fpga_types.specs.declared.route.Elem.{Elem}
use Rattle.fpga_types.specs.declared.route.RouteNet.{RouteNet}
use Rattle.fpga_types.specs.declared.route.RouteText.{RouteText}
use Rattle.fpga_text.specs.Bytes.{Bytes}
use Rattle.fpga_route.specs.Printed.{printed}
use Rattle.fpga_route.specs.ReadBack.{SameButLines}
use Rattle.fpga_route.specs.Value.{route_value}
use Rattle.fpga_route.proofs.CodeRows.{all_codes}
use Rattle.fpga_route.proofs.RowTexts.{one, junction}

-- a text printed and read again
abbrev again : Bytes → RouteText
again text = route_value (printed (route_value text))

pub one_again : again one ≡ route_value one
unfolding digits
one_again = refl

pub junction_again : SameButLines (again junction) (route_value junction)
unfolding digits
junction_again = refl

pub junction_clean_again : all_codes (printed (route_value junction)) ≡ replicate 24 None
unfolding digits
junction_clean_again = refl

-- its nets stand two empty lines apart, and an empty line more is at the end
pub junction_longer : (route_value junction).lines ∷ (again junction).lines ∷ [] ≡ 30 ∷ 33 ∷ []
unfolding digits
junction_longer = refl

-- a Block line with blanks, a comment and a carriage return
abbrev odd_block : Bytes
odd_block = codes
    "Array size: 1 x 1 logic blocks\nRouting:\nNet 0 (c):): global net connecting:\n  Block a # b \r\n"

pub odd_block_again : map (λ (net : RouteNet). net.name ∷ net.kept) (again odd_block).nets
    ≡ (codes "c):" ∷ codes "  Block a # b \r" ∷ []) ∷ []
unfolding digits
odd_block_again = refl

-- with a track for each slot
pub one_with_track : map (λ (net : RouteNet). map (λ (e : Elem). e.number) net.elems)
    (route_value (printed (route_of (route_value one) (7 ∷ [])))).nets
    ≡ (0 ∷ 0 ∷ 7 ∷ 1 ∷ 1 ∷ []) ∷ []
unfolding digits
one_with_track = refl
