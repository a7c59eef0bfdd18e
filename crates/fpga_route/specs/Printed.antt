-- The printed form of a route, as VPR 4.30 spaces it; the newline at the end is this project's own.
use Rattle.std.specs.Prelude.{ℕ, ◌-◌, Bool, true, false, ◌++◌, length, flat_map, replicate, codes, decimal}
use Rattle.fpga_types.specs.Size.{Size}
use Rattle.fpga_types.specs.declared.route.Elem.{Elem}
use Rattle.fpga_types.specs.declared.route.RouteNet.{RouteNet}
use Rattle.fpga_types.specs.declared.route.RouteText.{RouteText}
use Rattle.fpga_text.specs.Bytes.{Bytes}
use Rattle.fpga_route.specs.Forms.{kind_word, label_word}

-- the text with blanks before it, in six places
abbrev pub in_six_places : Bytes → Bytes
in_six_places text = replicate (6 - length text) 32 ++ text

-- an element line
abbrev pub printed_elem : Elem → Bytes
printed_elem e =
    in_six_places (kind_word e.kind) ++ codes " (" ++ decimal e.x ++ codes "," ++ decimal e.y
    ++ codes ")  " ++ label_word e.label ++ codes " " ++ decimal e.number ++ codes "  \n"

-- what stands before the name of a net
abbrev pub before_name : ℕ → Bytes
before_name k = codes "\n\nNet " ++ decimal k ++ codes " ("

-- what follows the name of a net
abbrev pub after_name : Bool → Bytes
after_name true = codes "): global net connecting:\n\n"
after_name false = codes ")\n\n"

-- a kept line
abbrev pub printed_kept : Bytes → Bytes
printed_kept line = line ++ codes "\n"

-- the lines of a net: those of its elements, or the kept ones
abbrev pub printed_lines : Bool → RouteNet → Bytes
printed_lines true net = flat_map printed_kept net.kept
printed_lines false net = flat_map printed_elem net.elems

-- the Net line of a net, from the newlines before it on, and the empty line behind it
abbrev pub printed_net_line : RouteNet → Bytes
printed_net_line net = before_name net.k ++ (net.name ++ after_name net.global)

-- the lines of a net, by what it is
abbrev pub printed_own : RouteNet → Bytes
printed_own net = printed_lines net.global net

-- a net
abbrev pub printed_net : RouteNet → Bytes
printed_net net = printed_net_line net ++ printed_own net

-- the two head lines
abbrev pub printed_head : Size → Bytes
printed_head grid =
    codes "Array size: " ++ decimal grid.nx ++ codes " x " ++ decimal grid.ny
    ++ codes " logic blocks.\n\nRouting:"

-- the nets, and the newline at the end
abbrev pub printed_body : RouteText → Bytes
printed_body route = flat_map printed_net route.nets ++ codes "\n"

-- a route
abbrev pub printed : RouteText → Bytes
printed route = printed_head route.grid ++ printed_body route
