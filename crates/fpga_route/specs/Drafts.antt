-- The value of a route text as far as it was read.
use Rattle.std.specs.Prelude.{◌≡◌, ℕ, ◌+◌, List, [], ◌∷◌, ◌++◌, length, Option, Some, None, option_map, option_to_list}
use Rattle.fpga_types.specs.Size.{Size}
use Rattle.fpga_types.specs.declared.route.RouteNet.{RouteNet}
use Rattle.fpga_text.specs.Bytes.{Bytes}
use Rattle.fpga_text.specs.Words.{TextLine}
use Rattle.fpga_route.specs.declared.standing.Standing.{Standing}
use Rattle.fpga_route.specs.Codes.{behind}
use Rattle.fpga_route.specs.Forms.{NetWords, ElemWords, Net, Elem, Block, later_form}
use Rattle.fpga_route.specs.Standings.{context_at, later_fault}
use Rattle.fpga_route.specs.Value.{elem_of, elems_of, kept_of, net_of, own_lines, nets_of}

-- the array, the nets whose lines were all read, and the net that the next line stands in
pub record Progress : Type 0 where
  pub grid : Size
  pub closed : List RouteNet
  pub open_net : Option RouteNet

-- how many nets were begun
abbrev pub net_count : Progress → ℕ
net_count draft = length draft.closed + length (option_to_list draft.open_net)

-- where the next line stands
abbrev pub standing_of : Progress → Standing
standing_of draft =
    record {
      grid = draft.grid;
      nets = net_count draft;
      in_global =
          option_map (λ (net : RouteNet). net.global) draft.open_net;
    }

-- the nets that were begun
abbrev pub nets_begun : Progress → List RouteNet
nets_begun draft = draft.closed ++ option_to_list draft.open_net

-- the net with these lines too
abbrev pub with_lines : List TextLine → RouteNet → RouteNet
with_lines own net =
    record net { elems = net.elems ++ elems_of own; kept = net.kept ++ kept_of own }

-- the nets that were begun and those that these lines begin, with their lines
abbrev pub nets_with : Progress → List TextLine → List RouteNet
nets_with draft ahead =
    draft.closed ++ option_to_list (option_map (with_lines (own_lines ahead)) draft.open_net)
    ++ nets_of ahead

-- a Net line without a fault was taken: it closes the net before it
pub record BeginsNet (old new : Progress) (net : NetWords) (line : ℕ) : Type 0 where
  pub clean : later_fault (standing_of old) line (Net net) ≡ None
  pub is : new ≡ record old { closed = nets_begun old; open_net = Some (net_of net line []) }

-- an element line without a fault was taken: the open net has the element too
pub record AddsElem (old new : Progress) (e : ElemWords) (line : ℕ) : Type 0 where
  pub clean : later_fault (standing_of old) line (Elem e) ≡ None
  pub net : RouteNet
  pub was : old.open_net ≡ Some net
  pub is : new
      ≡ record old { open_net = Some (record net { elems = net.elems ++ elem_of line e ∷ [] }) }

-- a Block line without a fault was taken: the open net keeps its bytes too
pub record KeepsLine (old new : Progress) (raw : Bytes) (line : ℕ) : Type 0 where
  pub clean : later_fault (standing_of old) line Block ≡ None
  pub net : RouteNet
  pub was : old.open_net ≡ Some net
  pub is : new ≡ record old { open_net = Some (record net { kept = net.kept ++ raw ∷ [] }) }

-- a line without a fault was taken
pub record TakesLine (old new : Progress) (line : TextLine) : Type 0 where
  pub clean : later_fault (standing_of old) line.number (later_form line.words) ≡ None
  pub after : context_at (standing_of new)
      ≡ behind (context_at (standing_of old)) (later_form line.words)
  pub value : (more : List TextLine) → nets_with new more ≡ nets_with old (line ∷ more)
