-- What each part of a picture adds to its text.
use Rattle.std.proofs.Common.{◌≡◌, ℕ, Bool, true, false, List, [], ◌++◌, Option, length, ap, ap₂, sym, subst, ◌∙◌, refl, append_assoc}
use Rattle.std.specs.Prelude.{codes}
use Rattle.fpga_types.specs.CellNumbers.{cell_count}
use Rattle.fpga_types.specs.Problem.{RoutingProblem}
use Rattle.fpga_types.specs.declared.grid.Cell.{Cell}
use Rattle.fpga_types.specs.declared.netlist.Block.{Block}
use Rattle.fpga_types.specs.declared.netlist.Net.{Net}
use Rattle.fpga_types.specs.declared.route.Elem.{Elem}
use Rattle.fpga_types.specs.declared.route.RouteNet.{RouteNet}
use Rattle.route_draw.specs.Blamed.{Blame, mark_of}
use Rattle.route_draw.specs.Caption.{AreCounts, IsKey, blamed_counted, counted, global_count, line_opening}
use Rattle.route_draw.specs.Colour.{colour_of}
use Rattle.route_draw.specs.Crowded.{AddsMarks, AreCrowded, AreMarks}
use Rattle.route_draw.specs.Cut.{CutSaid}
use Rattle.route_draw.specs.Label.{IsLabelled}
use Rattle.route_draw.specs.Needs.{AreNeeds}
use Rattle.route_draw.specs.Parts.{Adds, AreParts}
use Rattle.route_draw.specs.Picture.{IsBlock, IsBody, IsCutIf, IsGlobal, IsGlobalIf, IsPictureOf, IsRouted, IsRoutedUnless, block_class, group}
use Rattle.route_draw.specs.Ruler.{AreRulers}
use Rattle.route_draw.specs.Wires.{AreLanes, AreWires, LanesOf, Layout}

pub block-added : (block : Block) (class name drawn made old new : List ℕ) →
    class ≡ block_class block.kind → name ≡ block.name → drawn ≡ made → IsLabelled block.name made →
    new ≡ old ++ group [] class [] name drawn → Adds (IsBlock block) old new
block-added block class name drawn made old new kind named is labelled added = record {
  part = group [] class [] name drawn;
  is_part = (
    drawn,
    subst (IsLabelled block.name) (sym is) labelled,
    ap₂ (λ (c n : List ℕ). group [] c [] n drawn) kind named,
  );
  added = added;
}

pub global-added : (blame : Blame) (net : Net) (mark name drawn old new : List ℕ) →
    net.global ≡ true → name ≡ net.name → mark ≡ mark_of blame name →
    new ≡ old ++ group mark (codes "g") [] name drawn → Adds (IsGlobal blame net) old new
global-added blame net mark name drawn old new global named marked added = record {
  part = group mark (codes "g") [] name drawn;
  is_part = subst (λ (b : Bool). IsGlobalIf b (mark_of blame net.name) net.name
      (group mark (codes "g") [] name drawn)) (sym global) (
        drawn,
        ap₂ (λ (m n : List ℕ). group m (codes "g") [] n drawn)
            (marked ∙ ap (mark_of blame) named) named,
      );
  added = added;
}

pub net-added : (layout : Layout) (blame : Blame) (net : RouteNet) (elems : List Elem)
    (number : ℕ) (mark colour name drawn made old new : List ℕ) → net.global ≡ false →
    name ≡ net.name → elems ≡ net.elems → mark ≡ mark_of blame name → colour ≡ colour_of number →
    drawn ≡ made → AreWires layout elems made →
    new ≡ old ++ group mark (codes "n\" stroke=\"") colour name drawn →
    Adds (IsRouted layout blame net) old new
net-added layout blame net elems number mark colour name drawn made old new other named lined marked
    coloured is wires added =
    record {
      part = group mark (codes "n\" stroke=\"") colour name drawn;
      is_part = subst
          (λ (b : Bool). IsRoutedUnless b layout (mark_of blame net.name) net
          (group mark (codes "n\" stroke=\"") colour name drawn)) (sym other) (
            number,
            (
              drawn,
              subst (λ (t : List ℕ). AreWires layout net.elems t) (sym is)
                  (subst (λ (es : List Elem). AreWires layout es made) lined wires),
              ap₂ (λ (m n : List ℕ). group m (codes "n\" stroke=\"") colour n drawn)
                  (marked ∙ ap (mark_of blame) named) named
                  ∙ ap (λ (c : List ℕ). group (mark_of blame net.name) (codes "n\" stroke=\"") c
                  net.name drawn) coloured,
            ),
          );
      added = added;
    }

pub counts-added : (problem : RoutingProblem) (blame : Blame) (nets : List Net)
    (blocks width y : ℕ) (s0 s1 s2 s3 s4 : List ℕ) → nets ≡ problem.netlist.nets →
    blocks ≡ length problem.netlist.blocks → s1 ≡ s0 ++ line_opening y →
    s2 ≡ s1 ++ counted (length nets) (global_count nets) blocks width →
    s3 ≡ s2 ++ blamed_counted blame nets → s4 ≡ s3 ++ codes "</text>\n" →
    Adds (AreCounts problem width blame) s0 s4
counts-added problem blame nets blocks width y s0 s1 s2 s3 s4 are_nets are_blocks e1 e2 e3 e4 =
    record {
      part = line_opening y ++ counted (length nets) (global_count nets) blocks width
          ++ blamed_counted blame nets ++ codes "</text>\n";
      is_part = (
        y,
        ap₂ (λ (ns : List Net) (b : ℕ).
            line_opening y ++ counted (length ns) (global_count ns) b width
            ++ blamed_counted blame ns ++ codes "</text>\n") are_nets are_blocks,
      );
      added = e4 ∙ ap (λ (t : List ℕ). t ++ codes "</text>\n")
          (e3 ∙ ap (λ (t : List ℕ). t ++ blamed_counted blame nets)
          (e2 ∙ ap (λ (t : List ℕ). t ++ counted (length nets) (global_count nets) blocks width) e1
          ∙ append_assoc s0 (line_opening y)
          (counted (length nets) (global_count nets) blocks width))
          ∙ append_assoc s0
          (line_opening y ++ counted (length nets) (global_count nets) blocks width)
          (blamed_counted blame nets))
          ∙ append_assoc s0
          (line_opening y ++ counted (length nets) (global_count nets) blocks width
          ++ blamed_counted blame nets) (codes "</text>\n");
    }

pub body-added : (problem : RoutingProblem) (layout : Layout) (blame : Blame) (blocks : List Block)
    (globals : List Net) (nets : List RouteNet) (old a b new : List ℕ) →
    blocks ≡ problem.netlist.blocks → globals ≡ problem.netlist.nets → nets ≡ problem.route.nets →
    Adds (AreParts IsBlock blocks) old a → Adds (AreParts (IsGlobal blame) globals) a b →
    Adds (AreParts (IsRouted layout blame) nets) b new → Adds (IsBody problem layout blame) old new
body-added problem layout blame blocks globals nets old a b new all_blocks all_globals all_nets
    first next last =
    record {
      part = first.part ++ next.part ++ last.part;
      is_part = record {
        blocks = first.part;
        globals = next.part;
        nets = last.part;
        are_blocks = subst (λ (xs : List Block). AreParts IsBlock xs first.part) all_blocks
            first.is_part;
        are_globals = subst (λ (xs : List Net). AreParts (IsGlobal blame) xs next.part) all_globals
            next.is_part;
        are_nets = subst (λ (xs : List RouteNet). AreParts (IsRouted layout blame) xs last.part)
            all_nets last.is_part;
        text_is = refl;
      };
      added = last.added ∙ ap (λ (t : List ℕ). t ++ last.part)
          (next.added ∙ ap (λ (t : List ℕ). t ++ next.part) first.added
          ∙ append_assoc old first.part next.part)
          ∙ append_assoc old (first.part ++ next.part) last.part;
    }

pub picture-made : (problem : RoutingProblem) (layout : Layout) (blame : Blame)
    (shown : Option CutSaid) (head marks key : List ℕ) (s s0 s1 s2 s3 s4 s5 s6 s7 : List ℕ) →
    AreCrowded layout marks key → s ≡ codes "<svg " ++ head →
    Adds (IsCutIf layout.grid shown) s s0 → Adds (IsBody problem layout blame) s0 s1 →
    s2 ≡ s1 ++ marks → s3 ≡ s2 ++ codes "</g>\n" → Adds (AreRulers layout.grid) s3 s4 →
    Adds (AreCounts problem layout.width blame) s4 s5 → s6 ≡ s5 ++ key →
    s7 ≡ s6 ++ codes "</svg>\n" → IsPictureOf problem layout blame shown s7
picture-made problem layout blame shown head marks key s s0 s1 s2 s3 s4 s5 s6 s7 crowded e cut body
    e2 e3 rulers line e6 e7 =
    record {
      head = head;
      cut = cut.part;
      body = body.part;
      marks = marks;
      rulers = rulers.part;
      line = line.part;
      key = key;
      is_cut = cut.is_part;
      is_body = body.is_part;
      are_crowded = crowded;
      are_rulers = rulers.is_part;
      are_counts = line.is_part;
      text_is = e7 ∙ ap (λ (t : List ℕ). t ++ codes "</svg>\n")
          (e6 ∙ ap (λ (t : List ℕ). t ++ key)
          (line.added ∙ ap (λ (t : List ℕ). t ++ line.part)
          (rulers.added ∙ ap (λ (t : List ℕ). t ++ rulers.part)
          (e3 ∙ ap (λ (t : List ℕ). t ++ codes "</g>\n")
          (e2 ∙ ap (λ (t : List ℕ). t ++ marks)
          (body.added ∙ ap (λ (t : List ℕ). t ++ body.part)
          (cut.added ∙ ap (λ (t : List ℕ). t ++ cut.part) e)))))));
    }

-- the marks on the cells of a route, by a table of what they want, and the key to them
pub marks-said : (layout : Layout) (width crowded : ℕ) (needs : List ℕ) (lanes : LanesOf)
    (none text key : List ℕ) → needs ≡ lanes.needs → width ≡ layout.width → none ≡ []
    → AreLanes layout lanes
    → ((wants : Cell → ℕ) → AreNeeds layout.grid wants needs
    → AddsMarks layout.grid wants width (cell_count layout.grid) crowded none text)
    → IsKey crowded key → AreCrowded layout text key
marks-said layout width crowded needs lanes none text key are_needs is_width is_none are adds keyed
    =
    let marked : AddsMarks layout.grid layout.wants layout.width (cell_count layout.grid) crowded
    none text =
    subst (λ (w : ℕ).
    AddsMarks layout.grid layout.wants w (cell_count layout.grid) crowded none text) is_width
    (adds layout.wants (subst (λ (ns : List ℕ). AreNeeds layout.grid layout.wants ns)
    (sym are_needs) are.needs)) in
    record {
      crowded = crowded;
      are_marks = subst
          (AreMarks layout.grid layout.wants layout.width (cell_count layout.grid) crowded)
          (sym (marked.added ∙ ap (λ (t : List ℕ). t ++ marked.part) is_none)) marked.is_part;
      is_key = keyed;
    }
