-- Bands over the cells of a cut, one cell more; and the group that they make.
use Rattle.std.proofs.Common.{◌≡◌, ℕ, ◌+◌, List, [], ◌∷◌, ◌++◌, Option, Some, sym, ap, subst, ◌∙◌, append_assoc}
use Rattle.std.specs.Prelude.{IsTrue, codes}
use Rattle.fpga_types.specs.CellNumbers.{cell_count, number_of_cell}
use Rattle.fpga_types.specs.Fabric.{is_cell}
use Rattle.fpga_types.specs.Size.{Size}
use Rattle.fpga_types.specs.declared.grid.Cell.{Cell}
use Rattle.route_bound.specs.declared.range.CornerRange.{CornerRange}
use Rattle.route_draw.specs.Cut.{AreBands, CutSaid, IsBand}
use Rattle.route_draw.specs.Parts.{Adds}
use Rattle.route_draw.specs.Picture.{IsCutIf, group}
use Rattle.route_draw.proofs.CrowdLemmas.{first-more}
use Rattle.route_draw.proofs.PartLemmas.{parts-more}

-- one cell more, with a band over it if it is one of the cut
pub bands-next : (grid : Size) (range : CornerRange) (count : ℕ) (cell : Cell)
    (old mid new : List ℕ) → IsTrue (is_cell grid cell) → number_of_cell grid cell ≡ count
    → Adds (IsBand range cell) mid new → Adds (AreBands grid range count) old mid
    → Adds (AreBands grid range (count + 1)) old new
bands-next grid range count cell old mid new within number next front = record {
  part = front.part ++ next.part;
  is_part = record {
    cells = front.is_part.cells ++ cell ∷ [];
    are_first = first-more grid count front.is_part.cells cell within number
        front.is_part.are_first;
    are_bands = parts-more (IsBand range) front.is_part.cells cell front.part next.part
        front.is_part.are_bands next.is_part;
  };
  added = next.added ∙ ap (λ (t : List ℕ). t ++ next.part) front.added
      ∙ append_assoc old front.part next.part;
}

-- the bands alone
pub bands-alone : (grid : Size) (range : CornerRange) (count : ℕ) (none new : List ℕ) → none ≡ []
    → Adds (AreBands grid range count) none new → AreBands grid range count new
bands-alone grid range count none new is_none bands =
    subst (AreBands grid range count)
    (sym (bands.added ∙ ap (λ (t : List ℕ). t ++ bands.part) is_none)) bands.is_part

-- the group of a cut was added
pub cut-added : (grid : Size) (cut : Option CutSaid) (range : CornerRange)
    (line colour bands made old new : List ℕ)
    → cut ≡ Some (record { range = range; line = line }) → bands ≡ made
    → AreBands grid range (cell_count grid) made
    → new ≡ old ++ group [] (codes "cut\" fill-opacity=\".4\" fill=\"") colour line bands
    → Adds (IsCutIf grid cut) old new
cut-added grid cut range line colour bands made old new is same are added = record {
  part = group [] (codes "cut\" fill-opacity=\".4\" fill=\"") colour line bands;
  is_part = subst (λ (c : Option CutSaid). IsCutIf grid c
      (group [] (codes "cut\" fill-opacity=\".4\" fill=\"") colour line bands)) (sym is) (
        colour,
        (
          made,
          are,
          ap (group [] (codes "cut\" fill-opacity=\".4\" fill=\"") colour line) same,
        ),
      );
  added = added;
}
