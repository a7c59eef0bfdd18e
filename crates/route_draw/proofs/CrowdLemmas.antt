-- Marks on crowded cells, one cell more; and the last line of the caption.
use Rattle.std.proofs.Common.{◌≡◌, ℕ, suc, ◌+◌, Bool, true, false, List, [], ◌∷◌, ◌++◌, length, length-append, refl, sym, ap, ap₂, subst, ◌∙◌, arith, append_assoc, zero-add}
use Rattle.std.specs.Prelude.{IsTrue, filter, nat_lt, if◌then◌else◌}
use Rattle.std.specs.List.{range_with_len}
use Rattle.std.proofs.lemmas.List.{map-append}
use Rattle.std.proofs.lemmas.List.Elements.{All-push, filter-append}
use Rattle.list_laws.proofs.Ranges.{range-push}
use Rattle.fpga_types.specs.CellNumbers.{number_of_cell}
use Rattle.fpga_types.specs.Fabric.{is_cell}
use Rattle.fpga_types.specs.Size.{Size}
use Rattle.fpga_types.specs.declared.grid.Cell.{Cell}
use Rattle.route_draw.specs.Crowded.{AddsMarks, AreFirstCells, IsMark, IsMarkIf, is_crowded}
use Rattle.route_draw.specs.Parts.{Adds}
use Rattle.route_draw.proofs.PartLemmas.{parts-more}

-- one cell more of the array
pub first-more : (grid : Size) (count : ℕ) (cells : List Cell) (cell : Cell)
    → IsTrue (is_cell grid cell) → number_of_cell grid cell ≡ count → AreFirstCells grid count cells
    → AreFirstCells grid (count + 1) (cells ++ cell ∷ [])
first-more grid count cells cell within number first = record {
  within = All-push (λ c. IsTrue (is_cell grid c)) cells cell first.within within;
  each_once = map-append (number_of_cell grid) cells (cell ∷ [])
      ∙ ap₂ (λ (a b : List ℕ). a ++ b) first.each_once
      (ap (λ (n : ℕ). n ∷ []) (number ∙ sym (zero-add count)))
      ∙ sym (range-push 0 count)
      ∙ ap (range_with_len 0) (let e : suc count ≡ count + 1 = omega arith in e);
}

-- one cell more, with its mark if it is crowded
pub marks-next : (grid : Size) (wants : Cell → ℕ) (width count crowded here want : ℕ) (cell : Cell)
    (old mid new : List ℕ) → IsTrue (is_cell grid cell) → number_of_cell grid cell ≡ count
    → want ≡ wants cell → here ≡ (if nat_lt width want then 1 else 0)
    → Adds (IsMarkIf (nat_lt width want) cell want width) mid new
    → AddsMarks grid wants width count crowded old mid
    → AddsMarks grid wants width (count + 1) (crowded + here) old new
marks-next grid wants width count crowded here want cell old mid new within number is counts next
    front = record {
      part = front.part ++ next.part;
      is_part = record {
        cells = front.is_part.cells ++ cell ∷ [];
        are_first = first-more grid count front.is_part.cells cell within number
            front.is_part.are_first;
        are_marks = parts-more (IsMark wants width) front.is_part.cells cell front.part next.part
            front.is_part.are_marks
            (subst (λ (n : ℕ). IsMarkIf (nat_lt width n) cell n width next.part) is next.is_part);
        counted = ap₂ (λ (a b : ℕ). a + b) front.is_part.counted
            (counts ∙ ap (λ (n : ℕ). if nat_lt width n then 1 else 0) is
            ∙ one (nat_lt width (wants cell)) refl)
            ∙ sym (length-append (filter (is_crowded wants width) front.is_part.cells)
            (filter (is_crowded wants width) (cell ∷ [])))
            ∙ sym (ap length
            (filter-append (is_crowded wants width) front.is_part.cells (cell ∷ [])));
      };
      added = next.added ∙ ap (λ (t : List ℕ). t ++ next.part) front.added
          ∙ append_assoc old front.part next.part;
    }
  where
    one : (b : Bool) → nat_lt width (wants cell) ≡ b
        → (if b then 1 else 0) ≡ length (filter (is_crowded wants width) (cell ∷ []))
    one true e = rw e refl
    one false e = rw e refl

-- four texts were appended
pub four-joined : (s0 s1 s2 s3 s4 a b c d : List ℕ) → s1 ≡ s0 ++ a → s2 ≡ s1 ++ b → s3 ≡ s2 ++ c
    → s4 ≡ s3 ++ d → s4 ≡ s0 ++ (a ++ b ++ (c ++ d))
four-joined s0 s1 s2 s3 s4 a b c d e1 e2 e3 e4 =
    e4 ∙ ap (λ (t : List ℕ). t ++ d) (e3 ∙ ap (λ (t : List ℕ). t ++ c)
    (e2 ∙ ap (λ (t : List ℕ). t ++ b) e1))
    ∙ append_assoc (s0 ++ a ++ b) c d
    ∙ ap (λ (t : List ℕ). t ++ (c ++ d)) (append_assoc s0 a b)
    ∙ append_assoc s0 (a ++ b) (c ++ d)
