-- What a segment line says, pair by pair.
use Rattle.std.proofs.Common.{◌≡◌, Bool, List, [], ◌∷◌, drop, slice_get, Some, None, refl, sym, ap, ◌∙◌}
use Rattle.std.specs.Prelude.{◌||◌}
use Rattle.std.proofs.Math.Bool.{or_assoc, or-false}
use Rattle.std.specs.List.{list_any}
use Rattle.fpga_text.specs.Bytes.{Bytes}
use Rattle.fpga_text.specs.Words.{Words}
use Rattle.fpga_arch.specs.declared.segment_line.SegmentSaid.{SegmentSaid}
use Rattle.fpga_arch.specs.SegmentLines.{with_pair}
use Rattle.fpga_arch.specs.Segments.{Pair, is_length, is_long, is_sparse, pairs}

-- the first pair of words
pub pairs-first : (words : Words) (key : Bytes) → Some key ≡ slice_get words 0 → pairs words
    ≡ record { key = key; value = slice_get (drop 1 words) 0 } ∷ pairs (drop 1 (drop 1 words))
pairs-first [] key said = absurd (let clash : Some key ≡ None = said in cc)
pairs-first (k ∷ []) key said = let same : key ≡ k = cc in rw same refl
pairs-first (k ∷ value ∷ more) key said = let same : key ≡ k = cc in rw same refl

-- what was said so far, with what the words ahead say, is what all words say
pub record IsSaid (all : Words) (said : SegmentSaid) (ahead : Words) : Type 0 where
  pub lengths : (said.has_length || list_any is_length (pairs ahead))
      ≡ list_any is_length (pairs all)
  pub longs : (said.is_long || list_any is_long (pairs ahead)) ≡ list_any is_long (pairs all)
  pub sparses : (said.is_sparse || list_any is_sparse (pairs ahead))
      ≡ list_any is_sparse (pairs all)

module _ (test : Pair → Bool) where
  said-pair : (flag all : Bool) (pair : Pair) (before behind : List Pair)
      → before ≡ pair ∷ behind → (flag || list_any test before) ≡ all
      → ((flag || test pair) || list_any test behind) ≡ all
  said-pair flag all pair before behind is so_far =
      or_assoc flag (test pair) (list_any test behind)
      ∙ sym (ap (λ (ps : List Pair). flag || list_any test ps) is) ∙ so_far

  said-end : (flag all : Bool) (left : List Pair) → left ≡ [] → (flag || list_any test left) ≡ all
      → flag ≡ all
  said-end flag all left none so_far =
      sym (or-false flag) ∙ sym (ap (λ (ps : List Pair). flag || list_any test ps) none) ∙ so_far

-- one more pair
pub said-more : (all : Words) (said : SegmentSaid) (ahead behind : Words) (pair : Pair)
    → IsSaid all said ahead → pairs ahead ≡ pair ∷ pairs behind
    → IsSaid all (with_pair said pair) behind
said-more all said ahead behind pair so_far is = record {
  lengths = said-pair is_length said.has_length _ pair (pairs ahead) (pairs behind) is
      so_far.lengths;
  longs = said-pair is_long said.is_long _ pair (pairs ahead) (pairs behind) is so_far.longs;
  sparses = said-pair is_sparse said.is_sparse _ pair (pairs ahead) (pairs behind) is
      so_far.sparses;
}
