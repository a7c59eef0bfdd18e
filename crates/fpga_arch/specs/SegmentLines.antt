-- What a segment line says, pair by pair.
use Rattle.std.specs.Prelude.{◌||◌}
use Rattle.fpga_arch.specs.declared.segment_line.SegmentSaid.{SegmentSaid}
use Rattle.fpga_arch.specs.Segments.{Pair, is_length, is_long, is_sparse}

-- what pairs say, and one more
abbrev pub with_pair : SegmentSaid → Pair → SegmentSaid
with_pair said pair = record {
  has_length = said.has_length || is_length pair;
  is_long = said.is_long || is_long pair;
  is_sparse = said.is_sparse || is_sparse pair;
}
