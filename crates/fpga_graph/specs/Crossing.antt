-- The tracks of a cell that those of another cell are joined to, where they meet.
use Rattle.std.specs.Prelude.{◌≡◌, ℕ, Option, option_map}
use Rattle.fpga_types.specs.Tracks.{mapped_track, track_across}
use Rattle.fpga_types.specs.declared.grid.Cell.{Cell}
use Rattle.fpga_graph.specs.declared.crossing.Crossing.{Crossing}
use Rattle.fpga_graph.specs.GraphOf.{GraphOf}

-- the track of the second cell that a track of the first is joined to
abbrev pub crossed_track : Crossing → ℕ → ℕ
crossed_track c t = mapped_track c.pattern c.width c.from c.to t

-- each track goes across as the switch block joins it where the cells meet, and none does where
-- they do not
abbrev pub GoesAcross : GraphOf → Cell → Cell → Option Crossing → Type 0
GoesAcross g a b crossing = (t : ℕ) → option_map (λ c. crossed_track c t) crossing
    ≡ track_across (mapped_track g.arch.pattern g.width) g.grid a b t
