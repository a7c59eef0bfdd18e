-- the tracks of the nets so far stand in the line
use Rattle.std.proofs.Common.{◌≡◌, ◌++◌, string_bytes, take}
use Rattle.std.specs.Prelude.{codes, flat_map}
use Rattle.rows.specs.Tracks.{net_tracks}
use Rattle.rows.proofs.problems.encodings.decoded.tracks_line.Given as goal

abbrev pub invariant-loop-net : goal.invariant-loop-net
invariant-loop-net l =
    string_bytes l.line ≡ codes "tracks" ++ flat_map net_tracks (take l.net-index l.net-items)
