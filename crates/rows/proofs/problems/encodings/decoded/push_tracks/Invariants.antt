-- the tracks of the lines so far stand behind the text
use Rattle.std.proofs.Common.{◌≡◌, ◌++◌, string_bytes, take}
use Rattle.std.specs.Prelude.{flat_map}
use Rattle.rows.specs.Tracks.{elem_track}
use Rattle.rows.proofs.problems.encodings.decoded.push_tracks.Given as goal

abbrev pub invariant-loop-elem : goal.invariant-loop-elem
invariant-loop-elem l =
    string_bytes l.line
    ≡ string_bytes l.initial.line ++ flat_map elem_track (take l.elem-index l.elems)
