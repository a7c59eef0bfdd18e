-- The tracks of a route, as they are printed.
use Rattle.std.specs.Prelude.{[], ◌++◌, codes, decimal, flat_map, if◌then◌else◌}
use Rattle.fpga_text.specs.Bytes.{Bytes}
use Rattle.fpga_types.specs.Kinds.{is_channel}
use Rattle.fpga_types.specs.declared.route.Elem.{Elem}
use Rattle.fpga_types.specs.declared.route.RouteNet.{RouteNet}
use Rattle.fpga_types.specs.declared.route.RouteText.{RouteText}

-- the track of a channel line, behind a blank; nothing of another line
abbrev pub elem_track : Elem → Bytes
elem_track e = if is_channel e.kind then codes " " ++ decimal e.number else []

-- the tracks of the channel lines of a net, in order
abbrev pub net_tracks : RouteNet → Bytes
net_tracks net = flat_map elem_track net.elems

-- the tracks of all channel lines, in order
abbrev pub tracks_text : RouteText → Bytes
tracks_text route = codes "tracks" ++ flat_map net_tracks route.nets
