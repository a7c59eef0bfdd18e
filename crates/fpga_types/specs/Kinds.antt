-- What the kinds and labels of elements are, and which may stand together.
use Rattle.std.specs.Prelude.{Bool, true, false, ◌||◌}
use Rattle.fpga_types.specs.declared.route.ElemKind.{ElemKind}
use Rattle.fpga_types.specs.declared.route.ElemKind.TheVariants.{Source, Opin, ChanX, ChanY, Ipin, Sink}
use Rattle.fpga_types.specs.declared.route.Label.{Label}
use Rattle.fpga_types.specs.declared.route.Label.TheVariants.{Class, Pin, Pad, Track}

-- the kind is SOURCE
abbrev pub is_source : ElemKind → Bool
is_source Source = true
is_source _ = false

-- the kind is OPIN
abbrev pub is_opin : ElemKind → Bool
is_opin Opin = true
is_opin _ = false

-- the kind is IPIN
abbrev pub is_ipin : ElemKind → Bool
is_ipin Ipin = true
is_ipin _ = false

-- the kind is SINK
abbrev pub is_sink : ElemKind → Bool
is_sink Sink = true
is_sink _ = false

-- the kind is CHANX or CHANY
abbrev pub is_channel : ElemKind → Bool
is_channel ChanX = true
is_channel ChanY = true
is_channel _ = false

-- the kind is OPIN or IPIN
abbrev pub is_pin : ElemKind → Bool
is_pin k = is_opin k || is_ipin k

-- they are one kind
abbrev pub same_kind : ElemKind → ElemKind → Bool
same_kind Source k = is_source k
same_kind Opin k = is_opin k
same_kind ChanX ChanX = true
same_kind ChanY ChanY = true
same_kind Ipin k = is_ipin k
same_kind Sink k = is_sink k
same_kind _ _ = false

-- they are one label
abbrev pub same_label : Label → Label → Bool
same_label Class Class = true
same_label Pin Pin = true
same_label Pad Pad = true
same_label Track Track = true
same_label _ _ = false

-- an element of this kind takes this label
abbrev pub takes : ElemKind → Label → Bool
takes Source Class = true
takes Source Pad = true
takes Sink Class = true
takes Sink Pad = true
takes Opin Pin = true
takes Opin Pad = true
takes Ipin Pin = true
takes Ipin Pad = true
takes ChanX Track = true
takes ChanY Track = true
takes _ _ = false

-- the kind may stand after this one
abbrev pub may_follow : ElemKind → ElemKind → Bool
may_follow Source next = is_opin next
may_follow Opin next = is_channel next
may_follow ChanX next = is_channel next || is_ipin next
may_follow ChanY next = is_channel next || is_ipin next
may_follow Ipin next = is_sink next
may_follow Sink next = is_source next || is_opin next || is_channel next
