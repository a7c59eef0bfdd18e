-- The limits of what is read and routed, each as its number.
use Rattle.std.proofs.Common.{◌≡◌, refl}
use Rattle.fpga_types.specs.declared.limits.TheConstants.{CLASS_LIMIT, NET_LIMIT, PAD_LIMIT, PIN_LIMIT, REACH_LIMIT, SHARE_LIMIT, SIDE_LIMIT, SLOT_LIMIT, WIDTH_LIMIT}

pub side : SIDE_LIMIT ≡ 100
side = refl

pub nets : NET_LIMIT ≡ 65535
nets = refl

pub slots : SLOT_LIMIT ≡ 200000
slots = refl

pub width : WIDTH_LIMIT ≡ 64
width = refl

pub reach : REACH_LIMIT ≡ 64
reach = refl

pub pads : PAD_LIMIT ≡ 16
pads = refl

pub pins : PIN_LIMIT ≡ 64
pins = refl

pub classes : CLASS_LIMIT ≡ 63
classes = refl

-- in millionths
pub share : SHARE_LIMIT ≡ 1000000000000000
share = refl
