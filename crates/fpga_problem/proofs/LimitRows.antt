-- How many bytes a text may have, as a number: 64 MiB.
use Rattle.std.proofs.Common.{◌≡◌, refl}
use Rattle.fpga_problem.specs.declared.source.TheConstants.{TEXT_BYTES}

pub texts : TEXT_BYTES ≡ 67108864
texts = refl
