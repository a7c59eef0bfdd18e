-- How many bytes a proof may have, as a number: 2 GiB.
use Rattle.std.proofs.Common.{◌≡◌, refl}
use Rattle.run_outcome.specs.declared.text_file.TheConstants.{PROOF_BYTES}

pub proofs : PROOF_BYTES ≡ 2147483648
proofs = refl
