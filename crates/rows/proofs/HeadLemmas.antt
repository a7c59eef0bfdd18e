-- Pieces that are appended from the right are what they are from the left.
use Rattle.std.proofs.Common.{◌≡◌, ◌++◌, ap, sym, ◌∙◌, append_assoc}
use Rattle.fpga_text.specs.Bytes.{Bytes}

pub from-left : (a b c d end : Bytes) → (a ++ (b ++ (c ++ d))) ++ end
    ≡ (((a ++ b) ++ c) ++ d) ++ end
from-left a b c d end =
    ap (λ (t : Bytes). t ++ end)
    (sym (append_assoc a b (c ++ d)) ∙ sym (append_assoc (a ++ b) c d))
