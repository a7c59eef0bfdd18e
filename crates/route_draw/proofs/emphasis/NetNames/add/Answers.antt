use Rattle.std.proofs.Common.{◌∙◌, ap}
use Rattle.std.specs.Prelude.{List, ℕ}
use Rattle.std.specs.Borrow.{Bor}
use Rattle.fpga_text.specs.Said.{has_text}
use Rattle.route_draw.proofs.NameLemmas.{bytes_of, gains-name}
use Rattle.route_draw.proofs.emphasis.NetNames.add.Goals as goal

pub returns : goal.returns
returns c = λ other.
    rw (← c.self.view_is) (ap (λ (names : List (Bor (List ℕ))). has_text (bytes_of names) other)
    c.in_ok-insert.ensures.keys ∙ gains-name c.self.inside.names.keys c.args.name other)
