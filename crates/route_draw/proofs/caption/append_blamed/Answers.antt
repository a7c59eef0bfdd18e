use Rattle.std.proofs.Common.{ℕ, ◌++◌, ap, ◌∙◌}
use Rattle.std.specs.Prelude.{string_bytes}
use Rattle.route_draw.specs.Caption.{blamed_said}
use Rattle.route_draw.proofs.caption.append_blamed.Goals as goal

pub returns : goal.returns
returns c = rw c.in-Blamed.is
    (c.in_ok-append_blamed_count.ensures
    ∙ ap (λ (n : ℕ). string_bytes c.args.out.now ++ blamed_said n) c.blamed_count.ensures)
