use Rattle.std.proofs.Common.{Option, ◌++◌, ap, ◌∙◌}
use Rattle.std.specs.Prelude.{string_bytes}
use Rattle.fpga_text.specs.Bytes.{Bytes}
use Rattle.route_picture.specs.Said.{file_said}
use Rattle.route_picture.proofs.said.append_about.Goals as goal

pub returns : goal.returns
returns c = rw c.in-Some.is
    (c.in_ok-append_file.ensures
    ∙ ap (λ (name : Option Bytes). string_bytes c.args.out.now ++ file_said c.in-Some.file name)
    c.given_name.ensures)
