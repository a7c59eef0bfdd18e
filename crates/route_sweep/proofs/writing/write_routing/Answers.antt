use Rattle.std.proofs.Common.{◌∙◌, ap, refl}
use Rattle.desk_io.specs.Files.{Bytes}
use Rattle.desk_io.specs.WholeFile.{after_writing}
use Rattle.fpga_route.specs.Printed.{printed}
use Rattle.route_sweep.proofs.writing.write_routing.Goals as goal

pub returns : goal.returns
returns g c = (
  c.in-Ok-write_file.ensures.ok
      ∙ ap (λ (name : Bytes). after_writing (g.S.Shelf.state c.args.shelf.now) name
      (printed c.args.found.now))
      (c.as_str.ensures.value ∙ c.in-Ok.ensures),
  c.in-Ok-write_file.ensures.known refl,
)
