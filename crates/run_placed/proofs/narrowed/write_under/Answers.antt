use Rattle.std.proofs.Common.{◌≡◌, ◌∙◌, ap, subst}
use Rattle.desk_io.specs.Files.{Bytes}
use Rattle.desk_io.specs.WholeFile.{after_writing}
use Rattle.fpga_route.specs.Printed.{printed}
use Rattle.route_sweep.specs.declared.found.FileSlot.TheVariants.{Route}
use Rattle.run_placed.specs.Raised.{LeastNames, reason_files}
use Rattle.run_outcome.specs.declared.outcome.Outcome.TheVariants.{Narrowed}
use Rattle.run_outcome.specs.declared.slot.Slot.TheVariants.{File}
use Rattle.run_outcome.specs.Written.{job_file}
use Rattle.run_placed.proofs.RaisedLaws.{writes-behind}
use Rattle.run_placed.proofs.narrowed.write_under.Goals as goal

pub returns : goal.returns
returns g c =
    let before = g.S.Shelf.state c.args.shelf.now in
    let between = g.S.Shelf.state c.write_file.new.shelf in
    let text = printed c.args.at.now.found in
    let written = subst (λ (name : Bytes). between ≡ after_writing before name text)
    (c.as_str-name.ensures.value ∙ ap (λ (n : LeastNames). n.route) c.names.view_is)
    c.in-Ok.ensures.ok in
    writes-behind (Narrowed c.args.raised.now.tracks c.args.at.now.width c.args.cut)
    (job_file (File Route) c.args.names.now.route text)
    (reason_files c.args.names.now c.args.raised.now.tracks c.args.raised.now.why) before between
    (g.S.Shelf.state c.write_reason.new.shelf) c.write_reason.result written
    c.write_reason.ensures
