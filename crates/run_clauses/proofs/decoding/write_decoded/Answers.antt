use Rattle.std.proofs.Common.{◌≡◌, ◌∙◌, subst, inl, inr, refl}
use Rattle.desk_io.specs.Files.{Bytes}
use Rattle.desk_io.specs.WholeFile.{FailsToWrite, after_writing}
use Rattle.fpga_route.specs.Printed.{printed}
use Rattle.route_sweep.specs.declared.found.FileSlot.TheVariants.{Route}
use Rattle.run_outcome.specs.declared.slot.Slot.TheVariants.{File}
use Rattle.run_clauses.proofs.decoding.write_decoded.Goals as goal

pub returns-in_default-write_file : goal.returns-in_default-write_file
returns-in_default-write_file g c =
    let before = g.S.Shelf.state c.args.shelf.now in
    let now = g.S.Shelf.state c.write_file.new.shelf in
    let fails = subst (λ (name : Bytes). FailsToWrite before name (printed c.args.found.now) now)
    (c.as_str.ensures.value ∙ c.in-Ok.ensures) c.in_default-write_file.ensures.err in
    inr (inr (File Route, inl (refl, fails), refl))

pub returns : goal.returns
returns g c =
    let before = g.S.Shelf.state c.args.shelf.now in
    let now = g.S.Shelf.state c.write_file.new.shelf in
    let written = subst (λ (name : Bytes). now ≡ after_writing before name
    (printed c.args.found.now)) (c.as_str.ensures.value ∙ c.in-Ok.ensures)
    c.in-Ok-write_file.ensures.ok in
    inr (inl (refl, written))
