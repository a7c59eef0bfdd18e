use Rattle.std.proofs.Common.{◌≡◌, ◌∙◌, ◌-◌, ap, inl, inr, refl, subst}
use Rattle.desk_io.specs.Files.{Bytes}
use Rattle.desk_io.specs.WholeFile.{FailsToWrite, after_writing}
use Rattle.route_sweep.specs.declared.found.FileSlot.TheVariants.{Clauses, Log}
use Rattle.sat_text.specs.Printed.{cnf_text, log_text}
use Rattle.run_placed.specs.Raised.{LeastNames}
use Rattle.run_outcome.specs.Subject.{ShelfState}
use Rattle.run_outcome.specs.declared.slot.Slot.TheVariants.{File}
use Rattle.run_placed.proofs.narrowed.write_reason.Goals as goal

pub returns-in_default-write_file : goal.returns-in_default-write_file
returns-in_default-write_file g c =
    let fails = subst (λ (name : Bytes). FailsToWrite (g.S.Shelf.state c.args.shelf.now) name
    (cnf_text c.in-Some.found.formula.cnf) (g.S.Shelf.state c.write_file.new.shelf))
    (c.as_str-name.ensures.value ∙ ap (λ (n : LeastNames). n.clauses) c.names.view_is)
    c.in_default-write_file.ensures.err in
    rw c.in-Some.is
    (inr (File (Clauses (c.args.raised.now.tracks - 1)), inl (refl, fails), refl))

pub returns-in_default-write_file-2 : goal.returns-in_default-write_file-2
returns-in_default-write_file-2 g c =
    let written = subst (λ (name : Bytes). g.S.Shelf.state c.write_file.new.shelf
    ≡ after_writing (g.S.Shelf.state c.args.shelf.now) name
    (cnf_text c.in-Some.found.formula.cnf))
    (c.as_str-name.ensures.value ∙ ap (λ (n : LeastNames). n.clauses) c.names.view_is)
    c.in-Ok.ensures.ok in
    let named = subst (λ (name : Bytes). FailsToWrite (g.S.Shelf.state c.write_file.new.shelf) name
    (log_text c.in-Some.found.log.steps) (g.S.Shelf.state c.write_file-2.new.shelf))
    (c.as_str-name-2.ensures.value ∙ ap (λ (n : LeastNames). n.log) c.names.view_is)
    c.in_default-write_file-2.ensures.err in
    let fails = subst (λ (shelf : ShelfState). FailsToWrite shelf c.args.names.now.log
    (log_text c.in-Some.found.log.steps) (g.S.Shelf.state c.write_file-2.new.shelf)) written named in
    rw c.in-Some.is
    (inr (File (Log (c.args.raised.now.tracks - 1)), inr (inl (refl, fails)), refl))
