use Rattle.std.proofs.Common.{◌≡◌, ◌∙◌, [], sym, ap, take}
use Rattle.desk_io.proofs.WritingLaws.{after_append-nil}
use Rattle.desk_io.proofs.block_writer.BlockWriter.flush.Goals as goal

pub returns-then-self-eq0-clause-ok : goal.returns-then-self-eq0-clause-ok
returns-then-self-eq0-clause-ok g c =
    let none : c.args.self.now ≡ [] = sym c.self.view_is
    ∙ ap (λ n. take n c.self.inside.block) c.if-self-eq0.true in
    rw none (sym (after_append-nil _))
