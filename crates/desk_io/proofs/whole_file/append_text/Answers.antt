use Rattle.desk_io.proofs.WritingLaws.{passes-then-fails_to_flush, passes-then-flushes}
use Rattle.desk_io.proofs.whole_file.append_text.Goals as goal

pub returns-in_default-clause-err : goal.returns-in_default-clause-err
returns-in_default-clause-err g c =
    passes-then-fails_to_flush (rw c.new-writer.ensures at c.in_ok-print.ensures.written)
    c.in_default.ensures.err

pub returns-clause-ok : goal.returns-clause-ok
returns-clause-ok g c =
    passes-then-flushes (rw c.new-writer.ensures at c.in_ok-print.ensures.written)
    c.in-Ok.ensures.ok
