use Rattle.std.proofs.Common.{[], sym}
use Rattle.desk_io.proofs.WritingLaws.{after_append-nil, flushes-then-appends}
use Rattle.desk_io.proofs.block_writer.BlockWriter.write.Goals as goal

pub returns-then-text-self : goal.returns-then-text-self
returns-then-text-self g c =
    record { sent = []; split = sym c.put_behind.ensures; passed = sym (after_append-nil _) }

pub returns : goal.returns
returns g c =
    flushes-then-appends _ _ _ _ _ c.append.result c.in_ok-flush.ensures.ok
    c.in_ok-flush.ensures.empty c.append.ensures.ok c.append.ensures.err
