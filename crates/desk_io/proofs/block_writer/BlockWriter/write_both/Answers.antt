use Rattle.desk_io.proofs.WritingLaws.{fails-longer, passes-then-writes}
use Rattle.desk_io.proofs.block_writer.BlockWriter.write_both.Goals as goal

pub returns-in_default : goal.returns-in_default
returns-in_default g c =
    fails-longer c.args.self.now c.args.first.now c.args.second.now c.in_default.ensures

pub returns : goal.returns
returns g c = passes-then-writes c.args.second.now _ _ _ c.in-Ok.ensures c.write-2.ensures
