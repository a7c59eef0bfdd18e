use Rattle.std.proofs.Common.{◌≡◌, refl}
use Rattle.desk_io.specs.declared.read.ReadStop.{ReadStop}
use Rattle.desk_io.specs.declared.read.ReadStop.TheVariants.{Fault, TooLong, Memory as NoRoom}
use Rattle.rows.specs.Unread.{IsUnread}
use Rattle.rows.specs.declared.stop.RowsError.TheVariants.{File}
use Rattle.rows.proofs.text.text.Goals as goal

pub returns-in-Err-clause-unread : goal.returns-in-Err-clause-unread
returns-in-Err-clause-unread g c = go c.in-Err.stop refl
  where
    go : (stop : ReadStop) → c.in-Err.stop ≡ stop →
        IsUnread (g.D.Desk.state c.args.desk.now).files (g.D.Desk.state c.args.desk.now).faults
        (g.D.Desk.state c.read_file.new.desk) c.args.name.now (File stop)
    go Fault is = (c.in-Err.ensures.fault_on (rw is refl), c.in-Err.ensures.fault (rw is refl))
    go TooLong is = (c.in-Err.ensures.too_long (rw is refl), c.in-Err.ensures.no_fault (λ e. cc))
    go NoRoom is = c.in-Err.ensures.no_fault (λ e. cc)
