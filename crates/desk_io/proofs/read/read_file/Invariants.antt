-- What was read is a front of the file, and the desk has given no more.
use Rattle.std.proofs.Common.{◌≡◌, ◌+◌, ◌-◌, ◌≤◌, take, vec_len}
use Rattle.std.specs.Option.{ForSome}
use Rattle.desk_io.specs.DeskState.{after_start, after_read}
use Rattle.desk_io.proofs.read.read_file.Given as goal

abbrev pub invariant-loop-count : goal.invariant-loop-count
invariant-loop-count g l = record {
  state : g.D.Desk.state l.desk ≡ after_read (after_start (g.D.Desk.state l.fn.desk) l.name)
      (vec_len l.bytes);
  short : vec_len l.bytes ≤ l.limit;
  front : ForSome (after_start (g.D.Desk.state l.fn.desk) l.name).left
      (λ file. l.bytes.items ≡ take (vec_len l.bytes) file);
}

abbrev pub decreases-loop-count : goal.decreases-loop-count
decreases-loop-count g l = l.limit + 1 - vec_len l.bytes
