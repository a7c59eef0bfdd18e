use Rattle.std.proofs.lemmas.Result.{err_from_is_err_and}
use Rattle.fpga_route.proofs.ReadLemmas.{reads, refused_later, sound}
use Rattle.fpga_route.proofs.read.read_route.Goals as goal

pub returns-in_err-head-clause-answers : goal.returns-in_err-head-clause-answers
returns-in_err-head-clause-answers c =
    let p = err_from_is_err_and c.from_residual.result c.from_residual.ensures.1 in
    rw (p.1, p.2) (rw c.new-lines.ensures at c.in_err-head.ensures.err)

pub returns-in_err-read_nets-clause-answers : goal.returns-in_err-read_nets-clause-answers
returns-in_err-read_nets-clause-answers c =
    let p = err_from_is_err_and c.from_residual-in_err-read_nets.result
    c.from_residual-in_err-read_nets.ensures.1 in
    rw (p.1, p.2) (refused_later c.args.bytes.now c.new-lines.result c.read_head.new.lines
    c.in_ok-head.head c.new-draft.result
    c.new-lines.ensures c.in_ok-head.ensures.ok c.new-draft.ensures c.in_err-read_nets.field-0.0
    c.in_err-read_nets.ensures.err)

pub returns-clause-answers : goal.returns-clause-answers
returns-clause-answers c =
    reads c.args.bytes.now c.new-lines.result c.read_head.new.lines c.in_ok-head.head
    c.new-draft.result
    c.new-lines.ensures c.in_ok-head.ensures.ok c.new-draft.ensures c.read_nets.new.lines
    c.read_nets.new.draft c.of.result c.line_count.result
    c.in_ok-read_nets.ensures.ok (rw c.of.ensures c.in-Ok.ensures) c.line_count.ensures.count

pub returns-clause-sound : goal.returns-clause-sound
returns-clause-sound c =
    sound c.args.bytes.now c.new-lines.result c.read_head.new.lines c.in_ok-head.head
    c.new-draft.result
    c.new-lines.ensures c.in_ok-head.ensures.ok c.new-draft.ensures c.read_nets.new.lines
    c.read_nets.new.draft c.of.result c.line_count.result
    c.in_ok-read_nets.ensures.ok (rw c.of.ensures c.in-Ok.ensures) c.line_count.ensures.count
    c.line_count.ensures.within
