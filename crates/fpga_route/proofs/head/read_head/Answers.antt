use Rattle.std.proofs.Common.{◌∷◌, refl, sym, ap, ◌∙◌}
use Rattle.fpga_text.proofs.ReadingLemmas.{IsTaken, next_line-taken, next_line-past}
use Rattle.fpga_route.proofs.FaultLemmas.{refused-array, refused-empty, refused-short}
use Rattle.fpga_route.proofs.head.read_head.Goals as goal
use Rattle.fpga_route.proofs.head.read_head.Goals.{In-Some, In-Some-next_line}

-- the first line was taken
first_taken : (c : In-Some) → IsTaken c.args.lines.now c.next_line.new.self c.in-Some.first
first_taken c =
    next_line-taken c.args.lines.now c.next_line.new.self c.in-Some.first c.in-Some.ensures.line
    c.in-Some.ensures.after

-- and so was the second
second_taken : (c : In-Some-next_line)
    → IsTaken c.next_line.new.self c.next_line-2.new.self c.in-Some-next_line.second
second_taken c =
    next_line-taken c.next_line.new.self c.next_line-2.new.self c.in-Some-next_line.second
    c.in-Some-next_line.ensures.line c.in-Some-next_line.ensures.after

pub returns-in_default-clause-err : goal.returns-in_default-clause-err
returns-in_default-clause-err c =
    let past = next_line-past c.args.lines.now c.next_line.new.self c.in_default.ensures.line
    c.in_default.ensures.after in
    rw (c.missing_line.ensures, past.taken, past.ahead) (refused-empty c.args.lines.now.total)

pub returns-in-Err-clause-err : goal.returns-in-Err-clause-err
returns-in-Err-clause-err c =
    let taken = first_taken (goal.at.returns-in-Err-clause-err c).In-Some in
    rw taken.ahead (refused-array c.in-Some.first c.next_line.new.self.ahead c.args.lines.now.total
    _ c.in-Err.ensures.err)

pub returns-in_default-next_line-clause-err : goal.returns-in_default-next_line-clause-err
returns-in_default-next_line-clause-err c =
    let taken = first_taken (goal.at.returns-in_default-next_line-clause-err c).In-Some in
    let past = next_line-past c.next_line.new.self c.next_line-2.new.self
    c.in_default-next_line.ensures.line c.in_default-next_line.ensures.after in
    rw (
      c.missing_line-in_default-next_line.ensures,
      past.taken,
      taken.total,
      taken.ahead,
      past.ahead,
    ) (refused-short c.in-Some.first c.args.lines.now.total c.in-Ok.ensures.clean)

pub returns-clause-ok : goal.returns-clause-ok
returns-clause-ok c =
    let taken = first_taken (goal.at.returns-clause-ok c).In-Some in
    let next = second_taken (goal.at.returns-clause-ok c).In-Some-next_line in
    record {
      first = c.in-Some.first;
      second = c.in-Some-next_line.second;
      ahead = taken.ahead ∙ ap (λ ls. c.in-Some.first ∷ ls) next.ahead;
      total = next.total ∙ taken.total;
      clean = c.in-Ok.ensures.clean;
      grid = c.in-Ok.ensures.grid;
      routing = rw (sym c.if-not-is_routing.ensures) refl;
      line = c.number-line.ensures;
    }
