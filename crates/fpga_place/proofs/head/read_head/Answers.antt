use Rattle.std.proofs.Common.{◌∷◌, sym, ap, ◌∙◌}
use Rattle.std.proofs.lemmas.Result.{IfErr-weaker, IfOk-weaker}
use Rattle.fpga_text.specs.ArrayLine.{size_words}
use Rattle.fpga_text.specs.FirstFault.{IsFaultOf, IsRefusal}
use Rattle.fpga_text.proofs.ReadingLemmas.{IsTaken, next_line-taken, next_line-past}
use Rattle.fpga_place.specs.Codes.{Setting, lines_faults}
use Rattle.fpga_place.specs.Heads.{IsHead, SaysArray, array_fault}
use Rattle.fpga_place.proofs.FaultLemmas.{refused-array, refused-empty, refused-files, refused-short}
use Rattle.fpga_place.proofs.head.read_head.Goals as goal
use Rattle.fpga_place.proofs.head.read_head.Goals.{In-Some, In-Some-next_line}

-- the first line was taken
first_taken : (c : In-Some) → IsTaken c.args.lines.now c.next_line.new.self c.in-Some.first
first_taken c =
    next_line-taken c.args.lines.now c.next_line.new.self c.in-Some.first c.in-Some.ensures.line
    c.in-Some.ensures.after

-- and so was the second
second_taken : (c : In-Some-next_line)
    → IsTaken c.next_line.new.self c.next_line-2.new.self c.in-Some-next_line.second
second_taken c =
    next_line-taken c.next_line.new.self c.next_line-2.new.self c.in-Some-next_line.second
    c.in-Some-next_line.ensures.line c.in-Some-next_line.ensures.after

pub returns-in_default-clause-err : goal.returns-in_default-clause-err
returns-in_default-clause-err c = λ setting.
    let past = next_line-past c.args.lines.now c.next_line.new.self c.in_default.ensures.line
    c.in_default.ensures.after in
    rw (c.missing_line.ensures, past.taken, past.ahead)
    (refused-empty setting c.args.lines.now.total)

pub returns-then-not-says_files-clause-err : goal.returns-then-not-says_files-clause-err
returns-then-not-says_files-clause-err c = λ setting.
    let taken = first_taken (goal.at.returns-then-not-says_files-clause-err c).In-Some in
    rw (taken.ahead, c.at.ensures, c.number-number.ensures) (refused-files setting c.in-Some.first
    c.next_line.new.self.ahead c.args.lines.now.total
    (sym c.says_files.ensures ∙ c.if-not-says_files.true))

pub returns-in_default-next_line-clause-err : goal.returns-in_default-next_line-clause-err
returns-in_default-next_line-clause-err c = λ setting.
    let taken = first_taken (goal.at.returns-in_default-next_line-clause-err c).In-Some in
    let past = next_line-past c.next_line.new.self c.next_line-2.new.self
    c.in_default-next_line.ensures.line c.in_default-next_line.ensures.after in
    rw (
      c.missing_line-in_default-next_line.ensures,
      past.taken,
      taken.total,
      taken.ahead,
      past.ahead,
    ) (refused-short setting c.in-Some.first c.args.lines.now.total
    (sym c.says_files.ensures ∙ c.if-not-says_files.false))

pub returns-clause-err : goal.returns-clause-err
returns-clause-err c =
    let taken = first_taken (goal.at.returns-clause-err c).In-Some in
    let next = second_taken (goal.at.returns-clause-err c).In-Some-next_line in
    IfErr-weaker c.read_array.result
    (IsFaultOf (array_fault c.in-Some-next_line.second.number
    (size_words c.in-Some-next_line.second.words)))
    (λ fault. (setting : Setting)
    → IsRefusal (lines_faults setting c.args.lines.now.ahead c.args.lines.now.total) fault)
    (λ fault is setting. rw (taken.ahead, next.ahead) (refused-array setting c.in-Some.first
    c.in-Some-next_line.second c.next_line-2.new.self.ahead c.args.lines.now.total fault
    (sym c.says_files.ensures ∙ c.if-not-says_files.false) is)) c.read_array.ensures.err

pub returns-clause-ok : goal.returns-clause-ok
returns-clause-ok c =
    let taken = first_taken (goal.at.returns-clause-ok c).In-Some in
    let next = second_taken (goal.at.returns-clause-ok c).In-Some-next_line in
    IfOk-weaker c.read_array.result (SaysArray c.in-Some-next_line.second)
    (IsHead c.args.lines.now c.next_line-2.new.self)
    (λ grid says. record {
      first = c.in-Some.first;
      second = c.in-Some-next_line.second;
      ahead = taken.ahead ∙ ap (λ ls. c.in-Some.first ∷ ls) next.ahead;
      total = next.total ∙ taken.total;
      files = sym c.says_files.ensures ∙ c.if-not-says_files.false;
      array = says;
    }) c.read_array.ensures.ok
