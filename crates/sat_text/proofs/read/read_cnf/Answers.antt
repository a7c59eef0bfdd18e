use Rattle.std.proofs.Common.{◌≡◌, ◌∷◌, ◌∙◌, None, Some, sym, ap}
use Rattle.std.specs.Prelude.{flat_map, if◌then◌else◌}
use Rattle.fpga_text.specs.Words.{line_words}
use Rattle.sat_text.specs.Numbers.{numbers_of}
use Rattle.fpga_text.specs.Reading.{LinesAhead}
use Rattle.sat_text.specs.CnfText.{clause_parts, whole_clauses}
use Rattle.sat_text.specs.ToldLines.{told, told_lines}
use Rattle.sat_text.proofs.CnfLemmas.{reads_whole, refused_body, refused_end}
use Rattle.sat_text.proofs.DraftLemmas.{clauses_read}
use Rattle.sat_text.proofs.read.read_cnf.Goals as goal
use Rattle.sat_text.proofs.read.read_cnf.Goals.{In-Ok-new, After-is_whole}

-- the first line and those behind it
lines : (c : In-Ok-new) → told_lines c.args.bytes.now
    ≡ c.in-Some.line ∷ told c.next_told.new.lines.ahead
lines c = ap (λ (l : LinesAhead). told l.ahead) (sym c.new-lines.ensures)
    ∙ c.in-Some.ensures.line.ahead

-- the clauses that the lines behind the first say
clauses : (c : After-is_whole)
    → whole_clauses c.in-Ok.head.clauses
    (clause_parts (flat_map numbers_of (line_words (told c.next_told.new.lines.ahead))))
    ≡ (if c.is_whole.result then Some c.take_body.new.draft.formula.cnf.clauses else None)
clauses c = clauses_read c.in-Ok-new.draft c.take_body.new.draft c.in-Ok.head _ c.is_whole.result
    c.in-Ok-new.ensures.head c.in-Ok-new.ensures.clauses c.in-Ok-new.ensures.open
    c.in-Ok-new.ensures.excess c.in-Ok-take_body.ensures.1.numbers c.is_whole.ensures

pub returns-in-Err-take_body : goal.returns-in-Err-take_body
returns-in-Err-take_body c =
    refused_body c.args.bytes.now c.in-Some.line (told c.next_told.new.lines.ahead) c.in-Ok.head
    (lines (goal.at.returns-in-Err-take_body c).In-Ok-new)
    c.in-Ok.ensures.1 c.in-Ok.ensures.0 c.in-Err-take_body.fault
    (rw c.in-Ok-new.ensures.head at c.in-Err-take_body.ensures)

pub returns-then-not-is_whole : goal.returns-then-not-is_whole
returns-then-not-is_whole c =
    let at = goal.at.returns-then-not-is_whole c in
    let count = c.line_count-then-not-is_whole.ensures.count ∙ c.in-Ok-take_body.ensures.1.taken
    ∙ c.in-Some.ensures.line.total ∙ ap (λ (l : LinesAhead). l.total) c.new-lines.ensures in
    rw (c.at-then-not-is_whole.ensures, count)
    (refused_end c.args.bytes.now c.in-Some.line (told c.next_told.new.lines.ahead) c.in-Ok.head
    (lines at.In-Ok-new)
    c.in-Ok.ensures.1 c.in-Ok.ensures.0 (rw c.in-Ok-new.ensures.head at c.in-Ok-take_body.ensures.0)
    (rw c.if-not-is_whole.true at (clauses at.After-is_whole)))

pub returns : goal.returns
returns c =
    let at = goal.at.returns c in
    let reads = reads_whole c.args.bytes.now c.in-Some.line
    (told c.next_told.new.lines.ahead) c.in-Ok.head (lines at.In-Ok-new)
    c.in-Ok.ensures.1 c.in-Ok.ensures.0 c.take_body.new.draft.formula.cnf
    (rw c.in-Ok-new.ensures.head at c.in-Ok-take_body.ensures.0)
    (rw c.if-not-is_whole.false at (clauses at.After-is_whole))
    (ap (λ h. h.vars) c.in-Ok-take_body.ensures.1.numbers.head
    ∙ ap (λ h. h.vars) c.in-Ok-new.ensures.head) in
    (reads.faultless, reads.formula)
