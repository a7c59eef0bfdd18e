use Rattle.std.proofs.Common.{List, ap, inl, subst, ◌∙◌, sym}
use Rattle.std.proofs.lemmas.Bool.{false≢true}
use Rattle.fpga_text.specs.Reading.{LinesAhead}
use Rattle.route_picture.specs.Blame.{Given, TakesFront, given}
use Rattle.route_picture.proofs.BlameLemmas.{line-next, names-taken, none-said, stops-strange}
use Rattle.route_picture.proofs.blame.blamed.Goals as goal

pub returns-in-Err-clause-stop : goal.returns-in-Err-clause-stop
returns-in-Err-clause-stop c =
    stops-strange c.args.nets.now c.args.text.now _ _ c.in-Some.line _ _
    (ap (λ (l : LinesAhead). given l.ahead) c.new-lines.ensures) (sym c.in-Some.ensures.line)
    c.loop-line.invariant (c.in-Err.ensures.strange c.args.nets.now c.in-Ok.ensures)

pub returns-then-is_empty-clause-stop : goal.returns-then-is_empty-clause-stop
returns-then-is_empty-clause-stop c =
    inl (none-said c.args.nets.now c.args.text.now _ _ _
    (ap (λ (l : LinesAhead). given l.ahead) c.new-lines.ensures)
    (sym c.in_default-next_line.ensures.line) c.loop-line.invariant
    (c.is_empty.ensures.0 c.if-is_empty.true))

pub returns-clause-names : goal.returns-clause-names
returns-clause-names c =
    names-taken c.args.nets.now c.args.text.now _ _ _
    (ap (λ (l : LinesAhead). given l.ahead) c.new-lines.ensures)
    (sym c.in_default-next_line.ensures.line) c.loop-line.invariant
    (λ none. false≢true (sym c.if-is_empty.false ∙ c.is_empty.ensures.1 none))

pub loop-line-preserved : goal.loop-line-preserved
loop-line-preserved c =
    c.in-Ok-take_line.ensures.taken c.args.nets.now (given c.new-lines.result.ahead)
    (given c.next_line.new.self.ahead) c.in-Ok.ensures
    (subst (λ (rest : List Given).
    TakesFront c.args.nets.now (given c.new-lines.result.ahead) rest c.loop-line.names)
    (line-next c.loop-line.lines.ahead c.loop-line.lines.total c.in-Some.line
    c.next_line.new.self.ahead (sym c.in-Some.ensures.line)
    (ap (λ (l : LinesAhead). l.ahead) c.in-Some.ensures.after))
    c.loop-line.invariant)
