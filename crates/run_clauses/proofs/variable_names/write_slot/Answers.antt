use Rattle.std.proofs.Common.{◌≡◌, ◌∙◌, ℕ, List, rules, sym, arith}
use Rattle.std.proofs.lemmas.List.FromFn.{length-range_with_len}
use Rattle.desk_io.proofs.RowLemmas.{row-ends, row-fails, row-passes}
use Rattle.desk_io.proofs.WritingLaws.{passes-none}
use Rattle.route_encode.specs.Encoding.{below, has}
use Rattle.run_clauses.specs.VariableNames.{name_line}
use Rattle.run_clauses.proofs.VariableNameLaws.{below-there}
use Rattle.run_clauses.proofs.variable_names.write_slot.Goals as goal

pub loop-track-init : goal.loop-track-init
loop-track-init g c = record { passed = passes-none _ _; created = c.requires.created }

pub returns-in_default : goal.returns-in_default
returns-in_default g c =
    let line : ℕ → List ℕ = λ track. name_line (has c.args.variables.width c.args.number track)
    c.args.name.now c.args.cell track in
    row-fails line (below c.args.variables.width) c.loop-track.track c.loop-track.track
    (below-there c.args.variables.width c.loop-track.track (omega arith))
    c.loop-track.invariant.passed (rw c.has-literal.ensures.value at c.in_default.ensures)

pub loop-track-preserved : goal.loop-track-preserved
loop-track-preserved g c =
    let line : ℕ → List ℕ = λ track. name_line (has c.args.variables.width c.args.number track)
    c.args.name.now c.args.cell track in
    record {
      passed = row-passes line (below c.args.variables.width) c.loop-track.track
          c.loop-track.track
          (below-there c.args.variables.width c.loop-track.track (omega arith))
          c.loop-track.invariant.passed (rw c.has-literal.ensures.value at c.in-Ok.ensures);
      created = search rules;
    }

pub returns : goal.returns
returns g c =
    let line : ℕ → List ℕ = λ track. name_line (has c.args.variables.width c.args.number track)
    c.args.name.now c.args.cell track in
    let end : c.loop-track.track ≡ c.args.variables.width = omega arith in
    row-ends line (below c.args.variables.width) c.loop-track.track
    (end ∙ sym (length-range_with_len 0 c.args.variables.width)) c.loop-track.invariant.passed
