-- One more step of a log was read, or there was none.
use Rattle.std.proofs.Common.{◌≡◌, ◌+◌, ℕ, None, List, ap, sym, ◌∙◌}
use Rattle.fpga_text.specs.declared.fault.TextFault.{TextFault}
use Rattle.fpga_text.specs.FirstFault.{IsFaultOf, IsRefusal, first_fault}
use Rattle.fpga_text.specs.Reading.{LinesAhead}
use Rattle.fpga_text.specs.Words.{TextLine, line_words}
use Rattle.fpga_text.proofs.FaultLemmas.{past-nothing, refusal-line}
use Rattle.sat_text.specs.declared.hint_rule.HintRule.{HintRule}
use Rattle.sat_text.specs.declared.step_draft.StepDraft.{StepDraft}
use Rattle.sat_text.specs.ByNumbers.{step_line_fault}
use Rattle.sat_text.specs.LogAhead.{IsReadOut, ReadsNext, ahead_of}
use Rattle.sat_text.specs.LratText.{faults_above, raised_by, said_step, steps_of}
use Rattle.sat_text.specs.StepDrafts.{TakesStep, held}
use Rattle.sat_text.specs.ToldLines.{IsToldOut, TakesTold, told}
use Rattle.sat_text.proofs.LratLemmas.{step_past, step_taken}

module _ (lines more : LinesAhead) (draft : StepDraft) where
  -- a line without a fault says the next step
  pub reads_next : (now : StepDraft) (line : TextLine) → TakesTold lines more line →
      step_line_fault draft.rule draft.above line ≡ None →
      TakesStep draft now (said_step line.words) →
      ReadsNext (ahead_of lines draft) (ahead_of more now)
  reads_next now line took clean takes = record {
    faults = (step_past draft.rule
        (faults_above draft.rule draft.above (told lines.ahead) (lines.total + 1)) draft.above
        now.above (lines.total + 1) (told lines.ahead) (told more.ahead) line took.ahead
        (past-nothing _) clean takes.above).same
        ∙ ap (λ (n : ℕ). first_fault (faults_above draft.rule now.above (told more.ahead) (n + 1)))
        (sym took.total)
        ∙ ap (λ (r : HintRule). first_fault
        (faults_above r now.above (told more.ahead) (more.total + 1))) (sym takes.rule);
    steps = step_taken (told lines.ahead) (told more.ahead) line (held now) took.ahead takes.says;
  }

  -- no line is left
  pub reads_out : IsToldOut lines more → IsReadOut (ahead_of lines draft)
  reads_out out = record {
    faultless = ap (λ (l : List TextLine).
        first_fault (faults_above draft.rule draft.above l (lines.total + 1))) out.ahead;
    none = ap (λ (l : List TextLine). steps_of (line_words l)) out.ahead;
  }

  -- the next line has a fault
  pub refuses : (line : TextLine) (found : TextFault) → TakesTold lines more line →
      IsFaultOf (step_line_fault draft.rule draft.above line) found →
      IsRefusal (faults_above draft.rule draft.above (told lines.ahead) (lines.total + 1)) found
  refuses line found took is =
      refusal-line {all = faults_above draft.rule draft.above (told lines.ahead) (lines.total + 1)}
      {fault = step_line_fault draft.rule draft.above line}
      {rest = faults_above draft.rule (raised_by draft.above line.words) (told more.ahead)
      (lines.total + 1)}
      found (record {
        same = ap (λ (l : List TextLine).
            first_fault (faults_above draft.rule draft.above l (lines.total + 1))) took.ahead;
      }) is
