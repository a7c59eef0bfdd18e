use Rattle.sat_text.proofs.step_draft.StepDraft.take_deletion.Goals as goal

pub returns-in-Err : goal.returns-in-Err
returns-in-Err c =
    rw c.deref.ensures.value at (c.in-Err.ensures.err c.args.self.now.rule c.args.self.now.above)
