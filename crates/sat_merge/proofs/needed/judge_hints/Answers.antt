use Rattle.std.proofs.Common.{◌≡◌, ◌∙◌, ◌++◌, ap}
use Rattle.std.proofs.lemmas.List.{append-nil}
use Rattle.sat_merge.proofs.NeededLaws.{read-justified}
use Rattle.sat_merge.proofs.needed.judge_hints.Goals as goal

pub returns-clause-ok : goal.returns-clause-ok
returns-clause-ok c = λ is clauses finds.
    let starts : c.put_all.new.self.set ≡ c.args.clause.now =
    c.in_ok-put_all.ensures.ok ∙ ap (λ set. c.args.clause.now ++ set) c.requires.falses.empty
    ∙ append-nil c.args.clause.now in
    read-justified clauses c.args.clause.now c.meet_back.new.met.set c.read_hints.new.units.items
    c.args.hints.now
    (rw starts at (c.in_ok-read_hints.ensures.ok c.if-not-branch.false clauses finds))
    (rw c.deref.ensures.value at
    (c.in_ok-meet_back.ensures.ok c.if-not-branch-2.false clauses finds))
    (c.are_met.ensures is)
