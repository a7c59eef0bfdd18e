use Rattle.std.proofs.Common.{◌+◌, length}
use Rattle.sat_merge.specs.Representatives.{keeps}
use Rattle.sat_merge.proofs.LemmaLaws.{taken_none}
use Rattle.sat_merge.proofs.lemmas.write_lemmas.Goals as goal

pub returns-clause-lemmas : goal.returns-clause-lemmas
returns-clause-lemmas c =
    let noted = rw c.in-Some.is at c.in_ok-known.ensures in
    c.place_all.ensures c.take_all.new.log.steps c.requires.merged
    (c.in_ok-take_all.ensures.taken c.if-not-branch.false c.requires.same c.requires.merged
    (rw (c.requires.fresh, c.in_ok-places.ensures, c.len-2.ensures)
    (taken_none (keeps c.args.representatives.now) c.args.formula.now.cnf c.args.merged.now.cnf
    (length c.args.formula.now.cnf.clauses + 1) _ _ c.requires.merged
    (noted (keeps c.args.representatives.now)) c.requires.found))).lemmas

pub returns-clause-found : goal.returns-clause-found
returns-clause-found c =
    let noted = rw c.in-Some.is at c.in_ok-known.ensures in
    (c.in_ok-take_all.ensures.taken c.if-not-branch.false c.requires.same c.requires.merged
    (rw (c.requires.fresh, c.in_ok-places.ensures, c.len-2.ensures)
    (taken_none (keeps c.args.representatives.now) c.args.formula.now.cnf c.args.merged.now.cnf
    (length c.args.formula.now.cnf.clauses + 1) _ _ c.requires.merged
    (noted (keeps c.args.representatives.now)) c.requires.found))).found
