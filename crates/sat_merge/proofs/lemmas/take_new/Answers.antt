use Rattle.std.proofs.Common.{◌≤◌, ℕ, All, arith, subst, sym}
use Rattle.sat_clause.specs.Literal.{IsWithin}
use Rattle.sat_merge.proofs.LemmaLaws.{taken_more}
use Rattle.sat_merge.proofs.lemmas.take_new.Goals as goal

pub returns-clause-taken : goal.returns-clause-taken
returns-clause-taken c = λ is formula merged vars own are.
    let once = c.if-not-is_once.false in
    let logged = c.if-not-branch.false in
    let within = subst (λ (n : ℕ). All (IsWithin n) c.args.clause.now) (sym vars)
    (c.in_ok-log_lemma.ensures.within logged) in
    let few : c.args.input ≤ c.args.places.now.inputs = omega arith in
    rw c.put_lemma.ensures.put
    (taken_more are c.note.new.self c.log_lemma.new.live c.log_lemma.new.log.steps c.in-Some.id
    c.args.input c.args.clause.now c.in_ok-note.ensures.more
    (c.in_ok-note.ensures.noted c.if-not-branch-2.false)
    (c.in_ok-log_lemma.ensures.added logged formula are.found) c.in-Some.ensures
    c.put_lemma.ensures.within few own (c.is_once.ensures.some once)
    (c.is_once.ensures.once once formula.vars within) (c.is_free.ensures c.if-not-is_free.false))
