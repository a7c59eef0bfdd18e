use Rattle.std.proofs.Common.{◌≡◌, suc, ◌+◌, pos, true, [], ◌∷◌, take, length, None, All, sym, ap, ◌∙◌, subst, arith}
use Rattle.std.proofs.Math.Seq.{take-length, take-suc}
use Rattle.std.proofs.lemmas.List.Elements.{All-append, All-cons, All-nil, All-weaker}
use Rattle.sat_clause.specs.declared.literal.Lit.{Lit}
use Rattle.sat_clause.specs.Literal.{negation}
use Rattle.sat_watch.specs.Chains.{lit_at}
use Rattle.sat_watch.specs.Watched.{is_false}
use Rattle.sat_watch.proofs.GoesLemmas.{goes_trans, grows_false}
use Rattle.sat_watch.proofs.TailLemmas.{tail_many, tail_pair}
use Rattle.sat_watch.proofs.visit.walk_tail.Goals as goal

pub visit_pair-requires-clause-pair : goal.visit_pair-requires-clause-pair
visit_pair-requires-clause-pair c =
    let tail = c.requires.tail in
    tail_pair c.args.chains.now.clauses c.args.f tail.0 c.args.others.now c.args.words.now None
    c.loop-i.i tail.1 c.loop-i-test.true

pub visit_pair-requires-clause-clause : goal.visit_pair-requires-clause-clause
visit_pair-requires-clause-clause c =
    let tail = c.requires.tail in
    let many = tail_many c.args.chains.now.clauses c.args.f tail.0 c.args.others.now
    c.args.words.now None tail.1 in
    omega (arith, c.loop-i-test.true)

pub loop-i-preserved : goal.loop-i-preserved
loop-i-preserved c =
    let l = c.loop-i in
    let e = c.visit_pair.ensures in
    let a = c.args in
    let one : l.i + 1 ≡ suc l.i = omega arith in
    let is_true = λ (o : Lit). is_false c.visit_pair.new.trail.entries (negation o) ≡ true in
    record {
      whole = e.whole;
      goes = goes_trans l.invariant.goes e.goes;
      still_false =
          grows_false a.chains.now.clauses a.level l.trail.entries
          c.visit_pair.new.trail.entries a.f e.goes.grows l.invariant.still_false;
      done =
          subst (All is_true)
          (sym (ap (λ n. take n a.others.now) one ∙
          take-suc a.others.now l.i (record { code = pos 0 }) c.loop-i-test.true))
          (All-append is_true (take l.i a.others.now) (lit_at a.others.now l.i ∷ [])
          (All-weaker (λ o. is_false l.trail.entries (negation o) ≡ true) is_true
          (λ o. grows_false a.chains.now.clauses a.level l.trail.entries
          c.visit_pair.new.trail.entries (negation o) e.goes.grows) (take l.i a.others.now)
          l.invariant.done)
          (All-cons is_true (lit_at a.others.now l.i) [] (e.is_true c.if-not-visit_pair.false)
          (All-nil is_true)));
      visits = l.invariant.visits;
    }

pub clause_in-requires : goal.clause_in-requires
clause_in-requires c =
    let tail = c.requires.tail in
    let many = tail_many c.args.chains.now.clauses c.args.f tail.0 c.args.others.now
    c.args.words.now None tail.1 in
    omega (arith, c.loop-i-test.true)

pub returns-then-not-visit_pair-clause-goes : goal.returns-then-not-visit_pair-clause-goes
returns-then-not-visit_pair-clause-goes c =
    goes_trans c.loop-i.invariant.goes c.visit_pair.ensures.goes

pub returns-then-not-visit_pair-clause-held : goal.returns-then-not-visit_pair-clause-held
returns-then-not-visit_pair-clause-held c =
    let tail = c.requires.tail in
    let pair = tail_pair c.args.chains.now.clauses c.args.f tail.0 c.args.others.now
    c.args.words.now None c.loop-i.i tail.1 c.loop-i-test.true in
    rw c.clause_in.ensures.value pair.held

pub returns-clause-none : goal.returns-clause-none
returns-clause-none c =
    let l = c.loop-i in
    let others = c.args.others.now in
    let at_end : l.i ≡ length others = omega (arith, l.auto.i-end, c.loop-i-test.false) in
    subst (All (λ (o : Lit). is_false l.trail.entries (negation o) ≡ true))
    (ap (λ n. take n others) at_end ∙ take-length others) l.invariant.done
