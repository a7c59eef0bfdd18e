use Rattle.std.proofs.Common.{◌≡◌, ◌<◌, ◌∷◌, length, Option, Some, true, false, refl, sym, ap, ◌∙◌, subst}
use Rattle.sat_clause.specs.Literal.{negation}
use Rattle.sat_arena.specs.declared.clause_ref.ClauseRef.{ClauseRef}
use Rattle.sat_arena.specs.Store.{stored_at}
use Rattle.sat_watch.specs.Chains.{HasCursor, next_on, watch_of, head_of}
use Rattle.sat_watch.specs.declared.entry.TrailEntry.{TrailEntry}
use Rattle.sat_watch.specs.Chains.{head_of, lit_at}
use Rattle.sat_watch.specs.Trail.{falses}
use Rattle.sat_watch.specs.Watched.{IsImplied, IsReason, IsVisited, is_false, other_of}
use Rattle.sat_watch.proofs.PathLemmas.{before_goes_on}
use Rattle.sat_watch.proofs.VisitLemmas.{goes_implied, goes_moved, other_true, visited_kept, visited_moved, watch_contains, watch_within}
use Rattle.sat_watch.proofs.WatchesLemmas.{longer_whole}
use Rattle.sat_watch.proofs.visit.visit_clause.Goals as goal
use Rattle.sat_watch.proofs.visit.visit_clause.Goals.{After-push}
use Rattle.sat_clause.proofs.LiteralLaws.{among_here}

pub returns-in-IsTrueAlready-clause-visited : goal.returns-in-IsTrueAlready-clause-visited
returns-in-IsTrueAlready-clause-visited c =
    let old = c.args.chains.now in let a = c.args in let chained = c.requires.whole.chained in
    let k = stored_at old.clauses a.at.clause in
    let simple = chained.simple a.at.clause c.requires.at.held in
    subst (IsVisited a.f a.before a.at a.after old old a.trail.now.entries) (sym c.to.ensures)
    (visited_kept old.vars old a.f a.at a.after chained c.requires.at c.requires.after a.before
    a.trail.now.entries
    (other_true old.vars a.trail.now.entries k.lits a.at.which a.f simple c.requires.at.which
    c.requires.at.watch
    (λ o at. c.in-IsTrueAlready.ensures o
    (ap (λ l. watch_of l (other_of a.at.which)) c.lits.ensures.value ∙ at))))

pub place_before-place-requires : goal.place_before-place-requires
place_before-place-requires c =
    let old = c.args.chains.now in let a = c.args in
    record {
      goes =
          before_goes_on (next_on old.clauses a.f) (head_of old a.f) a.before
          (Some a.at.clause) c.requires.cursor;
    }

pub rewatch-requires-clause-cursor : goal.rewatch-requires-clause-cursor
rewatch-requires-clause-cursor c =
    let old = c.args.chains.now in let a = c.args in
    subst (λ b. HasCursor (next_on old.clauses a.f) (head_of old a.f) b (Some a.at.clause))
    (sym c.place_before-place.ensures.clause) c.requires.cursor

pub returns-in-Open-clause-goes : goal.returns-in-Open-clause-goes
returns-in-Open-clause-goes c =
    let old = c.args.chains.now in let a = c.args in let chained = c.requires.whole.chained in
    let says = c.in-Open.ensures in
    let high : c.in-Open.k < length (stored_at old.clauses a.at.clause).lits =
    rw (← c.lits.ensures.value) says.1 in
    let free : is_false a.trail.now.entries
    (lit_at (stored_at old.clauses a.at.clause).lits c.in-Open.k) ≡ false =
    rw (← c.lits.ensures.value) says.2 in
    goes_moved old.vars old a.f a.at a.after chained c.requires.at c.requires.after
    a.trail.now.entries c.place_before-place.result c.place_before-place.ensures.place
    c.rewatch.new.self c.in-Open.k
    (head_of old (lit_at (stored_at old.clauses a.at.clause).lits c.in-Open.k)) says.0 high
    c.rewatch.ensures.clauses a.level c.rewatch.ensures.holders free

pub returns-in-Open-clause-visited : goal.returns-in-Open-clause-visited
returns-in-Open-clause-visited c =
    let old = c.args.chains.now in let a = c.args in let chained = c.requires.whole.chained in
    let says = c.in-Open.ensures in
    let high : c.in-Open.k < length (stored_at old.clauses a.at.clause).lits =
    rw (← c.lits.ensures.value) says.1 in
    subst (λ b. IsVisited a.f b a.at a.after old c.rewatch.new.self a.trail.now.entries b)
    c.place_before-place.ensures.clause
    (visited_moved old.vars old a.f a.at a.after chained c.requires.at c.requires.after
    a.trail.now.entries c.place_before-place.result c.place_before-place.ensures.place
    c.rewatch.new.self c.in-Open.k
    (head_of old (lit_at (stored_at old.clauses a.at.clause).lits c.in-Open.k)) says.0 high
    c.rewatch.ensures.clauses a.trail.now.entries c.rewatch.ensures.cursor)

pub push-requires-clause-within : goal.push-requires-clause-within
push-requires-clause-within c =
    let old = c.args.chains.now in let a = c.args in
    let within = watch_within old.vars c.lits.result.now (other_of a.at.which) c.in-Unit.lit
    c.lits.ensures.simple c.in-Unit.ensures.0 in
    rw c.requires.whole.vars within

-- the clause is the reason of the newest entry
entries_are : (c : After-push) → c.push.new.self.entries
    ≡ record { lit = c.in-Unit.lit; level = c.args.level; reason = Some c.args.at.clause }
    ∷ c.args.trail.now.entries
entries_are c =
    c.push.ensures.entries ∙ ap (λ (r : Option ClauseRef).
    record { lit = c.in-Unit.lit; level = c.args.level; reason = r } ∷ c.args.trail.now.entries)
    c.to-in-Unit.ensures

pub returns-in-Unit-clause-goes : goal.returns-in-Unit-clause-goes
returns-in-Unit-clause-goes c =
    let old = c.args.chains.now in let a = c.args in
    let e : TrailEntry =
    record { lit = c.in-Unit.lit; level = a.level; reason = Some a.at.clause } in
    let why : IsReason a.trail.now.entries c.lits.result.now c.in-Unit.lit = record {
      has =
          watch_contains c.lits.result.now (other_of a.at.which) c.in-Unit.lit c.in-Unit.ensures.0;
      others = c.in-Unit.ensures.2;
    } in
    let implied : IsImplied old.clauses a.level a.trail.now.entries e = record {
      at_level = refl;
      reason = a.at.clause;
      is = refl;
      held = c.requires.at.held;
      why = subst (λ l. IsReason a.trail.now.entries l c.in-Unit.lit) c.lits.ensures.value why;
    } in
    goes_implied a.trail.now.entries a.level a.f old.clauses a.trail.now.entries
    c.push.new.self.entries e (entries_are (goal.at.returns-in-Unit-clause-goes c).After-push)
    implied

pub returns-in-Unit-clause-visited : goal.returns-in-Unit-clause-visited
returns-in-Unit-clause-visited c =
    let old = c.args.chains.now in let a = c.args in let chained = c.requires.whole.chained in
    let k = stored_at old.clauses a.at.clause in
    let simple = chained.simple a.at.clause c.requires.at.held in
    subst (IsVisited a.f a.before a.at a.after old old c.push.new.self.entries)
    (sym c.to-in-Unit-2.ensures)
    (visited_kept old.vars old a.f a.at a.after chained c.requires.at c.requires.after a.before
    c.push.new.self.entries
    (other_true old.vars c.push.new.self.entries k.lits a.at.which a.f simple c.requires.at.which
    c.requires.at.watch
    (λ o at.
    let there : watch_of c.lits.result.now (other_of a.at.which) ≡ Some o =
    ap (λ l. watch_of l (other_of a.at.which)) c.lits.ensures.value ∙ at in
    let same : c.in-Unit.lit ≡ o =
    (let e : Some c.in-Unit.lit ≡ Some o = sym c.in-Unit.ensures.0 ∙ there in cc) in
    subst (λ l. is_false c.push.new.self.entries (negation l) ≡ true) same
    (rw c.push.ensures.entries
    (among_here (falses a.trail.now.entries) (negation c.in-Unit.lit))))))

pub returns-in-Open-clause-whole : goal.returns-in-Open-clause-whole
returns-in-Open-clause-whole c =
    let whole = c.requires.whole in
    record {
      vars = whole.vars ∙ sym c.rewatch.ensures.vars;
      chained = c.rewatch.ensures.chained;
      trail = whole.trail;
    }

pub returns-in-Unit-clause-whole : goal.returns-in-Unit-clause-whole
returns-in-Unit-clause-whole c =
    let old = c.args.chains.now in let a = c.args in
    longer_whole old a.trail.now c.push.new.self
    (record { lit = c.in-Unit.lit; level = a.level; reason = Some a.at.clause }) c.requires.whole
    c.push.ensures.vars (entries_are (goal.at.returns-in-Unit-clause-whole c).After-push)
    (watch_within old.vars c.lits.result.now (other_of a.at.which) c.in-Unit.lit
    c.lits.ensures.simple c.in-Unit.ensures.0) c.in-Unit.ensures.1
