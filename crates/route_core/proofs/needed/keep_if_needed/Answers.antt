use Rattle.std.proofs.Common.{rules, ◌≡◌, ◌++◌, ℤ, List, [], Option, sym, ap, subst, ◌∙◌}
use mir.Val.{SFits}
use mir.Syntax.{w64}
use Rattle.std.specs.Option.{option_map_or}
use Rattle.std.proofs.lemmas.Int.{to_z-of_z}
use Rattle.sat_clause.specs.Literal.{Clause}
use Rattle.sat_check.specs.Finder.{Finder}
use Rattle.route_core.specs.Needed.{kept_if}
use Rattle.route_core.specs.Sources.{said_under}
use Rattle.route_core.specs.Walking.{HasKept, clause_of, serves}
use Rattle.route_core.specs.Wanting.{Tells}
use Rattle.route_core.proofs.WalkLemmas.{has_kept-more, has_kept-same}
use Rattle.route_core.proofs.WantedLemmas.{serves-told}
use Rattle.route_core.proofs.needed.keep_if_needed.Goals as goal

-- the hint names no clause
pub returns-in_default-clause-ok : goal.returns-in_default-clause-ok
returns-in_default-clause-ok c = λ own rest has.
    let said : Finder = said_under c.args.sources.now.formula c.args.sources.now.log in
    let fits : SFits w64 c.args.hint = search rules in
    let value = simp to_z-of_z at c.in_default.ensures.value in
    let none : clause_of said c.args.hint ≡ [] =
    sym (ap (λ (o : Option Clause). option_map_or (λ d. d) o []) value) in
    has_kept-same own c.args.hint (clause_of said c.args.hint) rest c.args.kept.now.items
    c.args.wanted.now (serves own rest.wanted (clause_of said c.args.hint))
    (ap (serves own rest.wanted) none) has

-- its clause does not serve
pub returns-then-not-wants_opposite-clause-ok : goal.returns-then-not-wants_opposite-clause-ok
returns-then-not-wants_opposite-clause-ok c = λ own rest has.
    let said : Finder = said_under c.args.sources.now.formula c.args.sources.now.log in
    let fits : SFits w64 c.args.hint = search rules in
    let value = simp to_z-of_z at c.in-Some.ensures.value in
    let is : clause_of said c.args.hint ≡ c.in-Some.clause.now =
    sym (ap (λ (o : Option Clause). option_map_or (λ d. d) o []) value) in
    has_kept-same own c.args.hint (clause_of said c.args.hint) rest c.args.kept.now.items
    c.args.wanted.now (serves own rest.wanted (clause_of said c.args.hint))
    (ap (serves own rest.wanted) is
    ∙ sym (serves-told own rest.wanted c.args.wanted.now c.in-Some.clause.now has.tells)
    ∙ sym c.if-not-wants_opposite.ensures) has

-- it does
pub returns-clause-ok : goal.returns-clause-ok
returns-clause-ok c = λ own rest has.
    let said : Finder = said_under c.args.sources.now.formula c.args.sources.now.log in
    let fits : SFits w64 c.args.hint = search rules in
    let value = simp to_z-of_z at c.in-Some.ensures.value in
    let pushed = simp to_z-of_z at c.in_ok-push.ensures.items in
    let is : clause_of said c.args.hint ≡ c.in-Some.clause.now =
    sym (ap (λ (o : Option Clause). option_map_or (λ d. d) o []) value) in
    subst (λ (row : List ℤ). HasKept own (kept_if (serves own rest.wanted
    (clause_of said c.args.hint)) c.args.hint (clause_of said c.args.hint) rest) row
    c.want.new.self) (sym pushed)
    (has_kept-more own c.args.hint (clause_of said c.args.hint) rest c.args.kept.now.items
    c.want.new.self has.row_is (serves own rest.wanted (clause_of said c.args.hint))
    (ap (serves own rest.wanted) is
    ∙ sym (serves-told own rest.wanted c.args.wanted.now c.in-Some.clause.now has.tells)
    ∙ sym c.if-not-wants_opposite.ensures)
    (subst (λ (d : Clause). Tells own (d ++ rest.wanted) c.want.new.self) (sym is)
    (c.want.ensures.wanted own rest.wanted has.tells)))
