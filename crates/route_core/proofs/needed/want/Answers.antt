use Rattle.std.proofs.Common.{rules, ◌≡◌, ◌++◌, [], Option, sym, ap, subst}
use mir.Val.{SFits}
use mir.Syntax.{w64}
use Rattle.std.specs.Option.{option_map_or}
use Rattle.std.proofs.lemmas.Int.{to_z-of_z}
use Rattle.sat_clause.specs.Literal.{Clause}
use Rattle.sat_check.specs.Finder.{Finder}
use Rattle.route_core.specs.Sources.{said_under}
use Rattle.route_core.specs.Walking.{clause_of}
use Rattle.route_core.specs.Wanting.{Tells}
use Rattle.route_core.proofs.needed.want.Goals as goal

-- the hint names no clause
pub returns-in_default-clause-wanted : goal.returns-in_default-clause-wanted
returns-in_default-clause-wanted c = λ own before tells.
    let said : Finder = said_under c.args.sources.now.formula c.args.sources.now.log in
    let fits : SFits w64 c.args.hint = search rules in
    let value = simp to_z-of_z at c.in_default.ensures.value in
    let none : clause_of said c.args.hint ≡ [] =
    sym (ap (λ (o : Option Clause). option_map_or (λ d. d) o []) value) in
    subst (λ (d : Clause). Tells own (d ++ before) c.args.wanted.now) (sym none) tells

pub returns-clause-wanted : goal.returns-clause-wanted
returns-clause-wanted c = λ own before tells.
    let said : Finder = said_under c.args.sources.now.formula c.args.sources.now.log in
    let fits : SFits w64 c.args.hint = search rules in
    let value = simp to_z-of_z at c.in-Some.ensures.value in
    let is : clause_of said c.args.hint ≡ c.in-Some.clause.now =
    sym (ap (λ (o : Option Clause). option_map_or (λ d. d) o []) value) in
    subst (λ (d : Clause). Tells own (d ++ before) c.want.new.self) (sym is)
    (c.want.ensures.wanted own before tells)
