use Rattle.std.proofs.Common.{◌≡◌, ◌∙◌, ◌++◌, [], ◌∷◌, false, true, List, ℤ, Option, Some, None, slice_get, append-nil, ap, refl}
use Rattle.std.specs.Prelude.{IfSome, IsNone, is_some}
use Rattle.std.proofs.lemmas.Result.{IfOk-weaker}
use Rattle.sat_clause.specs.Live.{Live}
use Rattle.sat_clause.specs.Literal.{Clause, negation}
use Rattle.sat_clause.specs.declared.cause.Cause.{Cause}
use Rattle.sat_clause.specs.declared.cause.Cause.TheVariants.{NoConflict, WrongGroup}
use Rattle.sat_clause.specs.declared.literal.Lit.{Lit}
use Rattle.sat_rat.specs.FullRup.{full_rup, groups_fault, lead, resolution_fault}
use Rattle.sat_rat.specs.Groups.{Group, groups_of}
use Rattle.sat_rat.proofs.resolution.check_in.Goals as goal

-- hints that lead from the literals of the clause, where no other literal is false
leads_in_full : (live : Live) (clause : Clause) (hints : List ℤ) (set none other : List Lit) →
    none ≡ [] → other ≡ [] → set ≡ clause ++ none → (r : Option Cause) →
    r ≡ lead live (set ++ other) hints (resolution_fault live clause (groups_of hints)) →
    r ≡ full_rup live clause hints
leads_in_full live clause hints set none other e f is r led =
    let all : set ++ other ≡ clause =
    rw (is, e, f) (append-nil (clause ++ []) ∙ append-nil clause) in
    led ∙ ap (λ (s : List Lit). lead live s hints
    (resolution_fault live clause (groups_of hints))) all

is_none : {T : Type 0} (o : Option T) → false ≡ is_some o → IsNone o
is_none None none = refl
is_none (Some x) none = cc

-- a clause without literals, where hints met no conflict
no_conflict : (live : Live) (clause : Clause) (groups : List Group) (set : List Lit) →
    None ≡ slice_get clause 0 → groups ≡ [] →
    Some NoConflict ≡ resolution_fault live clause groups set
no_conflict live [] groups set none e = rw e refl
no_conflict live (l ∷ ls) groups set none e = cc

wrong_group : {T : Type 0} (live : Live) (clause : Clause) (groups : List Group) (set : List Lit) →
    None ≡ slice_get clause 0 → (o : Option T) (first : T → Group) (more : T → List Group) →
    true ≡ is_some o → IfSome o (λ t. groups ≡ first t ∷ more t) →
    Some WrongGroup ≡ resolution_fault live clause groups set
wrong_group live (l ∷ ls) groups set none o first more some is = cc
wrong_group live [] groups set none None first more some is = cc
wrong_group live [] groups set none (Some t) first more some is = rw is refl

-- the first literal is resolved on
by_groups : (live : Live) (clause : Clause) (groups : List Group) (set none : List Lit) (l m : Lit)
    (r : Option Cause) → Some l ≡ slice_get clause 0 → m ≡ negation l → none ≡ [] →
    r ≡ groups_fault live set m [] groups → r ≡ resolution_fault live clause groups (set ++ none)
by_groups live [] groups set none l m r first is e said = cc
by_groups live (x ∷ xs) groups set none l m r first is e said =
    let same : l ≡ x = cc in said ∙ rw (is, same, e, append-nil set) refl

pub returns-in-Conflict-clause-ok : goal.returns-in-Conflict-clause-ok
returns-in-Conflict-clause-ok c = λ clauses tracks.
    let led = c.in-Ok-follow.ensures.ok clauses (rw c.clauses.ensures tracks.finds)
    (resolution_fault clauses c.args.clause.now (groups_of c.args.hints.now)) in
    leads_in_full clauses c.args.clause.now c.args.hints.now _ _ _ c.requires.empty
    c.requires.empty_second c.in-Ok.ensures.ok None (rw c.in-Conflict.is at led)

pub returns-in-Refused-clause-ok : goal.returns-in-Refused-clause-ok
returns-in-Refused-clause-ok c = λ clauses tracks.
    let led = c.in-Ok-follow.ensures.ok clauses (rw c.clauses.ensures tracks.finds)
    (resolution_fault clauses c.args.clause.now (groups_of c.args.hints.now)) in
    leads_in_full clauses c.args.clause.now c.args.hints.now _ _ _ c.requires.empty
    c.requires.empty_second c.in-Ok.ensures.ok (Some c.in-Refused.cause)
    (rw c.in-Refused.is at led)

pub returns-clause-ok : goal.returns-clause-ok
returns-clause-ok c = IfOk-weaker c.take_groups.result _ _ (λ r said clauses tracks.
    let led = c.in-Ok-follow.ensures.ok clauses (rw c.clauses.ensures tracks.finds)
    (resolution_fault clauses c.args.clause.now (groups_of c.args.hints.now)) in
    leads_in_full clauses c.args.clause.now c.args.hints.now _ _ _ c.requires.empty
    c.requires.empty_second c.in-Ok.ensures.ok r
    (by_groups clauses c.args.clause.now _ c.follow.new.upper.set _ c.in-Some.l.now _ r
    c.in-Some.ensures.value c.negation-other.ensures.value c.requires.empty_second
    (said clauses (rw (c.clauses-2.ensures, c.in-Ok-count.ensures.same) tracks.finds)
    (c.in-Ok-count.ensures.ok clauses tracks)) ∙ rw c.in-Open.is at led)) c.take_groups.ensures.ok

pub returns-in_default-first-clause-ok : goal.returns-in_default-first-clause-ok
returns-in_default-first-clause-ok c = λ clauses tracks.
    let led = c.in-Ok-follow.ensures.ok clauses (rw c.clauses.ensures tracks.finds)
    (resolution_fault clauses c.args.clause.now (groups_of c.args.hints.now)) in
    leads_in_full clauses c.args.clause.now c.args.hints.now _ _ _ c.requires.empty
    c.requires.empty_second c.in-Ok.ensures.ok _
    (no_conflict clauses c.args.clause.now _ _ c.in_default-first.ensures.value
    (c.next_group.ensures.none (is_none _ c.if-is_some.ensures)) ∙ rw c.in-Open.is at led)

pub returns-then-is_some-clause-ok : goal.returns-then-is_some-clause-ok
returns-then-is_some-clause-ok c = λ clauses tracks.
    let led = c.in-Ok-follow.ensures.ok clauses (rw c.clauses.ensures tracks.finds)
    (resolution_fault clauses c.args.clause.now (groups_of c.args.hints.now)) in
    leads_in_full clauses c.args.clause.now c.args.hints.now _ _ _ c.requires.empty
    c.requires.empty_second c.in-Ok.ensures.ok _
    (wrong_group clauses c.args.clause.now _ _ c.in_default-first.ensures.value c.next_group.result
    (λ g. record { id = g.id; hints = g.hints.now }) (λ g. groups_of g.behind.now)
    c.if-is_some.ensures c.next_group.ensures.group ∙ rw c.in-Open.is at led)
