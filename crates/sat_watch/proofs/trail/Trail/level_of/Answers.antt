use Rattle.std.proofs.Common.{◌≡◌, ◌≤◌, ℕ, ◌∙◌, Some, refl, sym, ap, length, subst, arith}
use Rattle.std.proofs.lemmas.Option.{get_or_from_slice_get, slice_get_within}
use Rattle.std.specs.Prelude.{slice_get}
use Rattle.sat_clause.specs.declared.literal.Lit.{Lit}
use Rattle.sat_clause.specs.Literal.{negation, variable}
use Rattle.sat_watch.specs.declared.entry.TrailEntry.{TrailEntry}
use Rattle.sat_watch.specs.Watched.{true_at}
use Rattle.sat_clause.proofs.LiteralLaws.{variable_negation}
use Rattle.sat_watch.proofs.PlaceLemmas.{level_read}
use Rattle.sat_watch.proofs.trail.Trail.level_of.Goals as goal
use Rattle.sat_watch.proofs.trail.Trail.level_of.Goals.{After-index-older, In_default, In-Some}

-- the entry at the place that is read has this level
abbrev IsRead : After-index-older → ℕ → Type 0
IsRead c n =
    (e : TrailEntry) × (slice_get c.self.inside.entries.items c.index-older.result.now ≡ Some e)
    × (e.level ≡ n)

read : (c : After-index-older) (l : Lit) (n : ℕ) → variable l ≡ variable c.args.l →
    true_at c.args.self.now.entries l ≡ Some n → IsRead c n
read c l n same is =
    let p = c.self.inside in let store = c.self.invariant in
    level_read p.vars p.entries.items p.places.items (omega (arith, store.many, p.places.ok.0))
    store.placed l c.variable.result c.index-older.result.now n store.trail.once
    (subst (λ (v : ℕ). (1 ≤ v) × (v ≤ p.vars)) (sym same) (rw (← c.self.view_is) at c.requires))
    (c.variable.ensures ∙ sym same) c.index-older.ensures (rw (← c.self.view_is) at is)

-- so there is one
not_none : (c : In_default) (e : TrailEntry) →
    slice_get c.self.inside.entries.items c.index-older.result.now ≡ Some e → ⊥
not_none c e is =
    let lt = slice_get_within c.self.inside.entries.items c.index-older.result.now e is in
    omega (arith, lt, c.in_default.ensures.lookup.3, ap length c.deref.ensures.value)

is_some : (c : In-Some) (e : TrailEntry) →
    slice_get c.self.inside.entries.items c.index-older.result.now ≡ Some e →
    c.in-Some.entry.now ≡ e
is_some c e is =
    (rw c.deref.ensures.value at c.in-Some.ensures.lookup.1)
    ∙ get_or_from_slice_get c.self.inside.entries.items c.index-older.result.now e
    c.in-Some.entry.now is

pub returns-in_default-clause-is_true : goal.returns-in_default-clause-is_true
returns-in_default-clause-is_true c n is =
    let at = goal.at.returns-in_default-clause-is_true c in
    let e = read at.After-index-older c.args.l n refl is in absurd (not_none at.In_default e.0 e.1)

pub returns-in_default-clause-is_false : goal.returns-in_default-clause-is_false
returns-in_default-clause-is_false c n is =
    let at = goal.at.returns-in_default-clause-is_false c in
    let e = read at.After-index-older (negation c.args.l) n (variable_negation c.args.l) is in
    absurd (not_none at.In_default e.0 e.1)

pub returns-clause-is_true : goal.returns-clause-is_true
returns-clause-is_true c n is =
    let at = goal.at.returns-clause-is_true c in
    let e = read at.After-index-older c.args.l n refl is in
    ap (λ (x : TrailEntry). x.level) (is_some at.In-Some e.0 e.1) ∙ e.2

pub returns-clause-is_false : goal.returns-clause-is_false
returns-clause-is_false c n is =
    let at = goal.at.returns-clause-is_false c in
    let e = read at.After-index-older (negation c.args.l) n (variable_negation c.args.l) is in
    ap (λ (x : TrailEntry). x.level) (is_some at.In-Some e.0 e.1) ∙ e.2
