-- The clauses with pinned tracks have a model exactly where those without have one.
use Rattle.std.proofs.Common.{◌≡◌, ℕ, ◌+◌, ◌<◌, Bool, true, false, cond, List, [], ◌∷◌, ◌++◌, length, length-append, get_or, take, Option, Some, refl, sym, ap, subst, ◌∙◌, inl, arith, All, append-nil}
use Rattle.std.specs.Prelude.{◌↔◌, IsTrue, find, map}
use Rattle.std.specs.Option.{option_map_or}
use Rattle.std.specs.List.{enumerate_from}
use Rattle.std.proofs.lemmas.Bool.Decides.{Decides-eqb}
use Rattle.std.proofs.lemmas.List.{length-map}
use Rattle.std.proofs.lemmas.List.FromFn.{length-enumerate_from}
use Rattle.std.proofs.lemmas.List.Sums.{sum_by-cons}
use Rattle.std.proofs.lemmas.List.Elements.{All-append, All-from_get_or, All-nil, All-take}
use Rattle.list_laws.proofs.Members.{In, In-all, In-append_left, all-from_In, any-from_In, from_In-map}
use Rattle.fpga_types.specs.CellNumbers.{cell_count}
use Rattle.fpga_types.specs.Fits.{Fits}
use Rattle.fpga_types.specs.Given.{IsGiven}
use Rattle.fpga_types.specs.Problem.{RoutingProblem}
use Rattle.fpga_types.specs.Slots.{slots}
use Rattle.fpga_types.specs.declared.route.RouteText.{RouteText}
use Rattle.sat_clause.specs.Formula.{Cnf, IsTrueClause, IsUnsat, Satisfies, makes_true}
use Rattle.sat_clause.specs.Literal.{Clause}
use Rattle.sat_clause.specs.FormulaStore.{FormulaState}
use Rattle.route_encode.specs.Adding.{Adds, HasRoom, lit_count}
use Rattle.route_encode.specs.Bits.{bits}
use Rattle.route_encode.specs.Encoding.{below, cnf_of, has}
use Rattle.route_encode.specs.Exact.{IsLegalRouting, IsUnroutableAt}
use Rattle.route_encode.specs.Good.{IsRoutingOf}
use Rattle.route_encode.proofs.BitLemmas.{says-bits}
use Rattle.route_encode.proofs.ProblemDecoded.{no-routing}
use Rattle.route_encode.proofs.ProblemExactness.{bits-say-legal, models-say-legal}
use Rattle.problem_facts.specs.Full.{is_symmetric}
use Rattle.route_pinned.specs.Pinned.{ArePinned, pin_clauses, pinned_cnf, pinned_row, row_clauses}
use Rattle.problem_facts.specs.Fullest.{has_most, slots_in}
use Rattle.route_pinned.specs.Pins.{pin_row, pinned_slots, pins}
use Rattle.route_pinned.proofs.PinLemmas.{pin-there, pinned-legal, pinned-rivals}

-- what satisfies the clauses with pinned tracks satisfies those without
pub without-pins : (width : ℕ) (p : RoutingProblem) (values : List Bool)
    → Satisfies values (pinned_cnf width p) → Satisfies values (cnf_of width p)
without-pins width p values h = record {
  one_each = h.one_each;
  each_clause = all-from_In (IsTrueClause values) (cnf_of width p).clauses (λ c i.
      In-all (IsTrueClause values) (pinned_cnf width p).clauses c h.each_clause
      (In-append_left (cnf_of width p).clauses
      (cond (is_symmetric width p) (pin_clauses width p) []) c i));
}

-- the bits of a legal routing with the pinned tracks satisfy all clauses
pinned-satisfied : (width : ℕ) (p : RoutingProblem) → IsGiven p → Fits p → (tracks : List ℕ)
    → IsLegalRouting width p tracks → ArePinned width p tracks
    → Satisfies (bits width tracks) (pinned_cnf width p)
pinned-satisfied width p given fits tracks legal pinned =
    let strict = (bits-say-legal width p fits tracks legal.each).1 legal in record {
      one_each = strict.one_each;
      each_clause = All-append (IsTrueClause (bits width tracks)) (cnf_of width p).clauses
          (cond (is_symmetric width p) (pin_clauses width p) []) strict.each_clause
          (go (is_symmetric width p));
    }
  where
    one : (pin : ℕ × ℕ) → In (pins width p) pin
        → IsTrueClause (bits width tracks) (has width pin.0 pin.1 ∷ [])
    one pin i =
        let there = pin-there width p given pin i in
        let is : get_or tracks pin.0 0 ≡ pin.1 =
        In-all (λ (q : ℕ × ℕ). get_or tracks q.0 0 ≡ q.1) (pins width p) pin pinned i in
        any-from_In (λ l. IsTrue (makes_true (bits width tracks) l)) (has width pin.0 pin.1 ∷ [])
        (has width pin.0 pin.1) (inl refl)
        (says-bits width tracks pin.0 pin.1 (λ k low. legal.within k 0 low)
        (omega (arith, there.0, legal.each)) there.1
        ∙ (Decides-eqb pin.1 (get_or tracks pin.0 0)).1 (sym is))

    go : (b : Bool) → All (IsTrueClause (bits width tracks)) (cond b (pin_clauses width p) [])
    go true = all-from_In (IsTrueClause (bits width tracks)) (pin_clauses width p) (λ c i.
        let made = from_In-map (λ (pin : ℕ × ℕ). has width pin.0 pin.1 ∷ []) (pins width p) c i in
        subst (IsTrueClause (bits width tracks)) made.2 (one made.0 made.1))
    go false = All-nil (IsTrueClause (bits width tracks))

-- where the clauses with pinned tracks have no model, there is no routing
pub no-pinned : (width : ℕ) (p : RoutingProblem) → IsGiven p → Fits p
    → IsUnsat (pinned_cnf width p) → (found : RouteText) → ¬ IsRoutingOf width p found
no-pinned width p given fits none found good = go (is_symmetric width p) refl
  where
    go : (b : Bool) → is_symmetric width p ≡ b → ⊥
    go true e =
        let r = pinned-legal width p given fits e (_, good.legal) in
        none (bits width r.0) (pinned-satisfied width p given fits r.0 r.1 r.2)
    go false e = no-routing width p fits (λ values h. none values (record {
      one_each = h.one_each;
      each_clause = All-append (IsTrueClause values) (cnf_of width p).clauses
          (cond (is_symmetric width p) (pin_clauses width p) []) h.each_clause
          (subst (λ (c : Bool). All (IsTrueClause values) (cond c (pin_clauses width p) []))
          (sym e) (All-nil (IsTrueClause values)));
    })) found good

-- ---- the clauses as they are made

map-twice : {A B C : Type 0} (f : B → C) (g : A → B) (xs : List A)
    → map f (map g xs) ≡ map (λ x. f (g x)) xs
map-twice f g [] = refl
map-twice {A} {B} {C} f g (x ∷ xs) = ap (λ (ys : List C). f (g x) ∷ ys) (map-twice f g xs)

pub pins-are-row : (width : ℕ) (p : RoutingProblem)
    → pin_clauses width p ≡ row_clauses width (pin_row width p)
pins-are-row width p =
    map-twice (λ (pin : ℕ × ℕ). has width pin.0 pin.1 ∷ []) (λ (e : ℕ × ℕ). (e.1, e.0))
    (enumerate_from 0 (pin_row width p))

-- a row of so many slots makes as many clauses, each of one literal
pub length-row : (width : ℕ) (row : List ℕ) → length (row_clauses width row) ≡ length row
length-row width row =
    length-map (enumerate_from 0 row) (λ pin. has width pin.1 pin.0 ∷ [])
    ∙ length-enumerate_from 0 row

pub lits-row : (width : ℕ) (row : List ℕ) → lit_count (row_clauses width row) ≡ length row
lits-row width row = ones 0 row
  where
    ones : (n : ℕ) (xs : List ℕ)
        → lit_count (map (λ (pin : ℕ × ℕ). has width pin.1 pin.0 ∷ []) (enumerate_from n xs))
        ≡ length xs
    ones n [] = refl
    ones n (x ∷ xs) =
        sum_by-cons length (has width x n ∷ [])
        (map (λ (pin : ℕ × ℕ). has width pin.1 pin.0 ∷ []) (enumerate_from (n + 1) xs))
        ∙ omega (arith, ones (n + 1) xs)

-- the clauses are those without pins and those of the pinned slots
pub cnf-row : (width : ℕ) (p : RoutingProblem) → (pinned_cnf width p).clauses
    ≡ (cnf_of width p).clauses ++ row_clauses width (pinned_row width p)
cnf-row width p =
    ap (λ (cs : List Clause). (cnf_of width p).clauses ++ cs) (go (is_symmetric width p))
  where
    go : (b : Bool) → cond b (pin_clauses width p) []
        ≡ row_clauses width (cond b (pin_row width p) [])
    go true = pins-are-row width p
    go false = refl

-- so there is one more for each
pub count-row : (width : ℕ) (p : RoutingProblem) (row : List ℕ) → row ≡ pinned_row width p
    → length (pinned_cnf width p).clauses ≡ length (cnf_of width p).clauses + length row
count-row width p row is =
    ap length (cnf-row width p)
    ∙ length-append (cnf_of width p).clauses (row_clauses width (pinned_row width p))
    ∙ omega (arith, length-row width (pinned_row width p), ap length is)

-- without pins where not all tracks are alike
pub cnf-plain : (width : ℕ) (p : RoutingProblem) → is_symmetric width p ≡ false
    → pinned_cnf width p ≡ cnf_of width p
cnf-plain width p plain =
    ap (λ (cs : List Clause). record { vars = (cnf_of width p).vars; clauses = cs })
    (ap (λ (b : Bool). (cnf_of width p).clauses ++ cond b (pin_clauses width p) []) plain
    ∙ append-nil (cnf_of width p).clauses)

-- the slots of the first cell that the most take are the pinned ones
pub row-is : (width : ℕ) (p : RoutingProblem) (number : ℕ) (row : List ℕ)
    → is_symmetric width p ≡ true
    → find (has_most p.route.grid (slots p.route)) (below (cell_count p.route.grid)) ≡ Some number
    → row ≡ take width (slots_in p.route.grid (slots p.route) number) → row ≡ pinned_row width p
row-is width p number row full found is =
    is ∙ ap (λ (o : Option ℕ). take width
    (option_map_or (slots_in p.route.grid (slots p.route)) o [])) (sym found)
    ∙ sym (ap (λ (b : Bool). cond b (pin_row width p) []) full)

pub row-none : (width : ℕ) (p : RoutingProblem) → is_symmetric width p ≡ false
    → [] ≡ pinned_row width p
row-none width p plain = sym (ap (λ (b : Bool). cond b (pin_row width p) []) plain)

-- the pinned slots are slots
pub row-there : (width : ℕ) (p : RoutingProblem) → IsGiven p
    → All (λ s. s < length (slots p.route)) (pinned_row width p)
row-there width p given = go (is_symmetric width p)
  where
    go : (b : Bool) → All (λ s. s < length (slots p.route)) (cond b (pin_row width p) [])
    go true = All-take (λ s. s < length (slots p.route)) width
        (pinned_slots p.route.grid (slots p.route))
        (All-from_get_or (λ s. s < length (slots p.route))
        (pinned_slots p.route.grid (slots p.route)) 0 (pinned-rivals p given).within)
    go false = All-nil (λ s. s < length (slots p.route))

-- ---- the clauses that are added behind those of the strict encoding

-- room for so many clauses of one literal is room for a row of so many slots
pub row-room : (width : ℕ) (row : List ℕ) (s : FormulaState) → s.clause_room ≡ length row
    → s.lit_room ≡ length row → HasRoom s (row_clauses width row)
row-room width row s clauses lits = record {
  clause_room = omega (arith, clauses, length-row width row);
  lit_room = omega (arith, lits, lits-row width row);
}

pub pinned-made : (width : ℕ) (p : RoutingProblem) (row : List ℕ) (strict made : FormulaState)
    → strict.cnf ≡ cnf_of width p → Adds strict (row_clauses width row) made
    → row ≡ pinned_row width p → made.cnf ≡ pinned_cnf width p
pinned-made width p row strict made is added row_is =
    let vars_are : made.cnf.vars ≡ (cnf_of width p).vars =
    added.vars ∙ ap (λ (f : Cnf). f.vars) is in
    let clauses_are : made.cnf.clauses ≡ (pinned_cnf width p).clauses =
    added.clauses ∙ ap (λ (f : Cnf). f.clauses ++ row_clauses width row) is
    ∙ ap (λ (r : List ℕ). (cnf_of width p).clauses ++ row_clauses width r) row_is
    ∙ sym (cnf-row width p) in
    λ i. record { vars = vars_are i; clauses = clauses_are i }

-- ---- the clauses with pinned tracks say whether there is a legal routing, pinned or not

plain-satisfied : (width : ℕ) (p : RoutingProblem) (values : List Bool)
    → is_symmetric width p ≡ false
    → Satisfies values (cnf_of width p) → Satisfies values (pinned_cnf width p)
plain-satisfied width p values plain h =
    subst (λ (f : Cnf). Satisfies values f) (sym (cnf-plain width p plain)) h

pub unsat_unroutable : (width : ℕ) (p : RoutingProblem) → IsGiven p → Fits p
    → IsUnsat (pinned_cnf width p) ↔ IsUnroutableAt width p
unsat_unroutable width p given fits = (
  (λ none tracks legal. go none tracks legal (is_symmetric width p) refl),
  (λ none values h.
      let r = models-say-legal width p fits values (without-pins width p values h) in
      none r.0 r.1),
)
  where
    go : IsUnsat (pinned_cnf width p) → (tracks : List ℕ) → IsLegalRouting width p tracks
        → (b : Bool) → is_symmetric width p ≡ b → ⊥
    go none tracks legal true e =
        let r = pinned-legal width p given fits e (tracks, legal) in
        none (bits width r.0) (pinned-satisfied width p given fits r.0 r.1 r.2)
    go none tracks legal false e =
        none (bits width tracks) (plain-satisfied width p (bits width tracks) e
        ((bits-say-legal width p fits tracks legal.each).1 legal))
