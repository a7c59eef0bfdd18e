-- What a refuted formula of a window says of the placed netlist.
use Rattle.std.proofs.Common.{◌≡◌, ◌⊎◌, ℕ, zero, suc, ◌≤◌, Bool, List, [], true, length, All, ap, sym, refl, subst, ◌∙◌, inl, inr, arith}
use Rattle.std.specs.Prelude.{Contains, IfSome, Option, None, Some, filter, slice_get}
use Rattle.std.proofs.lemmas.Option.{get_or_from_slice_get, slice_get_within}
use Rattle.list_laws.proofs.Members.{In, In-all, In-filter, In-map, In-range, all-from_In, contains-In, list_any-from_In}
use Rattle.list_laws.proofs.Places.{get-In}
use Rattle.fpga_types.specs.Problem.{PlacedNetlist}
use Rattle.route_bound.specs.Corners.{Corners}
use Rattle.route_bound.specs.Ranges.{corners_of}
use Rattle.route_bound.specs.declared.range.CornerRange.{CornerRange}
use Rattle.sat_clause.specs.Formula.{Cnf, IsTrueClause}
use Rattle.sat_clause.specs.Judge.{inputs}
use Rattle.sat_clause.specs.Literal.{Clause}
use Rattle.sat_clause.specs.Live.{clause_at}
use Rattle.sat_clause.specs.Step.{Step}
use Rattle.sat_clause.specs.declared.limits.TheConstants.{CLAUSE_LIMIT}
use Rattle.sat_clause.proofs.LiveLaws.{inputs_at, inputs_none}
use Rattle.sat_clause.proofs.Refutes.{refutes}
use Rattle.cell_clauses.specs.Clauses.{below, cell_clauses, cell_cnf}
use Rattle.cell_clauses.specs.Demands.{demands}
use Rattle.cell_clauses.specs.Frames.{Frame, frame_of}
use Rattle.cell_clauses.specs.Models.{DemandsOther}
use Rattle.cell_clauses.specs.Parts.{HaveNoRouting}
use Rattle.cell_clauses.specs.declared.window.WindowNet.{WindowNet}
use Rattle.cell_clauses.proofs.RoutedLemmas.{parts-are-models, refuted-has-none}
use Rattle.route_core.specs.Blamed.{is_hint, used_places}
use Rattle.route_core.specs.Trimmed.{IsTrimmed}
use Rattle.route_core.proofs.UsedLemmas.{used-is-unsat}
use Rattle.cell_bound.specs.Blamed.{blamed_nets, demands_at, is_blamed, number_at}
use Rattle.cell_bound.specs.Refutations.{IsFoundFor, IsRefuted}
use Rattle.cell_bound.specs.declared.refuting.CellRefutation.{CellRefutation}

-- ---- the nets to blame

module _ (f : Frame) (formula : Cnf) (log : List Step) where
  -- where a clause that is used demands something of a net, that is blamed
  among-blamed : (k i : ℕ) (net : WindowNet) (clause : Clause) → slice_get f.nets k ≡ Some net
      → slice_get formula.clauses i ≡ Some clause → is_hint log (suc i) ≡ true
      → demands f k clause ≡ true → Contains (blamed_nets f formula log) net.number
  among-blamed k i net clause at is used demanded =
      let place = slice_get_within f.nets k net at in
      let low = slice_get_within formula.clauses i clause is in
      let at-place : demands_at f formula.clauses k i ≡ true =
      ap (demands f k) (get_or_from_slice_get formula.clauses i clause [] is) ∙ demanded in
      let one : In (used_places (length formula.clauses) log) i =
      In-filter (λ at. is_hint log (suc at)) (below (length formula.clauses)) i
      (In-range 0 (length formula.clauses) i (omega arith) (omega (arith, low))) used in
      let blamed : is_blamed f formula log k ≡ true =
      list_any-from_In (demands_at f formula.clauses k) (used_places (length formula.clauses) log) i
      one at-place in
      let stands : In (blamed_nets f formula log) (number_at f k) =
      In-map (number_at f) (filter (is_blamed f formula log) (below (length f.nets))) k
      (In-filter (is_blamed f formula log) (below (length f.nets)) k
      (In-range 0 (length f.nets) k (omega arith) (omega (arith, place))) blamed) in
      let number : number_at f k ≡ net.number = rw at refl in
      contains-In (blamed_nets f formula log) net.number
      (subst (In (blamed_nets f formula log)) number stands)

-- they have no routing by themselves
module _ (placed : PlacedNetlist) (corners : Corners) (width : ℕ) (log : List Step) where
  abbrev frame : Frame
  frame = frame_of placed corners width

  abbrev nets : List ℕ
  nets = blamed_nets frame (cell_cnf frame) log

  used-true : (values : List Bool)
      → All (λ clause. IsTrueClause values clause ⊎ DemandsOther frame nets clause)
      (cell_clauses frame)
      → (id : ℕ) (clause : Clause) → is_hint log id ≡ true
      → clause_at (inputs (cell_cnf frame)) id ≡ Some clause → IsTrueClause values clause
  used-true values each zero clause used is =
      absurd (let no : None ≡ Some clause = sym (inputs_none (cell_cnf frame)) ∙ is in cc)
  used-true values each (suc i) clause used is =
      let at : slice_get (cell_clauses frame) i ≡ Some clause =
      sym (inputs_at (cell_cnf frame) i) ∙ is in
      elim (In-all (λ c. IsTrueClause values c ⊎ DemandsOther frame nets c) (cell_clauses frame)
      clause each (get-In (cell_clauses frame) i clause at)) [
        | inl holds ↦ holds
        | inr more ↦
            absurd (more.other (among-blamed frame (cell_cnf frame) log more.place i more.net clause
            more.is_net at used more.demanded))
      ]

  pub blamed-have-none : IsTrimmed (cell_cnf frame) log log → HaveNoRouting placed nets width
  blamed-have-none trimmed = λ tracks has few routing.
      let model = parts-are-models placed corners width nets tracks has few routing in
      used-is-unsat (cell_cnf frame) log trimmed.add_alone trimmed.accepted model.0 model.1.one_each
      (used-true model.0 model.1.each_clause)

-- ---- all of it

module _ (placed : PlacedNetlist) (range : CornerRange) (width : ℕ) (held : Frame) (formula : Cnf)
    (found : CellRefutation) (window : held ≡ frame_of placed (corners_of range) width)
    (clauses : formula ≡ cell_cnf held) (of : IsFoundFor held range formula found) where
  abbrev own : Frame
  own = frame_of placed (corners_of range) width

  frame-is : held ≡ frame_of placed (corners_of found.range) width
  frame-is = window
      ∙ ap (λ (r : CornerRange). frame_of placed (corners_of r) width) (sym of.range_is)

  trimmed-here : IsTrimmed (cell_cnf own) found.log.steps found.log.steps
  trimmed-here = subst (λ (c : Cnf). IsTrimmed c found.log.steps found.log.steps)
      (clauses ∙ ap cell_cnf window) of.refutes.trimmed

  blamed-here : found.nets.items ≡ blamed_nets own (cell_cnf own) found.log.steps
  blamed-here = of.blames ∙ ap (λ (c : Cnf). blamed_nets held c found.log.steps) clauses
      ∙ ap (λ (f : Frame). blamed_nets f (cell_cnf f) found.log.steps) window

  pub is-refuted : IsRefuted placed width found
  is-refuted = record {
    formula = of.formula_is ∙ clauses ∙ ap cell_cnf frame-is;
    few = subst (λ (c : Cnf). length c.clauses ≤ CLAUSE_LIMIT) (sym of.formula_is) of.refutes.few;
    trimmed = subst (λ (c : Cnf). IsTrimmed c found.log.steps found.log.steps) (sym of.formula_is)
        of.refutes.trimmed;
    none = refuted-has-none placed (corners_of range) width (cell_clauses own)
        (all-from_In (Contains (cell_clauses own)) (cell_clauses own)
        (λ clause i. contains-In (cell_clauses own) clause i))
        (refutes (cell_cnf own) found.log.steps trimmed-here.accepted);
    blames = of.blames
        ∙ ap (λ (c : Cnf). blamed_nets held c found.log.steps) (sym of.formula_is)
        ∙ ap (λ (f : Frame). blamed_nets f found.formula.cnf found.log.steps) frame-is;
    alone = subst (λ (nets : List ℕ). HaveNoRouting placed nets width) (sym blamed-here)
        (blamed-have-none placed (corners_of range) width found.log.steps trimmed-here);
  }

-- what holds of a value that is there, if there is one
pub if-there : {A : Type 0} (P Q : A → Type 0) (o : Option A) → ((x : A) → P x → Q x) → IfSome o P
    → IfSome o Q
if-there P Q None f h = h
if-there P Q (Some x) f h = f x h
