-- How marks come to say which tracks the pins of a tree close to it.
use Rattle.std.proofs.Common.{◌≡◌, ℕ, zero, suc, ◌+◌, ◌<◌, ◌≤◌, Bool, true, false, List, [], ◌∷◌, ◌++◌, length, get_or, take, refl, sym, ap, subst, ◌∙◌, inl, inr, arith, All}
use Rattle.std.specs.Prelude.{◌==◌, ◌&&◌, ◌||◌, not, slice_index, slice_index_or, slice_set}
use Rattle.std.specs.List.{list_any}
use Rattle.std.proofs.lemmas.Bool.Decides.{Decides-eqb}
use Rattle.std.proofs.lemmas.List.{get_or-set_other, get_or-set_same, length-set, take_more}
use Rattle.std.proofs.lemmas.List.Folds.{list_any-append}
use Rattle.fpga_graph.specs.declared.opened.TheConstants.{MOST_TRACKS}
use Rattle.fpga_types.specs.Boxes.{opens}
use Rattle.fpga_types.specs.declared.arch.Arch.{Arch}
use Rattle.fpga_types.specs.declared.problem.PinStep.{PinStep}
use Rattle.route_encode.proofs.CompeteLemmas.{differs}
use Rattle.problem_facts.proofs.CellCountLemmas.{cases-eq}
use Rattle.fpga_graph.specs.GraphOf.{GraphOf}
use Rattle.fpga_types.specs.Problem.{RoutingProblem}
use Rattle.fpga_types.specs.Slots.{pin_steps, slots, steps as steps_of}
use Rattle.fpga_types.specs.declared.arch.Pattern.TheVariants.{Subset}
use Rattle.problem_facts.specs.Crowd.{tree_of}
use Rattle.problem_facts.proofs.TreeLemmas.{length-roots, roots-within}
use Rattle.problem_facts.specs.Alone.{AreClosed, HasTrackless, IsFull, IsTrackless, closes}

-- one step more is looked at
any-next : (p : PinStep → Bool) (steps : List PinStep) (i : ℕ) (step : PinStep)
    → i < length steps → step ≡ get_or steps i step
    → list_any p (take (i + 1) steps) ≡ (list_any p (take i steps) || p step)
any-next p steps i step inside at =
    ap (list_any p) (take_more steps i step inside
    ∙ ap (λ (s : PinStep). take i steps ++ s ∷ []) (sym at))
    ∙ list_any-append p (take i steps) (step ∷ [])
    ∙ one (p step) (list_any p (take i steps))
  where
    one : (b a : Bool) → (a || (b || false)) ≡ (a || b)
    one true a = refl
    one false a = refl

or-false : (a : Bool) → (a || false) ≡ a
or-false true = refl
or-false false = refl

module _ (arch : Arch) (width : ℕ) (roots : List ℕ) (steps : List PinStep) (i : ℕ)
    (step : PinStep) (rows : List (List Bool)) (row : List Bool)
    (inside : i < length steps) (at : step ≡ get_or steps i step)
    (low : slice_index roots step.slot < length rows)
    (closed : AreClosed arch width roots (take i steps) rows)
    (marked : (t : ℕ) → t < MOST_TRACKS → slice_index_or row t false
    ≡ (slice_index_or (slice_index_or rows (slice_index roots step.slot) []) t false
    || not (opens arch width step.pin t))) where
  abbrev root : ℕ
  root = slice_index roots step.slot

  -- the row of the step's tree is marked, and the others stay
  pub close-next : AreClosed arch width roots (take (i + 1) steps) (slice_set rows root row)
  close-next tree t within most = elim (cases-eq tree root) [
    | inl same ↦
        (let test : (root == tree) ≡ true = (Decides-eqb root tree).1 (sym same) in
        ap (λ (n : ℕ). slice_index_or (slice_index_or (slice_set rows root row) n []) t false)
        same
        ∙ ap (λ (r : List Bool). slice_index_or r t false)
        (get_or-set_same rows root row [] low)
        ∙ marked t most
        ∙ ap (λ (b : Bool). b || not (opens arch width step.pin t))
        (ap (λ (n : ℕ). slice_index_or (slice_index_or rows n []) t false) (sym same)
        ∙ closed tree t (omega (arith, here)) most)
        ∙ ap (λ (b : Bool). list_any test_of (take i steps)
        || (b && not (opens arch width step.pin t))) (sym test)
        ∙ sym (any-next test_of steps i step inside at))
    | inr other ↦
        (let test : (root == tree) ≡ false = differs root tree (λ e. other (sym e)) in
        ap (λ (r : List Bool). slice_index_or r t false)
        (get_or-set_other rows root tree row [] other)
        ∙ closed tree t (omega (arith, here)) most
        ∙ sym (or-false (list_any test_of (take i steps)))
        ∙ ap (λ (b : Bool). list_any test_of (take i steps)
        || (b && not (opens arch width step.pin t))) (sym test)
        ∙ sym (any-next test_of steps i step inside at))
  ]
    where
      test_of : PinStep → Bool
      test_of = closes arch width roots tree t

      here : tree < length rows
      here = omega (arith, within, length-set rows root row)

-- one row more without a mark
pub push-empty : (rows : List (List Bool)) (row : List Bool)
    → ((tree t : ℕ) → slice_index_or (slice_index_or rows tree []) t false ≡ false)
    → ((t : ℕ) → slice_index_or row t false ≡ false)
    → (tree t : ℕ) → slice_index_or (slice_index_or (rows ++ row ∷ []) tree []) t false ≡ false
push-empty [] row none empty zero t = empty t
push-empty [] row none empty (suc n) t = refl
push-empty (r ∷ rows) row none empty zero t = none zero t
push-empty (r ∷ rows) row none empty (suc n) t =
    push-empty rows row (λ tree s. none (suc tree) s) empty n t

-- ---- the trees of a problem

pub count-roots : (p : RoutingProblem) → length (tree_of p) ≡ length (slots p.route)
count-roots p = length-roots (steps_of p.route) (length (slots p.route))

module _ (p : RoutingProblem) (roots : List ℕ) (are : roots ≡ tree_of p) where
  pub root-within : All (λ root. root < length roots) roots
  root-within = subst (λ (row : List ℕ). All (λ root. root < length row) row) (sym are)
      (subst (λ (n : ℕ). All (λ root. root < n) (tree_of p)) (sym (count-roots p))
      (roots-within (steps_of p.route) (length (slots p.route))))

-- ---- the rows that were filled

module _ (width : ℕ) (p : RoutingProblem) (g : GraphOf) (roots : List ℕ) (found : List PinStep)
    (rows : List (List Bool)) (most : width ≤ MOST_TRACKS) (arch_is : g.arch ≡ p.arch)
    (width_is : g.width ≡ width) (roots_are : roots ≡ tree_of p)
    (found_are : found ≡ pin_steps p.route) (each : length rows ≡ length roots)
    (closed : AreClosed g.arch g.width roots found rows) where
  count-rows : length rows ≡ length (slots p.route)
  count-rows = each ∙ ap (λ (row : List ℕ). length row) roots_are ∙ count-roots p

  row-seen : (tree track : ℕ) → tree < length rows → track < width
      → slice_index_or (slice_index_or rows tree []) track false
      ≡ list_any (closes p.arch width (tree_of p) tree track) (pin_steps p.route)
  row-seen tree track low inside =
      closed tree track low (omega (arith, inside, most))
      ∙ (λ i. list_any (closes (arch_is i) (width_is i) (roots_are i) tree track) (found_are i))

  -- a full row is that of a tree without a track
  pub full-trackless : p.arch.pattern ≡ Subset → (tree : ℕ) → tree < length rows
      → IsFull width (slice_index_or rows tree []) → IsTrackless width p tree
  full-trackless subset tree low full = record {
    keeps = subset;
    slot = omega (arith, low, count-rows);
    closed = λ track inside. sym (row-seen tree track low inside) ∙ full track inside;
  }

  -- where no row is full, each tree has a track
  pub none-trackless : ((s : ℕ) → s < length rows → ¬ IsFull width (slice_index_or rows s []))
      → ¬ HasTrackless width p
  none-trackless none one =
      let low : one.0 < length rows = omega (arith, one.1.slot, count-rows) in
      none one.0 low (λ track inside. row-seen one.0 track low inside ∙ one.1.closed track inside)
