-- The causes against the lines of a routed file, taken line by line.
use Rattle.std.proofs.Common.{◌≡◌, ℕ, suc, zero, ◌+◌, ◌≤◌, Bool, true, false, cond, Some, None, List, [], ◌∷◌, ◌++◌, take, drop, refl, sym, ap, ◌∙◌, arith, add-one, append_assoc}
use Rattle.std.specs.Prelude.{◌==◌, ◌&&◌, ◌||◌, is_some, map, flat_map, nat_lt, slice_get}
use Rattle.std.specs.List.{list_any, position_from}
use Rattle.std.specs.Option.{option_map_or}
use Rattle.std.proofs.lemmas.Bool.Decides.{nat_tests}
use Rattle.std.proofs.lemmas.Grind.{flat_map-append}
use Rattle.fpga_bounds.specs.NetFit.{head_line, line_at}
use Rattle.fpga_bounds.proofs.LineLemmas.{elem_line}
use Rattle.list_laws.proofs.Searches.{position-any}
use Rattle.fpga_text.specs.Bytes.{Bytes}
use Rattle.fpga_types.specs.Fit.{net_lines, same_elem, same_pin, same_place, splits}
use Rattle.fpga_types.specs.Fits.{has_net}
use Rattle.fpga_types.specs.Kinds.{is_pin}
use Rattle.fpga_types.specs.declared.route.Elem.{Elem}
use Rattle.fpga_types.specs.declared.route.RouteNet.{RouteNet}
use Rattle.fpga_types.proofs.FitLemmas.{drop-splits, drop-splits_none}
use Rattle.route_verify.specs.Gathered.{causes_by, elems_causes, nets_causes}
use Rattle.route_verify.specs.Judge.{JudgedProblem}
use Rattle.route_verify.specs.Lines.{is_trace_named}
use Rattle.route_verify.specs.Pins.{as_ipin}
use Rattle.route_verify.specs.Traces.{trace_number}
use Rattle.route_verify.specs.declared.line_cause.LineCause.{LineCause}

module _ (j : JudgedProblem) where
  -- the line of an element comes before those of the next
  pub elems-elem : (earlier : List RouteNet) (net : RouteNet) (i : ℕ) (e : Elem)
      → slice_get net.elems i ≡ Some e
      → elems_causes j earlier net i
      ≡ causes_by j (elem_line earlier net i e) ++ elems_causes j earlier net (i + 1)
  elems-elem earlier net i e here =
      ap (λ ss. flat_map (causes_by j) (map (line_at earlier net) ss))
      (drop-splits net.elems i e here)
      ∙ ap (λ m. causes_by j (elem_line earlier net i e) ++ elems_causes j earlier net m)
      (sym (add-one i))

  -- no line is left
  pub elems-none : (earlier : List RouteNet) (net : RouteNet) (i : ℕ)
      → slice_get net.elems i ≡ None → elems_causes j earlier net i ≡ []
  elems-none earlier net i none =
      ap (λ ss. flat_map (causes_by j) (map (line_at earlier net) ss))
      (drop-splits_none net.elems i none)

  -- the lines of a net come before those of the next
  pub nets-net : (nets : List RouteNet) (n : ℕ) (net : RouteNet) → slice_get nets n ≡ Some net
      → nets_causes j nets n ≡ causes_by j (head_line (take n nets) net)
      ++ (elems_causes j (take n nets) net 0 ++ nets_causes j nets (n + 1))
  nets-net nets n net here =
      let head : List LineCause = causes_by j (head_line (take n nets) net) in
      ap (λ ss. flat_map (causes_by j) (flat_map (λ s. net_lines s.0 s.1) ss))
      (drop-splits nets n net here)
      ∙ flat_map-append (causes_by j) (net_lines (take n nets) net)
      (flat_map (λ s. net_lines s.0 s.1) (drop (suc n) (splits nets)))
      ∙ append_assoc head (elems_causes j (take n nets) net 0) (nets_causes j nets (suc n))
      ∙ ap (λ m. head ++ (elems_causes j (take n nets) net 0 ++ nets_causes j nets m))
      (sym (add-one n))

  -- no net is left
  pub nets-none : (nets : List RouteNet) (n : ℕ) → slice_get nets n ≡ None
      → nets_causes j nets n ≡ []
  nets-none nets n none =
      ap (λ ss. flat_map (causes_by j) (flat_map (λ s. net_lines s.0 s.1) ss))
      (drop-splits_none nets n none)

-- what is put behind comes before what is left
pub more : {T : Type 0} (all before after own left rest : List T) → before ++ left ≡ all
    → after ≡ before ++ own → left ≡ own ++ rest → after ++ rest ≡ all
more all before after own left rest so_far put is =
    (λ i. put i ++ rest) ∙ append_assoc before own rest ∙ (λ i. before ++ sym is i) ∙ so_far

-- the test passes nowhere below the first place
none-below : {T : Type 0} (p : T → Bool) (m i : ℕ) (xs : List T) → m ≤ i
    → option_map_or (λ k. nat_lt k m) (position_from p i xs) false ≡ false
none-below p m i [] within = refl
none-below {T} p m i (x ∷ xs) within =
    go (p x) (none-below p m (i + 1) xs (omega (arith, within)))
  where
    go : (b : Bool) → option_map_or (λ k. nat_lt k m) (position_from p (i + 1) xs) false ≡ false
        → option_map_or (λ k. nat_lt k m) (cond b (Some i) (position_from p (i + 1) xs)) false
        ≡ false
    go true later = grind (arith, nat_tests)
    go false later = later

-- the test passes among the front elements where the first place is one of them
first-below : {T : Type 0} (p : T → Bool) (i : ℕ) (xs : List T) (n : ℕ)
    → list_any p (take n xs)
    ≡ option_map_or (λ k. nat_lt k (i + n)) (position_from p i xs) false
first-below p i [] zero = refl
first-below p i [] (suc n) = refl
first-below p i (x ∷ xs) zero = sym (none-below p (i + 0) i (x ∷ xs) (omega arith))
first-below {T} p i (x ∷ xs) (suc n) =
    let same : i + 1 + n ≡ i + suc n = omega arith in
    go (p x) (first-below p (i + 1) xs n
    ∙ ap (λ m. option_map_or (λ k. nat_lt k m) (position_from p (i + 1) xs) false) same)
  where
    go : (b : Bool) → list_any p (take n xs)
        ≡ option_map_or (λ k. nat_lt k (i + suc n)) (position_from p (i + 1) xs) false
        → (b || list_any p (take n xs)) ≡ option_map_or (λ k. nat_lt k (i + suc n))
        (cond b (Some i) (position_from p (i + 1) xs)) false
    go true later = grind (arith, nat_tests)
    go false later = later

-- the same, counted from the first element on
pub below : {T : Type 0} (p : T → Bool) (xs : List T) (n : ℕ)
    → list_any p (take n xs) ≡ option_map_or (λ k. nat_lt k n) (position_from p 0 xs) false
below p xs n =
    let same : 0 + n ≡ n = omega arith in
    first-below p 0 xs n
    ∙ ap (λ m. option_map_or (λ k. nat_lt k m) (position_from p 0 xs) false) same

-- a name stands in some nets exactly where it has a position among them
module _ (nets : List RouteNet) (name : Bytes) where
  pub untraced : None ≡ trace_number nets name → has_net nets name ≡ false
  untraced none = sym (position-any (is_trace_named name) 0 nets) ∙ ap is_some (sym none)

  pub traced : (number : ℕ) → Some number ≡ trace_number nets name → has_net nets name ≡ true
  traced number some = sym (position-any (is_trace_named name) 0 nets) ∙ ap is_some (sym some)

-- a pin more, where pins are kept as IPIN lines
pub pin-more : (q e : Elem) (before : Bool) → is_pin e.kind ≡ true
    → (is_pin q.kind && (before || same_elem (as_ipin q) (as_ipin e)))
    ≡ ((is_pin q.kind && before) || same_pin q e)
pin-more q e before pin =
    go (is_pin q.kind) before (same_place q e) (q.number == e.number)
    ∙ (λ i. (is_pin q.kind && before)
    || (is_pin q.kind && sym pin i && same_place q e && q.number == e.number))
  where
    go : (p b s n : Bool) → (p && (b || (true && s && (false || n))))
        ≡ ((p && b) || (p && true && s && n))
    go false b s n = refl
    go true b s n = refl
