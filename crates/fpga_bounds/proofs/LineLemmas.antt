-- The faults of a net's lines, taken line by line.
use Rattle.std.proofs.Common.{◌≡◌, ℕ, zero, suc, ◌+◌, ◌-◌, ◌<◌, ◌≤◌, Bool, true, false, Option, Some, None, List, [], ◌∷◌, ◌++◌, length, take, drop, get_or, refl, sym, ap, subst, ◌∙◌, arith, length-drop, add-one}
use Rattle.std.specs.Prelude.{◌&&◌, ◌==◌, not, map, flat_map, slice_get, option_map, if◌then◌else◌}
use Rattle.std.specs.BTreeSet.{BTreeSet}
use Rattle.std.specs.List.{list_any, last_or}
use Rattle.std.specs.Option.{option_or}
use Rattle.std.proofs.lemmas.Bool.{false≢true}
use Rattle.std.proofs.lemmas.Bool.Decides.{nat_tests}
use Rattle.std.proofs.lemmas.List.{map-append}
use Rattle.list_laws.proofs.Places.{get-there, take-get}
use Rattle.fpga_text.specs.Codes.{first_code}
use Rattle.fpga_text.specs.FirstFault.{Faults, IsFaultOf, IsFaultless, IsRefusal, first_fault}
use Rattle.fpga_text.proofs.FaultLemmas.{IsPast, past-line, past-part, refusal-line, refusal-part}
use Rattle.fpga_text.specs.declared.fault.TextFault.{TextFault}
use Rattle.fpga_text.specs.declared.fault.TextFault.TheVariants.{Bad, Limit, Memory}
use Rattle.fpga_types.specs.Size.{Size}
use Rattle.fpga_types.specs.Fit.{LineContext, RouteLine, comes_again, context_of, fit_codes, is_out_of_order, is_pin_of, leaps, line_fault, net_lines, same_elem, slots_past, splits, starts_loose}
use Rattle.fpga_types.specs.Kinds.{is_channel}
use Rattle.fpga_types.specs.Slots.{channel_at, elem_slot, same_slot}
use Rattle.fpga_types.specs.declared.limits.TheConstants.{SLOT_LIMIT}
use Rattle.fpga_types.specs.declared.grid.Cell.{Cell}
use Rattle.fpga_types.specs.declared.problem.Slot.{Slot}
use Rattle.fpga_types.specs.declared.route.Elem.{Elem}
use Rattle.fpga_types.specs.declared.route.ElemKind.{ElemKind}
use Rattle.fpga_types.specs.declared.route.ElemKind.TheVariants.{Source, Opin, ChanX, ChanY, Ipin, Sink}
use Rattle.fpga_types.specs.declared.route.Label.TheVariants.{Class}
use Rattle.fpga_types.specs.declared.route.RouteNet.{RouteNet}
use Rattle.fpga_types.proofs.FitLemmas.{drop-splits, drop-splits_none}
use Rattle.fpga_bounds.specs.Keys.{has_elem}
use Rattle.fpga_bounds.specs.ElemContext.{IsLineOf}
use Rattle.fpga_bounds.specs.NetFit.{elems_faults, head_line, line_at, nets_faults, slots_so_far}
use Rattle.fpga_bounds.specs.declared.keys.ElemKey.{ElemKey}
use Rattle.fpga_bounds.proofs.SlotsOfLemmas.{again-slot}

-- the line of the element at this position
abbrev pub elem_line : List RouteNet → RouteNet → ℕ → Elem → RouteLine
elem_line earlier net i e = line_at earlier net (take i net.elems, e, drop (suc i) net.elems)

-- what is read past the end of a net's elements
abbrev pub NO_ELEM : Elem
NO_ELEM = record { kind = Source; x = 0; y = 0; label = Class; number = 0; line = 0 }

module _ (fault : RouteLine → Option TextFault) where
  -- the lines of a net come before those of the next
  pub nets-net : (nets : List RouteNet) (n : ℕ) (net : RouteNet) → slice_get nets n ≡ Some net
      → nets_faults fault nets n ≡ fault (head_line (take n nets) net)
      ∷ (elems_faults fault (take n nets) net 0 ++ nets_faults fault nets (n + 1))
  nets-net nets n net here =
      ap (λ ss. map fault (flat_map (λ s. net_lines s.0 s.1) ss)) (drop-splits nets n net here)
      ∙ map-append fault (net_lines (take n nets) net)
      (flat_map (λ s. net_lines s.0 s.1) (drop (suc n) (splits nets)))
      ∙ ap (λ m. fault (head_line (take n nets) net)
      ∷ (elems_faults fault (take n nets) net 0 ++ nets_faults fault nets m)) (sym (add-one n))

  -- no net is left
  pub nets-none : (nets : List RouteNet) (n : ℕ) → slice_get nets n ≡ None
      → nets_faults fault nets n ≡ []
  nets-none nets n none =
      ap (λ ss. map fault (flat_map (λ s. net_lines s.0 s.1) ss)) (drop-splits_none nets n none)

  -- the line of an element comes before those of the next
  pub elems-elem : (earlier : List RouteNet) (net : RouteNet) (i : ℕ) (e : Elem)
      → slice_get net.elems i ≡ Some e
      → elems_faults fault earlier net i ≡ fault (elem_line earlier net i e)
      ∷ elems_faults fault earlier net (i + 1)
  elems-elem earlier net i e there =
      ap (λ ss. map fault (map (line_at earlier net) ss)) (drop-splits net.elems i e there)
      ∙ ap (λ m. fault (elem_line earlier net i e) ∷ elems_faults fault earlier net m)
      (sym (add-one i))

  -- no line is left
  pub elems-none : (earlier : List RouteNet) (net : RouteNet) (i : ℕ)
      → slice_get net.elems i ≡ None → elems_faults fault earlier net i ≡ []
  elems-none earlier net i none =
      ap (λ ss. map fault (map (line_at earlier net) ss)) (drop-splits_none net.elems i none)

module _ (fault : RouteLine → Option TextFault) (all : Faults) (earlier : List RouteNet)
    (net : RouteNet) (i : ℕ) where
  module _ (e : Elem) (there : slice_get net.elems i ≡ Some e)
      (past : IsPast all (elems_faults fault earlier net i)) where
    at-line : IsPast all (fault (elem_line earlier net i e)
        ∷ elems_faults fault earlier net (i + 1))
    at-line = subst (IsPast all) (elems-elem fault earlier net i e there) past

    -- one line more has no fault
    pub past-elem : fault (elem_line earlier net i e) ≡ None
        → IsPast all (elems_faults fault earlier net (i + 1))
    past-elem clean = past-line at-line clean

    -- or it has one
    pub refused-elem : (found : TextFault) → IsFaultOf (fault (elem_line earlier net i e)) found
        → IsRefusal all found
    refused-elem found is = refusal-line found at-line is

  -- no line is left
  pub past-elems : slice_get net.elems i ≡ None → IsPast all (elems_faults fault earlier net i)
      → IsFaultless all
  past-elems none past = past.same ∙ ap first_fault (elems-none fault earlier net i none)

module _ (fault : RouteLine → Option TextFault) (all : Faults) (nets : List RouteNet) (n : ℕ)
    (net : RouteNet) (here : slice_get nets n ≡ Some net)
    (past : IsPast all (nets_faults fault nets n)) where
  at-net : IsPast all (fault (head_line (take n nets) net)
      ∷ (elems_faults fault (take n nets) net 0 ++ nets_faults fault nets (n + 1)))
  at-net = subst (IsPast all) (nets-net fault nets n net here) past

  -- the Net line has a fault
  pub refused-head : (found : TextFault) → IsFaultOf (fault (head_line (take n nets) net)) found
      → IsRefusal all found
  refused-head found is = refusal-line found at-net is

  -- it has none
  module _ (clean : fault (head_line (take n nets) net) ≡ None) where
    -- an element line has one
    pub refused-elems : (found : TextFault)
        → IsRefusal (elems_faults fault (take n nets) net 0) found → IsRefusal all found
    refused-elems found is =
        refusal-part (elems_faults fault (take n nets) net 0) (nets_faults fault nets (n + 1)) found
        (past-line at-net clean) is

    -- no element line has one
    pub past-net : IsFaultless (elems_faults fault (take n nets) net 0)
        → IsPast all (nets_faults fault nets (n + 1))
    past-net clean_elems = past-part (elems_faults fault (take n nets) net 0)
        (nets_faults fault nets (n + 1)) (past-line at-net clean) clean_elems

-- nothing stands past the end
pub get-none : {T : Type 0} (xs : List T) (i : ℕ) → length xs ≤ i → slice_get xs i ≡ None
get-none [] i past = refl
get-none (x ∷ xs) zero past = absurd (omega arith)
get-none (x ∷ xs) (suc i) past = get-none xs i (omega arith)

-- a fault that was found is one of the line
pub found-fault : (fault : Option TextFault) (found : TextFault) → Some found ≡ fault
    → IsFaultOf fault found
found-fault fault (Bad line code) is = sym is
found-fault fault (Limit code count) is = sym is
found-fault fault Memory is = tt

-- the line of an element that a loop reads, by what it has at hand
pub line-of : (earlier : List RouteNet) (net : RouteNet) (elems : List Elem) (i : ℕ)
    (previous : Option Elem) (again taken : Bool) (seen : BTreeSet ElemKey)
    → elems ≡ net.elems → i < length elems → previous ≡ last_or None (take i elems)
    → again ≡ list_any (same_elem (get_or elems i NO_ELEM)) (take i elems)
    → taken ≡ is_pin_of earlier (get_or elems i NO_ELEM)
    → ((q : Elem) → has_elem seen q ≡ list_any (same_elem q) (take (i + 1) elems))
    → IsLineOf (record {
      elem = get_or elems i NO_ELEM;
      previous = previous;
      again = again;
      taken = taken;
      full = length (slots_so_far earlier net i) == SLOT_LIMIT;
      last = i + 1 == length elems;
      global = net.global;
    }) seen (elem_line earlier net i (get_or elems i NO_ELEM))
line-of earlier net elems i previous again taken seen own within p a t has =
    record {
      elem = refl;
      context = λ k. record {
        elem = Some e;
        previous = (p ∙ ap (λ (es : List Elem). last_or None (take i es)) own) k;
        again = (a ∙ ap (λ (es : List Elem). list_any (same_elem e) (take i es)) own) k;
        taken = t k;
        full = length (slots_so_far earlier net i) == SLOT_LIMIT;
        last = (last ∙ ap (λ (es : List Elem). length (drop (suc i) es) == 0) own) k;
        global = net.global;
      };
      seen_are = λ q. has q
          ∙ ap (list_any (same_elem q)) (rw add-one (take-get elems i e here)
          ∙ ap (λ (es : List Elem). take i es ++ e ∷ []) own);
    }
  where
    e : Elem
    e = get_or elems i NO_ELEM

    here : slice_get elems i ≡ Some e
    here = get-there elems i e NO_ELEM within refl

    ends : (a n : ℕ) → a < n → (a + 1 == n) ≡ (n - suc a == 0)
    ends a n g = grind (arith, nat_tests)

    last : (i + 1 == length elems) ≡ (length (drop (suc i) elems) == 0)
    last = rw length-drop (ends i (length elems) within)

-- a line without a fault passes each test
pub record Passes (grid : Size) (at : LineContext) : Type 0 where
  pub leaps : leaps grid at ≡ false
  pub ordered : is_out_of_order at ≡ false
  pub past : slots_past at ≡ None

pub passes : (grid : Size) (n : ℕ) (at : LineContext) → first_code fit_codes grid n at ≡ None
    → Passes grid at
passes grid n at clean =
    go (leaps grid at) (comes_again at) (starts_loose at) at.taken (is_out_of_order at)
    (slots_past at)
    refl refl refl clean
  where
    go : (a b c d e : Bool) (o : Option ℕ) → leaps grid at ≡ a → is_out_of_order at ≡ e
        → slots_past at ≡ o
        → (if a then Some (Bad n 510) else if b then Some (Bad n 511) else if c then Some
        (Bad n 512)
        else if d then Some (Bad n 513) else if e then Some (Bad n 514)
        else option_or (option_map (λ m. Limit 515 m) o) None) ≡ None → Passes grid at
    go true b c d e o p r q f = absurd (let clash : Some (Bad n 510) ≡ None = f in cc)
    go false true c d e o p r q f = absurd (let clash : Some (Bad n 511) ≡ None = f in cc)
    go false false true d e o p r q f = absurd (let clash : Some (Bad n 512) ≡ None = f in cc)
    go false false false true e o p r q f = absurd (let clash : Some (Bad n 513) ≡ None = f in cc)
    go false false false false true o p r q f = absurd (let clash : Some (Bad n 514)
        ≡ None = f in cc)
    go false false false false false (Some m) p r q f =
        absurd (let clash : Some (Limit 515 m) ≡ None = f in cc)
    go false false false false false None p r q f = record { leaps = p; ordered = r; past = q }

slot_channel : (n : ℕ) (k : ElemKind) (x y : ℕ) (s : Slot)
    → option_map {T = Cell} {U = Slot} (λ cell. record { net = n; cell = cell }) (channel_at k x y)
    ≡ Some s → is_channel k ≡ true
slot_channel n Source x y s h = cc
slot_channel n Opin x y s h = cc
slot_channel n ChanX x y s h = refl
slot_channel n ChanY x y s h = refl
slot_channel n Ipin x y s h = cc
slot_channel n Sink x y s h = cc

-- a slot that an element without a fault brings has room
pub slot-room : (grid : Size) (earlier : List RouteNet) (net : RouteNet) (i : ℕ) (e : Elem)
    (s : Slot)
    → line_fault grid (elem_line earlier net i e) ≡ None → elem_slot (length earlier) e ≡ Some s
    → list_any (same_slot s) (slots_so_far earlier net i) ≡ false
    → length (slots_so_far earlier net i) ≤ SLOT_LIMIT
    → length (slots_so_far earlier net i) < SLOT_LIMIT
slot-room grid earlier net i e s clean slot new limit =
    below (length (slots_so_far earlier net i)) limit
    (open_at (is_channel e.kind) (list_any (same_elem e) (take i net.elems))
    (length (slots_so_far earlier net i) == SLOT_LIMIT)
    (slot_channel (length earlier) e.kind e.x e.y s slot)
    (first_time (list_any (same_elem e) (take i net.elems)) refl)
    (passes grid e.line (context_of (elem_line earlier net i e)) clean).past)
  where
    first_time : (b : Bool) → list_any (same_elem e) (take i net.elems) ≡ b → b ≡ false
    first_time false f = refl
    first_time true f = absurd (false≢true (sym new ∙ again-slot earlier net i e s slot f))

    open_at : (c a f : Bool) → c ≡ true → a ≡ false
        → (if c && not a && f then Some (SLOT_LIMIT + 1) else None) ≡ None → f ≡ false
    open_at true false false p q r = refl
    open_at true false true p q r = absurd (let clash : Some (SLOT_LIMIT + 1) ≡ None = r in cc)
    open_at false a f p q r = cc
    open_at true true f p q r = cc

    below : (m : ℕ) → m ≤ SLOT_LIMIT → (m == SLOT_LIMIT) ≡ false → m < SLOT_LIMIT
    below m p q = grind (arith, nat_tests)
