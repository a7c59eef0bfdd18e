-- A routed file that is judged legal strictly fits as a global route, and `verify` takes it within
-- its own cells.
use Rattle.std.proofs.Common.{◌≡◌, ℕ, ◌+◌, ◌≤◌, zero, suc, Bool, true, false, Option, Some, None, List, [], ◌∷◌, length, take, refl, sym, ap, subst, inl, inr, ◌∙◌, arith}
use Rattle.std.specs.Prelude.{◌&&◌, ◌||◌, ◌==◌, ⊤, is_none, map, nat_lt, not, option_and_then, option_map, slice_get, if◌then◌else◌}
use Rattle.std.specs.List.{last_or, list_any}
use Rattle.std.specs.Option.{option_map_or, option_or}
use Rattle.std.proofs.Math.Bool.{and-false, or-true}
use Rattle.std.proofs.lemmas.Bool.{eq-eqb, false≢true, not-false, or_parts}
use Rattle.list_laws.proofs.Members.{In, In-all, In-append_cases, from_In-map, list_any-from_In}
use Rattle.list_laws.proofs.Places.{find-first, get-In, get-before, last-push, take-get}
use Rattle.fpga_bounds.specs.NetFit.{head_line}
use Rattle.fpga_bounds.proofs.LineLemmas.{elem_line}
use Rattle.fpga_bounds.proofs.SlotCountLemmas.{AreTracks, many-slots}
use Rattle.fpga_graph.specs.GraphOf.{GraphOf}
use Rattle.fpga_text.specs.FirstFault.{Faults, IsFaultless, first_fault}
use Rattle.fpga_text.specs.declared.fault.TextFault.{TextFault}
use Rattle.fpga_text.specs.declared.fault.TextFault.TheVariants.{Bad, Limit, Memory}
use Rattle.fpga_types.specs.Boxes.{opens}
use Rattle.fpga_types.specs.Fabric.{Meeting, meeting}
use Rattle.fpga_types.specs.Fit.{RouteLine, are_apart, comes_again, context_of, is_out_of_order, leaps, line_number, route_lines, same_elem, slots_past, starts_loose}
use Rattle.fpga_types.specs.Fits.{Device, Fits, ProblemContext, device_of, end_fault, is_off, is_other_pin, is_other_sink, is_other_source, is_pin_apart, is_repeated, is_sink_not_once, is_unknown, net_line_fault, problem_context, problem_faults}
use Rattle.fpga_types.specs.Kinds.{is_channel, is_ipin, is_opin, is_sink, takes}
use Rattle.fpga_types.specs.Problem.{PlacedNetlist, RoutingProblem}
use Rattle.fpga_types.specs.Slots.{elem_cell, elem_pin, slots}
use Rattle.fpga_types.specs.Sound.{IsSound, IsSoundElem, IsSoundNet}
use Rattle.fpga_types.specs.Touching.{touches}
use Rattle.fpga_types.specs.Tracks.{mapped_track}
use Rattle.fpga_types.specs.declared.grid.Cell.{Cell}
use Rattle.fpga_types.specs.declared.grid.PinAt.{PinAt}
use Rattle.fpga_types.specs.declared.grid.Wire.{Wire}
use Rattle.fpga_types.specs.declared.limits.TheConstants.{SLOT_LIMIT}
use Rattle.fpga_types.specs.declared.route.Elem.{Elem}
use Rattle.fpga_types.specs.declared.route.ElemKind.{ElemKind}
use Rattle.fpga_types.specs.declared.route.ElemKind.TheVariants.{ChanX, ChanY}
use Rattle.fpga_types.specs.declared.route.Label.{Label}
use Rattle.fpga_types.specs.declared.route.Label.TheVariants.{Track}
use Rattle.fpga_types.specs.declared.route.RouteNet.{RouteNet}
use Rattle.fpga_types.specs.declared.route.RouteText.{RouteText}
use Rattle.fpga_types.proofs.MeetingLemmas.{both_true}
use Rattle.fpga_types.proofs.NameLaws.{name_itself}
use Rattle.route_judge.specs.Judged.{placed_judged, placed_line_cause, placed_route_causes, problem_with}
use Rattle.route_judge.proofs.CauseLemmas.{first-is-cause}
use Rattle.route_judge.proofs.CleanLines.{all-there, new, one-size, quiet}
use Rattle.route_judge.proofs.LineCauses.{HasNoCause, fine-line, from-parts, parts-of}
use Rattle.route_verify.specs.Judged.{array_cause, end_cause, graph_of, judged, judgement_by, line_cause}
use Rattle.route_verify.specs.Lines.{is_stray_in, is_trace_named, judged_line, trace_named}
use Rattle.route_verify.specs.Wiring.{are_joined, are_parted, are_unconnected, elem_wire, is_past_width, misses, reaches}
use Rattle.route_verify.specs.declared.judgement.Judgement.TheVariants.{Legal}
use Rattle.route_verify.proofs.CodeLemmas.{faultless-lines}
use Rattle.route_verify.proofs.LegalLines.{same_kind-itself, same_label-itself}
use Rattle.route_verify.proofs.LimitLemmas.{legal-exactly}
use Rattle.route_verify.proofs.TrackedLines.{elem-among, head-among, lines-each}

-- a line equals itself
elem-itself : (e : Elem) → same_elem e e ≡ true
elem-itself e = rw (
  same_kind-itself e.kind,
  eq-eqb e.x e.x refl,
  eq-eqb e.y e.y refl,
  same_label-itself e.label,
  eq-eqb e.number e.number refl,
) (or-true (is_channel e.kind))

-- a channel in a new cell does not come again, nor does another line that is new
not-again : (sink branch again channel wire : Bool)
    → (channel && again && not (branch && wire)) ≡ false
    → (not sink && not branch && again && not channel) ≡ false
    → (not sink && not branch && again) ≡ false
not-again sink branch false channel wire cell other = and-false (not sink && not branch)
not-again true branch true channel wire cell other = refl
not-again false true true channel wire cell other = refl
not-again false false true true wire cell other = absurd (false≢true (sym cell))
not-again false false true false wire cell other = absurd (false≢true (sym other))

-- a branch that is not loose on its wire is not loose
not-loose : (ipin sink branch again wire : Bool)
    → (not ipin && not sink && branch && not (again && wire)) ≡ false
    → (not ipin && not sink && branch && not again) ≡ false
not-loose ipin sink branch true wire none = and-false (not ipin && not sink && branch)
not-loose ipin sink branch false wire none = none

-- none of the codes holds that the netlist and the placement give a line
record HasNoProblem (device : Device) (at : ProblemContext) : Type 0 where
  known : is_unknown at ≡ false
  first : is_repeated at ≡ false
  source : is_other_source at ≡ false
  sink : is_other_sink at ≡ false
  once : is_sink_not_once at ≡ false
  pin : is_other_pin device at ≡ false
  near : is_pin_apart device at ≡ false
  meets : leaps device.grid at.route ≡ false
  new : comes_again at.route ≡ false
  joined : starts_loose at.route ≡ false
  alone : at.route.taken ≡ false
  order : is_out_of_order at.route ≡ false

-- the line is refused for the slots alone, if it is
abbrev pub IsForRoom : Option TextFault → Type 0
IsForRoom None = ⊤
IsForRoom (Some (Limit code count)) = ⊤
IsForRoom (Some (Bad line code)) = ⊥
IsForRoom (Some Memory) = ⊥

first-for-room : (fault : Option TextFault) (faults : Faults) → IsForRoom fault
    → IsForRoom (first_fault faults) → IsForRoom (option_or fault (first_fault faults))
first-for-room None faults one more = more
first-for-room (Some (Limit code count)) faults one more = tt
first-for-room (Some (Bad line code)) faults one more = absurd one
first-for-room (Some Memory) faults one more = absurd one

all-for-room : (faults : Faults) → ((fault : Option TextFault) → In faults fault → IsForRoom fault)
    → IsForRoom (first_fault faults)
all-for-room [] each = tt
all-for-room (fault ∷ faults) each =
    first-for-room fault faults (each fault (inl refl))
    (all-for-room faults (λ other i. each other (inr i)))

past-for-room : (n : Option ℕ) → IsForRoom (option_or (option_map (λ m. Limit 515 m) n) None)
past-for-room None = tt
past-for-room (Some n) = tt

module _ (p : RoutingProblem) (line : RouteLine)
    (none : HasNoProblem (device_of p) (problem_context p line)) where
  for-room : IsForRoom (net_line_fault p line)
  for-room =
      let n : ℕ = line_number line in
      subst IsForRoom (sym (λ i. option_or
      (if none.known i then Some (Bad n 503) else if none.first i then Some (Bad n 504)
      else if none.source i then Some (Bad n 505) else if none.sink i then Some (Bad n 506)
      else if none.once i then Some (Bad n 507) else if none.pin i then Some (Bad n 508)
      else if none.near i then Some (Bad n 509) else None)
      (if none.meets i then Some (Bad n 510) else if none.new i then Some (Bad n 511)
      else if none.joined i then Some (Bad n 512) else if none.alone i then Some (Bad n 513)
      else if none.order i then Some (Bad n 514)
      else option_or (option_map (λ m. Limit 515 m) (slots_past (context_of line))) None)))
      (past-for-room (slots_past (context_of line)))

module _ (g : GraphOf) where
  abbrev device : Device
  device = record { arch = g.arch; grid = g.grid }

  -- a wire of this cell, on this track
  abbrev on_track : ℕ → Cell → Wire
  on_track t cell = record { cell = cell; track = t }

  within : (t : ℕ) (cell : Option Cell) (c : Cell) → cell ≡ Some c
      → option_map_or (λ (w : Wire). not (nat_lt w.track g.width)) (option_map (on_track t) cell)
      false ≡ false → nat_lt t g.width ≡ true
  within t cell c is low = not-false (nat_lt t g.width)
      (sym (ap (λ (o : Option Cell). option_map_or (λ (w : Wire). not (nat_lt w.track g.width))
      (option_map (on_track t) o) false) is) ∙ low)

  -- a pin that opens the wire touches its cell
  not-off : (pin : Option PinAt) (cell : Option Cell) (t : ℕ)
      → option_map_or (λ (w : Wire). not (nat_lt w.track g.width)) (option_map (on_track t) cell)
      false ≡ false → misses g pin (option_map (on_track t) cell) ≡ false
      → is_off device pin cell ≡ false
  not-off None cell t low hit = refl
  not-off (Some pin) None t low hit = refl
  not-off (Some pin) (Some cell) t low hit =
      let w : Wire = on_track t cell in
      let reach : reaches g pin w ≡ true = not-false (reaches g pin w)
      (sym (ap (λ (b : Bool). b && not (reaches g pin w)) (within t (Some cell) cell refl low))
      ∙ hit) in
      ap not (both_true (touches g.arch g.grid pin cell) (opens g.arch g.width pin t) reach).0

  -- wires that are joined are of cells that meet
  not-apart : (a b : Option Cell) (t s : ℕ)
      → option_map_or (λ (w : Wire). not (nat_lt w.track g.width)) (option_map (on_track t) a)
      false ≡ false
      → option_map_or (λ (w : Wire). not (nat_lt w.track g.width)) (option_map (on_track s) b)
      false ≡ false
      → are_parted g (option_map (on_track t) a) (option_map (on_track s) b) ≡ false
      → are_apart g.grid a b ≡ false
  not-apart None b t s first second whole = refl
  not-apart (Some a) None t s first second whole = refl
  not-apart (Some a) (Some b) t s first second whole =
      let u : Wire = on_track t a in
      let v : Wire = on_track s b in
      let one = within t (Some a) a refl first in
      let two = within s (Some b) b refl second in
      let meet : are_joined g u v ≡ true = not-false (are_joined g u v)
      (sym (λ k. one k && two k && not (are_joined g u v)) ∙ whole) in
      go (meeting g.grid a b) meet
    where
      go : (o : Option Meeting) → option_map_or (λ m. m == s)
          (option_map (λ (m : Meeting). mapped_track g.arch.pattern g.width m.from m.to t) o) false
          ≡ true → is_none o ≡ false
      go None h = absurd (false≢true h)
      go (Some m) h = refl

  off-none : (pin : Option PinAt) → is_off device pin None ≡ false
  off-none None = refl
  off-none (Some pin) = refl

  -- of lines next to each other that are connected, pins touch the cells, and cells meet
  near-and-met : (before : Option Elem) (e : Elem) → are_unconnected g before (Some e) ≡ false
      → is_past_width g before ≡ false → is_past_width g (Some e) ≡ false
      → ((option_map_or (λ (d : Elem). is_opin d.kind) before false
      && is_off device (option_and_then elem_pin before) (elem_cell e)
      || is_ipin e.kind && is_off device (elem_pin e) (option_and_then elem_cell before)) ≡ false)
      × (are_apart g.grid (option_and_then elem_cell before) (elem_cell e) ≡ false)
  near-and-met None e linked first second =
      ((λ i. is_ipin e.kind && off-none (elem_pin e) i) ∙ and-false (is_ipin e.kind), refl)
  near-and-met (Some d) e linked first second =
      let parts = or_parts (are_parted g (elem_wire d) (elem_wire e)
      || misses g (elem_pin d) (elem_wire e)) (misses g (elem_pin e) (elem_wire d)) linked in
      let two = or_parts (are_parted g (elem_wire d) (elem_wire e))
      (misses g (elem_pin d) (elem_wire e)) parts.0 in
      let out = not-off (elem_pin d) (elem_cell e) e.number second two.1 in
      let into = not-off (elem_pin e) (elem_cell d) d.number first parts.1 in (
        (λ i. is_opin d.kind && out i || is_ipin e.kind && into i)
            ∙ (λ i. and-false (is_opin d.kind) i || and-false (is_ipin e.kind) i),
        not-apart (elem_cell d) (elem_cell e) d.number e.number first second two.0,
      )

module _ (width : ℕ) (p : RoutingProblem)
    (clean : IsFaultless (placed_route_causes true width p)) where
  abbrev g : GraphOf
  g = graph_of width p

  abbrev nets : List RouteNet
  nets = p.route.nets

  -- in its own cells no line strays
  uncaused-here : (line : RouteLine) → HasNoCause true g (judged_line p line)
      → (judged_line p line).stray ≡ false → line_cause width p line ≡ None
  uncaused-here line c near =
      let n : ℕ = line_number line in
      λ i. if c.connected i then Some (Bad n 801) else if c.low i then Some (Bad n 802)
      else if c.alone i then Some (Bad n 803) else if near i then Some (Bad n 804)
      else if c.new i then Some (Bad n 805) else if c.whole i then Some (Bad n 806)
      else if c.fine i then Some (Bad n 807) else None

  module _ (n : ℕ) (net : RouteNet) (here : slice_get nets n ≡ Some net) where
    none-at-head : HasNoCause true g (judged_line p (head_line (take n nets) net))
    none-at-head = quiet true width p clean (head_line (take n nets) net) (head-among nets n net here)

    head-verified : line_cause width p (head_line (take n nets) net) ≡ None
    head-verified = uncaused-here (head_line (take n nets) net) none-at-head refl

    head-for-room : IsForRoom (net_line_fault p (head_line (take n nets) net))
    head-for-room =
        let at = none-at-head in
        let fine = fine-line g (judged_line p (head_line (take n nets) net)) at.fine in
        for-room p (head_line (take n nets) net) (record {
          known = fine.known;
          first = fine.first;
          source = refl;
          sink = refl;
          once = at.whole;
          pin = refl;
          near = refl;
          meets = refl;
          new = refl;
          joined = refl;
          alone = refl;
          order = fine.order;
        })

    none-at-elem : (i : ℕ) (e : Elem) → slice_get net.elems i ≡ Some e
        → HasNoCause true g (judged_line p (elem_line (take n nets) net i e))
    none-at-elem i e at =
        quiet true width p clean (elem_line (take n nets) net i e) (elem-among nets n net i e here at)

    -- the line before is on a track below the width, if it is a channel line
    before-low : (i : ℕ) (e : Elem) → slice_get net.elems i ≡ Some e
        → is_past_width g (last_or None (take i net.elems)) ≡ false
    before-low zero e at = go net.elems
      where
        go : (es : List Elem) → is_past_width g (last_or None (take 0 es)) ≡ false
        go [] = refl
        go (x ∷ xs) = refl
    before-low (suc j) e at =
        let d = get-before net.elems j e at in
        ap (is_past_width g) (ap (last_or None) (take-get net.elems j d.0 d.1)
        ∙ last-push None (take j net.elems) d.0)
        ∙ (none-at-elem j d.0 d.1).low

    module _ (i : ℕ) (e : Elem) (at : slice_get net.elems i ≡ Some e) where
      abbrev line : RouteLine
      line = elem_line (take n nets) net i e

      trace : trace_named nets net.name ≡ net.elems
      trace = ap (λ (o : Option RouteNet). option_map_or (λ (r : RouteNet). r.elems) o [])
          (find-first (is_trace_named net.name) nets n net here (new true width p clean n net here)
          (name_itself net.name))

      no-stray : is_stray_in nets net.name e ≡ false
      no-stray =
          let among : list_any (same_elem e) (trace_named nets net.name) ≡ true =
          ap (list_any (same_elem e)) trace
          ∙ list_any-from_In (same_elem e) net.elems e (get-In net.elems i e at) (elem-itself e) in
          (λ k. is_channel e.kind && not (among k)) ∙ and-false (is_channel e.kind)

      elem-verified : line_cause width p line ≡ None
      elem-verified = uncaused-here line (none-at-elem i e at) no-stray

      elem-for-room : IsForRoom (net_line_fault p line)
      elem-for-room =
          let c = none-at-elem i e at in
          let fine = fine-line g (judged_line p line) c.fine in
          let branch = option_map_or (λ (d : Elem). is_sink d.kind)
          (last_or None (take i net.elems)) false in
          let again = list_any (same_elem e) (take i net.elems) in
          let near = near-and-met g (last_or None (take i net.elems)) e c.connected
          (before-low i e at) c.low in
          for-room p line (record {
            known = refl;
            first = refl;
            source = fine.source;
            sink = fine.sink;
            once = (λ k. fine.once k || c.whole k);
            pin = fine.pin;
            near = near.0;
            meets = near.1;
            new = not-again (is_sink e.kind) branch again (is_channel e.kind)
                (judged_line p line).wire_again c.new fine.new;
            joined = not-loose (is_ipin e.kind) (is_sink e.kind) branch again
                (not (is_channel e.kind) || (judged_line p line).wire_again) fine.joined;
            alone = fine.alone;
            order = fine.order;
          })

  -- `verify` takes it
  pub verified-itself : judged width p p.route ≡ Legal
  verified-itself =
      let parts = parts-of (array_cause p p.route) (end_cause p p.route)
      (map (placed_line_cause true width p) (route_lines p.route)) clean in
      ap judgement_by (from-parts (array_cause p p.route) (end_cause p p.route)
      (map (line_cause width p) (route_lines p.route)) parts.0
      (faultless-lines (line_cause width p) (route_lines p.route)
      (lines-each (λ line. line_cause width p line ≡ None) nets head-verified
      (λ n net i e here at. elem-verified n net here i e at)))
      parts.2)

  fault-for-room : (fault : Option TextFault) → In (problem_faults p) fault → IsForRoom fault
  fault-for-room fault among = elim among [
    | inl array ↦ subst IsForRoom array (subst (λ (b : Bool).
        IsForRoom (if b then None else Some (Bad p.route.grid_line 501)))
        (sym (one-size true width p clean)) tt)
    | inr more ↦ elim (In-append_cases (map (net_line_fault p) (route_lines p.route))
        (end_fault p ∷ []) fault more) [
          | inl lines ↦
              let made = from_In-map (net_line_fault p) (route_lines p.route) fault lines in
              subst IsForRoom made.2 (lines-each (λ line. IsForRoom (net_line_fault p line)) nets
              head-for-room
              (λ n net i e here at. elem-for-room n net here i e at) made.0 made.1)
          | inr last ↦ elim last [
            | inl end ↦ subst IsForRoom end (subst (λ (b : Bool).
                IsForRoom (if b then Some (Bad (p.route.lines + 1) 502) else None))
                (sym (all-there true width p clean)) tt)
            | inr none ↦ absurd none
          ]
        ]
  ]

  -- it fits, where it has no more slots than may be
  pub fits-itself : IsSound p.route → length (slots p.route) ≤ SLOT_LIMIT → Fits p
  fits-itself sound few = go (first_fault (problem_faults p)) refl
      (all-for-room (problem_faults p) fault-for-room)
    where
      track : (k : ElemKind) (l : Label) → takes k l ≡ true → is_channel k ≡ true → l ≡ Track
      track ChanX Track h c = refl
      track ChanY Track h c = refl
      track ChanX l h c = absurd (false≢true h)
      track ChanY l h c = absurd (false≢true h)
      track k l h c = absurd (false≢true c)

      tracks : (net : RouteNet) → In p.route.nets net → AreTracks net.elems
      tracks net among e inside is = track e.kind e.label
          (In-all (IsSoundElem p.route.grid) net.elems e
          (In-all (IsSoundNet p.route.grid) p.route.nets net sound.nets among).elems inside).label
          is

      go : (o : Option TextFault) → first_fault (problem_faults p) ≡ o → IsForRoom o
          → first_fault (problem_faults p) ≡ None
      go None is room = is
      go (Some (Limit code count)) is room =
          absurd (let many = many-slots p code count tracks is in omega (arith, many, few))
      go (Some (Bad line code)) is room = absurd room
      go (Some Memory) is room = absurd room

module _ (width : ℕ) (placed : PlacedNetlist) (found : RouteText)
    (legal : placed_judged true width placed found ≡ Legal) where
  clean-file : IsFaultless (placed_route_causes true width (problem_with placed found))
  clean-file =
      (legal-exactly (first_fault (placed_route_causes true width (problem_with placed found)))
      (first-is-cause true width (problem_with placed found))).0 legal

  pub verifies : judged width (problem_with placed found) found ≡ Legal
  verifies = verified-itself width (problem_with placed found) clean-file

  pub fitted : IsSound found → length (slots found) ≤ SLOT_LIMIT → Fits (problem_with placed found)
  fitted = fits-itself width (problem_with placed found) clean-file
