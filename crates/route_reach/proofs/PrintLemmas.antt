-- A route that counts within a reach can be printed, as the global route can, and reads back.
use Rattle.std.proofs.Common.{◌≡◌, ℕ, ◌<◌, ◌≤◌, ◌^◌, Bool, true, false, Option, Some, None, List, [], ◌∷◌, ◌++◌, length, take, drop, refl, sym, ap, subst, ◌∙◌, inl, inr, arith}
use Rattle.std.specs.Prelude.{All, ◌&&◌, ◌||◌, ◌==◌, not, map, slice_get, if◌then◌else◌}
use Rattle.std.specs.List.{last_or, list_all, list_any}
use Rattle.std.specs.Option.{option_map_or}
use Rattle.std.proofs.lemmas.Bool.{eqb-true, false≢true, ltb-true, not-false, or_parts}
use Rattle.list_laws.proofs.Members.{In, In-all, In-list_any, all-from_In}
use Rattle.list_laws.proofs.Places.{In-place, get-In, some_is}
use Rattle.fpga_text.specs.FirstFault.{first_fault}
use Rattle.fpga_text.specs.declared.fault.TextFault.TheVariants.{Bad}
use Rattle.fpga_text.proofs.FaultLemmas.{faultless-line, option_or-none}
use Rattle.fpga_types.specs.Fit.{route_lines, same_elem}
use Rattle.fpga_types.specs.Fits.{Fits, array_fault, end_fault, has_sink, lacks_sink, net_line_fault, same_size}
use Rattle.fpga_types.specs.Kinds
use Rattle.fpga_types.specs.Kinds.{is_channel, is_pin, is_sink, is_source, takes}
use Rattle.fpga_types.specs.Problem.{RoutingProblem}
use Rattle.fpga_types.specs.Size.{AreLimited, Size}
use Rattle.fpga_types.specs.Sound.{IsSound, has_place}
use Rattle.fpga_types.specs.Terminals.{driver_named, is_terminal, named_terminal, sinks_named}
use Rattle.fpga_types.specs.declared.problem.Terminal.{Terminal}
use Rattle.fpga_types.specs.declared.route.Elem.{Elem}
use Rattle.fpga_types.specs.declared.route.ElemKind.{ElemKind}
use Rattle.fpga_types.specs.declared.route.ElemKind.TheVariants.{Source, Opin, ChanX, ChanY, Ipin, Sink}
use Rattle.fpga_types.specs.declared.route.RouteNet.{RouteNet}
use Rattle.fpga_types.specs.declared.route.RouteText.{RouteText}
use Rattle.fpga_types.proofs.MeetingLemmas.{both_true}
use Rattle.fpga_bounds.specs.NetFit.{head_line}
use Rattle.fpga_bounds.proofs.LineLemmas.{elem_line}
use Rattle.fpga_route.specs.ReadBack.{IsKeptLine, IsName, IsPrintable, IsPrintableElem, IsPrintableNet}
use Rattle.fpga_route.proofs.ReadBackLemmas.{reads_back}
use Rattle.route_reach.specs.Good.{IsReachRoute}
use Rattle.route_reach.specs.ReadBack.{RoutesReadBack}
use Rattle.route_reach.proofs.ElemLemmas.{channel-wire, on-wire}
use Rattle.route_reach.proofs.FoundLemmas.{fits-at, low, ordinary, pin-there, quiet, routed}
use Rattle.route_reach.proofs.QuietLines.{legal-without}
use Rattle.route_reach.proofs.RouteLemmas.{all-passes, elem-fits, head-fits, net-at, trace}
use Rattle.route_reach.proofs.NetSinks.{last-place, sinks-equal, terminal-is}
use Rattle.route_verify.specs.Judged.{array_cause, end_cause}
use Rattle.route_verify.specs.Reach.{reach_line_cause}
use Rattle.route_verify.proofs.EqualLines.{same_elem-is}

-- a kind is one of a channel, of a pin, or of an end
data Sort (kind : ElemKind) : Type 0 where
  channel : is_channel kind ≡ true → Sort kind
  pin : is_pin kind ≡ true → Sort kind
  source : is_source kind ≡ true → Sort kind
  sink : is_sink kind ≡ true → Sort kind

sort-of : (kind : ElemKind) → Sort kind
sort-of Source = source refl
sort-of Opin = pin refl
sort-of ChanX = channel refl
sort-of ChanY = channel refl
sort-of Ipin = pin refl
sort-of Sink = sink refl

source-only : (kind : ElemKind) → is_source kind ≡ true → kind ≡ Source
source-only Source h = refl
source-only kind h = absurd (false≢true h)

pin-other : (kind : ElemKind) → is_pin kind ≡ true → is_channel kind ≡ false
pin-other Opin h = refl
pin-other Ipin h = refl
pin-other kind h = absurd (false≢true h)

-- arrays that pass as one size
size-is : (a b : Size) → same_size a b ≡ true → a ≡ b
size-is a b h =
    let both = both_true (a.nx == b.nx) (a.ny == b.ny) h in
    let nx = eqb-true a.nx b.nx both.0 in
    let ny = eqb-true a.ny b.ny both.1 in
    λ i. record { nx = nx i; ny = ny i }

-- a line that has all of another but a channel's number is sound and printable as that is
module _ (grid : Size) (e other : Elem) (kind : e.kind ≡ other.kind) (x : e.x ≡ other.x)
    (y : e.y ≡ other.y) (label : e.label ≡ other.label) (number : e.number < 2 ^ 32)
    (can : IsPrintableElem grid other) where
  printable-as : IsPrintableElem grid e
  printable-as = record {
    sound = record {
      label = (λ i. takes (kind i) (label i)) ∙ can.sound.label;
      place = (λ i. has_place grid (kind i) (x i) (y i)) ∙ can.sound.place;
    };
    x = subst (λ (n : ℕ). n < 2 ^ 32) (sym x) can.x;
    y = subst (λ (n : ℕ). n < 2 ^ 32) (sym y) can.y;
    number = number;
  }

module _ (width reach : ℕ) (p : RoutingProblem) (sound : IsSound p.route) (fits : Fits p)
    (narrow : width ≤ 2 ^ 32) (found : RouteText) (good : IsReachRoute width reach p found)
    (can : IsPrintable p.route) where
  module _ (n : ℕ) (net other : RouteNet) (here : slice_get p.route.nets n ≡ Some net)
      (there : slice_get found.nets n ≡ Some other) where
    can-net : IsPrintableNet p.route.grid net
    can-net = In-all (IsPrintableNet p.route.grid) p.route.nets net can.nets
        (get-In p.route.nets n net here)

    can-line : (e : Elem) → In net.elems e → IsPrintableElem p.route.grid e
    can-line e i = In-all (IsPrintableElem p.route.grid) net.elems e can-net.elems i

    -- each sink of the net has a SINK line in the global route
    sinks-all : net.global ≡ false → list_all (has_sink net.elems) (sinks_named p net.name) ≡ true
    sinks-all global = elim (last-place net.elems) [
      | inl none ↦
          (let fit = head-fits width reach p sound fits found good n net here in
          let lacks : not (list_all (has_sink []) (sinks_named p net.name)) ≡ false =
          sym (λ k. not (global k) && length (none k) == 0
          && not (list_all (has_sink []) (sinks_named p net.name)))
          ∙ (or_parts false (lacks_sink p (head_line (take n p.route.nets) net)) fit.once).1 in
          ap (λ (es : List Elem). list_all (has_sink es) (sinks_named p net.name)) none
          ∙ not-false _ lacks)
      | inr r ↦
          (let fit = elem-fits width reach p sound fits found good n net r.0 r.1 here r.2 in
          let lacks : not (list_all (has_sink net.elems) (sinks_named p net.name)) ≡ false =
          sym ((λ k. not (global k) && length (r.3 k) == 0
          && not (list_all (has_sink (take r.0 net.elems ++ r.1 ∷ [])) (sinks_named p net.name)))
          ∙ (λ k. not (list_all (has_sink (r.4 k)) (sinks_named p net.name))))
          ∙ (or_parts (is_sink r.1.kind && list_any (same_elem r.1) (take r.0 net.elems))
          (lacks_sink p (elem_line (take n p.route.nets) net r.0 r.1)) fit.once).1 in
          not-false _ lacks)
    ]

    -- a line that names what a line of the global route names
    as-named : (e line : Elem) → In net.elems line → e.kind ≡ line.kind
        → named_terminal e ≡ named_terminal line → IsPrintableElem p.route.grid e
    as-named e line i kind same =
        let can_be = can-line line i in
        printable-as p.route.grid e line kind (ap (λ (t : Terminal). t.x) same)
        (ap (λ (t : Terminal). t.y) same) (ap (λ (t : Terminal). t.label) same)
        (subst (λ (m : ℕ). m < 2 ^ 32) (sym (ap (λ (t : Terminal). t.number) same)) can_be.number)
        can_be

    -- the source of the net in the global route
    source-there : net.global ≡ false → (e : Elem) × In net.elems e × (is_source e.kind ≡ true)
    source-there global = go net.elems refl
      where
        go : (es : List Elem) → net.elems ≡ es → (e : Elem) × In net.elems e
            × (is_source e.kind ≡ true)
        go [] is =
            let fit = head-fits width reach p sound fits found good n net here in
            absurd (false≢true (sym (sym (λ k. not (global k) && (false || length (is k) == 0
            && not false)) ∙ fit.order)))
        go (e ∷ es) is =
            let at : slice_get net.elems 0 ≡ Some e = ap (λ (xs : List Elem). slice_get xs 0) is in
            let fit = elem-fits width reach p sound fits found good n net 0 e here at in
            let rest : Bool = length (drop 1 net.elems) == 0 && not (is_sink e.kind) in
            let both : (not (is_source e.kind) || rest) ≡ false =
            sym (λ k. not (global k) && (not (option_map_or
            (λ (b : Elem). Kinds.may_follow b.kind e.kind) (none-before net.elems k)
            (is_source e.kind)) || rest)) ∙ fit.order in (
              e,
              get-In net.elems 0 e at,
              not-false _ (or_parts (not (is_source e.kind)) rest
                  both).0,
            )
          where
            none-before : (xs : List Elem) → last_or None (take 0 xs) ≡ None
            none-before [] = refl
            none-before (x ∷ xs) = refl

    driver-is : (e : Elem) (o : Option Terminal) → option_map_or (is_terminal e) o false ≡ true
        → o ≡ Some (named_terminal e)
    driver-is e None h = absurd (false≢true h)
    driver-is e (Some t) h = ap (λ (s : Terminal). Some s) (sym (terminal-is e t h))

    -- each line of the route is printable as one of the global route
    line-can : (k : ℕ) (e : Elem) → slice_get other.elems k ≡ Some e
        → IsPrintableElem p.route.grid e
    line-can k e at = go (sort-of e.kind)
      where
        global : net.global ≡ false
        global = ordinary width reach p sound found good n net other here there k e at

        named : other.name ≡ net.name
        named = (routed width reach p sound found good n net other here there).name

        go : Sort e.kind → IsPrintableElem p.route.grid e
        go (channel is) =
            let w = channel-wire e is in
            let near = (quiet width reach p sound found good n net other here there k e at).near in
            let among : list_any (same_elem e) net.elems ≡ true =
            not-false _ (sym (λ m. is m && not (list_any (same_elem e)
            (trace width reach p sound fits found good n net other here there m))) ∙ near) in
            let line = In-list_any (same_elem e) net.elems among in
            let same = same_elem-is e line.0 line.2 in
            let track : w.0.track < width = ltb-true _ _
            (low width reach p sound found good n net other here there k e w.0 at w.1) in
            printable-as p.route.grid e line.0 same.kind same.x same.y same.label
            (omega (arith, (on-wire e w.0 w.1).track, track, narrow)) (can-line line.0 line.1)
        go (pin is) =
            let line = pin-there width reach p sound found good n net other here there k e at is in
            let same = same_elem-is e line.0 line.2 in
            let number = same.number (pin-other e.kind is) in
            let can_be = can-line line.0 line.1 in
            printable-as p.route.grid e line.0 same.kind same.x same.y same.label
            (subst (λ (m : ℕ). m < 2 ^ 32) (sym number) can_be.number) can_be
        go (source is) =
            let first = source-there global in
            let place = In-place net.elems first.0 first.1 in
            let fit = elem-fits width reach p sound fits found good n net place.0 first.0 here
            place.1 in
            let there_is = driver-is first.0 (driver_named p net.name)
            (not-false _ (sym (λ m. first.2 m && not (option_map_or (is_terminal first.0)
            (driver_named p net.name) false)) ∙ fit.source)) in
            let here_is = driver-is e (driver_named p other.name)
            (not-false _ (sym (λ m. is m && not (option_map_or (is_terminal e)
            (driver_named p other.name) false))
            ∙ (fits-at width reach p sound found good n net other here there k e at).source)) in
            let same : Some (named_terminal e) ≡ Some (named_terminal first.0) =
            sym here_is ∙ ap (driver_named p) named ∙ there_is in
            as-named e first.0 first.1
            (source-only e.kind is ∙ sym (source-only first.0.kind first.2)) (some_is same)
        go (sink is) =
            let known : list_any (is_terminal e) (sinks_named p other.name) ≡ true =
            not-false _ (sym (λ m. is m && not (list_any (is_terminal e)
            (sinks_named p other.name)))
            ∙ (fits-at width reach p sound found good n net other here there k e at).sink) in
            let t = In-list_any (is_terminal e) (sinks_named p other.name) known in
            let has : has_sink net.elems t.0 ≡ true =
            all-passes (has_sink net.elems) (sinks_named p net.name) t.0 (sinks-all global)
            (subst (λ (name : List ℕ). In (sinks_named p name) t.0) named t.1) in
            let line = In-list_any (λ (d : Elem). is_sink d.kind && is_terminal d t.0) net.elems has
            in
            let kinds = both_true (is_sink line.0.kind) (is_terminal line.0 t.0) line.2 in
            let same : named_terminal e ≡ named_terminal line.0 =
            terminal-is e t.0 t.2 ∙ sym (terminal-is line.0 t.0 kinds.1) in
            as-named e line.0 line.1
            ((same_elem-is e line.0 (sinks-equal e line.0 is kinds.0 same)).kind) same

    net-can : IsPrintableNet p.route.grid other
    net-can =
        let r = routed width reach p sound found good n net other here there in
        record {
          k = subst (λ (m : ℕ). m < 2 ^ 64) (sym r.k) can-net.k;
          name = subst (λ (name : List ℕ). IsName name) (sym r.name) can-net.name;
          elems = all-from_In (IsPrintableElem p.route.grid) other.elems (λ e i.
              let place = In-place other.elems e i in line-can place.0 e place.1);
          kept = subst (λ (kept : List (List ℕ)). All IsKeptLine kept) (sym r.kept)
              can-net.kept;
          no_elems = λ is. r.elems (sym r.global ∙ is) ∙ can-net.no_elems (sym r.global ∙ is);
          no_kept = λ is. r.kept ∙ can-net.no_kept (sym r.global ∙ is);
        }

  array-clean : array_cause p found ≡ None
  array-clean = (option_or-none (array_cause p found) (first_fault
      (map (reach_line_cause width reach p) (route_lines found) ++ end_cause p found ∷ []))
      (legal-without width reach p found good.legal)).0

  -- the route is of the array of the global route
  same-grid : p.route.grid ≡ found.grid
  same-grid =
      sym (size-is p.placement.grid p.route.grid
      (placed p.route.grid_line 501 p.route.grid (faultless-line (array_fault p)
      (map (net_line_fault p) (route_lines p.route) ++ end_fault p ∷ []) fits).0))
      ∙ size-is p.placement.grid found.grid
      (placed found.grid_line 807 found.grid array-clean)
    where
      placed : (line code : ℕ) (grid : Size)
          → (if same_size p.placement.grid grid then None else Some (Bad line code)) ≡ None
          → same_size p.placement.grid grid ≡ true
      placed line code grid h = go (same_size p.placement.grid grid) refl h
        where
          go : (b : Bool) → same_size p.placement.grid grid ≡ b
              → (if b then None else Some (Bad line code)) ≡ None
              → same_size p.placement.grid grid ≡ true
          go true is clean = is
          go false is clean = cc

  pub found-can : IsPrintable found
  found-can = record {
    size = subst (λ (grid : Size). AreLimited grid.nx grid.ny) same-grid can.size;
    limit = omega (arith, can.limit, good.each);
    nets = all-from_In (IsPrintableNet found.grid) found.nets (λ other i.
        let place = In-place found.nets other i in
        let net = net-at width reach p sound fits found good place.0 other place.1 in
        subst (λ (grid : Size). IsPrintableNet grid other) same-grid
        (net-can place.0 net.0 other net.1 place.1));
  }

-- so it reads back
pub routes-read-back : (width reach : ℕ) (p : RoutingProblem) → IsSound p.route → Fits p
    → width ≤ 2 ^ 32 → RoutesReadBack width reach p
routes-read-back width reach p sound fits narrow can found good =
    let printable = found-can width reach p sound fits narrow found good can in
    (printable, reads_back found printable)
