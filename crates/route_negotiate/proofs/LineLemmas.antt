-- Lines that are added behind others.
use Rattle.std.proofs.Common.{◌≡◌, ℕ, ◌+◌, ◌^◌, ◌<◌, ◌≤◌, length, List, [], ◌∷◌, ◌++◌, map, arith, sym, subst}
use Rattle.std.specs.Prelude.{Err, IfOk, Ok, Result}
use Rattle.std.proofs.lemmas.List.{map-append}
use Rattle.std.proofs.lemmas.Grind.{flat_map-append}
use Rattle.std.proofs.lemmas.List.Elements.{All-push}
use Rattle.std.specs.declared.alloc.AllocError.{AllocError}
use Rattle.fpga_types.specs.Size.{Size}
use Rattle.fpga_types.specs.Sound.{IsSound, IsSoundElem, IsSoundNet, RisesWithin, net_numbers}
use Rattle.fpga_types.specs.declared.limits.TheConstants.{NET_LIMIT}
use Rattle.fpga_types.specs.declared.route.Elem.{Elem}
use Rattle.fpga_types.specs.declared.route.RouteNet.{RouteNet}
use Rattle.route_negotiate.specs.Texts.{AreElemLines, AreNetLines}

-- numbers that rise above a number rise above a lesser one
rises-above : (low mid high : ℕ) (ns : List ℕ) → low ≤ mid → RisesWithin mid high ns
    → RisesWithin low high ns
rises-above low mid high [] le rises = tt
rises-above low mid high (n ∷ ns) le rises = (omega (arith, rises.0), rises.1, rises.2)

-- and up to a greater one
rises-below : (low mid high : ℕ) (ns : List ℕ) → mid ≤ high → RisesWithin low mid ns
    → RisesWithin low high ns
rises-below low mid high [] most rises = tt
rises-below low mid high (n ∷ ns) most rises =
    (rises.0, omega (arith, rises.1), rises-below n mid high ns most rises.2)

-- numbers that rise behind others
rises-append : (low mid high : ℕ) (ms ns : List ℕ) → low ≤ mid → mid ≤ high
    → RisesWithin low mid ms → RisesWithin mid high ns → RisesWithin low high (ms ++ ns)
rises-append low mid high [] ns le most first later = rises-above low mid high ns le later
rises-append low mid high (m ∷ ms) ns le most first later =
    (first.0, omega (arith, first.1), rises-append m mid high ms ns first.1 most first.2 later)

-- an element on the next line
pub elems_more : (grid : Size) (low last : ℕ) (elems : List Elem) (e : Elem)
    → AreElemLines grid low last elems → IsSoundElem grid e → e.line ≡ last + 1
    → AreElemLines grid low e.line (elems ++ e ∷ [])
elems_more grid low last elems e lines sound next = record {
  sound = All-push (IsSoundElem grid) elems e lines.sound sound;
  behind = omega (arith, lines.behind, next);
  order = subst (RisesWithin low e.line)
      (sym (map-append (λ (x : Elem). x.line) elems (e ∷ [])))
      (rises-append low last e.line (map (λ (x : Elem). x.line) elems) (e.line ∷ [])
      lines.behind (omega (arith, next)) lines.order
      (omega (arith, next), omega arith, tt));
}

-- a net behind others
pub nets_more : (grid : Size) (low mid high : ℕ) (nets : List RouteNet) (net : RouteNet)
    → AreNetLines grid low mid nets → IsSoundNet grid net → mid < net.line
    → AreElemLines grid net.line high net.elems → AreNetLines grid low high (nets ++ net ∷ [])
nets_more grid low mid high nets net lines sound next own = record {
  sound = All-push (IsSoundNet grid) nets net lines.sound sound;
  behind = omega (arith, lines.behind, own.behind);
  order = subst (RisesWithin low high) (sym (flat_map-append numbers nets (net ∷ [])))
      (rises-append low mid high (net_numbers nets) (numbers net ++ []) lines.behind
      (omega (arith, next, own.behind)) lines.order
      (rises-append mid high high (numbers net) [] (omega (arith, next, own.behind)) (omega arith)
      (next, own.behind, own.order) tt));
}
  where
    numbers : RouteNet → List ℕ
    numbers n = n.line ∷ map (λ (e : Elem). e.line) n.elems

-- a text whose nets stand behind its two head lines
pub text_sound : (grid : Size) (last lines : ℕ) (nets : List RouteNet)
    → AreNetLines grid 2 last nets → length nets ≤ NET_LIMIT → lines ≡ last + 1 → lines ≤ 2 ^ 63
    → IsSound (record { grid = grid; grid_line = 1; lines = lines; nets = nets })
text_sound grid last lines nets behind few end most = record {
  limit = few;
  nets = behind.sound;
  order = (
    omega arith,
    omega (arith, end, behind.behind),
    rises-above 1 2 lines (net_numbers nets) (omega arith)
        (rises-below 2 last lines (net_numbers nets) (omega (arith, end)) behind.order),
  );
  lines = omega (arith, most);
}

-- the elements of a text stand behind its own line
pub elems_of_text : (grid : Size) (line last high : ℕ) (elems : List Elem)
    (text : Result RouteNet AllocError) → line ≤ last → AreElemLines grid last high elems
    → IfOk text (λ (t : RouteNet). t.line ≡ line) → IfOk text (λ (t : RouteNet). t.elems ≡ elems)
    → IfOk text (λ (t : RouteNet). AreElemLines grid t.line high t.elems)
elems_of_text grid line last high elems (Ok t) le lines here own = record {
  sound = rw own lines.sound;
  behind = omega (arith, here, lines.behind);
  order = rw (own, here) (rises-above line last high (map (λ (e : Elem). e.line) elems) le
      lines.order);
}
elems_of_text grid line last high elems (Err e) le lines here own = tt
