-- The values of the junction are given, so what is asked of four values can be met.
use Rattle.std.proofs.Common.{◌≡◌, ℕ, zero, suc, ◌<◌, ◌≤◌, Bool, true, List, [], ◌∷◌, Option, Some, None, refl, sym, subst, ◌∙◌, false, arith}
use Rattle.std.specs.Prelude.{◌&&◌, nat_le, nat_lt, All, slice_get}
use Rattle.std.specs.List.{AllByRecursion, list_all}
use Rattle.std.specs.Option.{ForSome}
use Rattle.std.proofs.lemmas.Bool.{false≢true}
use Rattle.std.proofs.lemmas.Bool.Decides.{nat_tests}
use Rattle.std.proofs.lemmas.List.Elements.{All-cons, All-nil}
use Rattle.fpga_types.specs.Given.{IsGiven, IsGivenBlock, IsGivenNet, IsGivenNetlist, IsPinOf, IsPlaced}
use Rattle.fpga_types.specs.Kinds.{takes}
use Rattle.fpga_types.specs.Places.{is_lawful}
use Rattle.fpga_types.specs.Sound.{IsSound, IsSoundElem, IsSoundNet, RisesWithin, has_place, net_numbers}
use Rattle.fpga_types.specs.declared.arch.Arch.{Arch}
use Rattle.fpga_types.specs.declared.arch.Pattern.TheVariants.{Subset}
use Rattle.fpga_types.specs.declared.netlist.Block.{Block}
use Rattle.fpga_types.specs.declared.netlist.PinRef.{PinRef}
use Rattle.fpga_types.specs.declared.placement.Place.{Place}
use Rattle.fpga_types.specs.declared.route.Elem.{Elem}
use Rattle.fpga_types.specs.declared.route.RouteNet.{RouteNet}
use Rattle.fpga_types.proofs.MeetingLemmas.{both_true}
use Rattle.fpga_types.proofs.RowValues.{arch_of, full, junction, junction_netlist, junction_placement, junction_route, net_a, net_b, net_c, pin_of, two_by_one}

abbrev arch : Arch
arch = arch_of Subset full

-- what is shown of each element in turn holds of all
each : {X : Type 0} (P : X → Type 0) (xs : List X) → AllByRecursion P xs → All P xs
each P [] h = All-nil P
each P (x ∷ xs) h = All-cons P x xs h.0 (each P xs h.1)

-- where a test passes at each element, what it says holds of all
by_test : {X : Type 0} (P : X → Type 0) (test : X → Bool) → ((x : X) → test x ≡ true → P x)
    → (xs : List X) → list_all test xs ≡ true → All P xs
by_test P test is [] h = All-nil P
by_test P test is (x ∷ xs) h =
    let b = both_true (test x) (list_all test xs) h in
    All-cons P x xs (is x b.0) (by_test P test is xs b.1)

abbrev IsNet : Option ℕ → Type 0
IsNet pin = ForSome pin (λ net. net < 3)

on_net : (n : ℕ) → n < 3 → IsNet (Some n)
on_net n below m e = let same : n ≡ m = cc in subst (λ (k : ℕ). k < 3) same below

on_none : IsNet None
on_none m e = cc

pad : (n : ℕ) → n < 3 → All IsNet (Some n ∷ [])
pad n below = each IsNet (Some n ∷ []) (on_net n below, tt)

logic : (n : ℕ) → n < 3 → All IsNet (Some n ∷ None ∷ None ∷ None ∷ None ∷ None ∷ [])
logic n below = each IsNet (Some n ∷ None ∷ None ∷ None ∷ None ∷ None ∷ [])
    (on_net n below, (on_none, (on_none, (on_none, (on_none, (on_none, tt))))))

ends : (pin : PinRef) → IsPinOf junction_netlist pin → All (IsPinOf junction_netlist) (pin ∷ [])
ends pin there = each (IsPinOf junction_netlist) (pin ∷ []) (there, tt)

starts : (pin : PinRef) → IsPinOf junction_netlist pin
    → ForSome (Some pin) (IsPinOf junction_netlist)
starts pin there x e = let same : pin ≡ x = cc in subst (IsPinOf junction_netlist) same there

given_netlist : IsGivenNetlist arch junction_netlist
given_netlist = record {
  blocks = each (IsGivenBlock arch 3) junction_netlist.blocks (
    record { pins = refl; nets = pad 0 (omega arith) },
    (
      record { pins = refl; nets = pad 1 (omega arith) },
      (
        record { pins = refl; nets = pad 2 (omega arith) },
        (
          record { pins = refl; nets = pad 2 (omega arith) },
          (
            record { pins = refl; nets = logic 0 (omega arith) },
            (record { pins = refl; nets = logic 1 (omega arith) }, tt),
          ),
        ),
      ),
    ),
  );
  nets = each (IsGivenNet junction_netlist) junction_netlist.nets (
    record {
      driver = starts (pin_of 0 0) (_, refl, omega arith);
      sinks = ends (pin_of 4 0) (_, refl, omega arith);
    },
    (
      record {
        driver = starts (pin_of 1 0) (_, refl, omega arith);
        sinks = ends (pin_of 5 0) (_, refl, omega arith);
      },
      (
        record {
          driver = starts (pin_of 2 0) (_, refl, omega arith);
          sinks = ends (pin_of 3 0) (_, refl, omega arith);
        },
        tt,
      ),
    ),
  );
}

lawful_at : (a b : Block) (p q : Place) → Some a ≡ Some b → Some p ≡ Some q
    → is_lawful two_by_one 2 a.kind p ≡ true → is_lawful two_by_one 2 b.kind q ≡ true
lawful_at a b p q e f h =
    let block : a ≡ b = cc in
    let place : p ≡ q = cc in
    rw (← block, ← place) h

placed : IsPlaced arch junction_netlist junction_placement
placed = record { count = refl; lawful = λ k b q s. go k b q s.block_is s.place_is }
  where
    go : (k : ℕ) (b : Block) (q : Place) → slice_get junction_netlist.blocks k ≡ Some b
        → slice_get junction_placement.places k ≡ Some q
        → is_lawful two_by_one 2 b.kind q ≡ true
    go zero b q e f = lawful_at _ b _ q e f refl
    go (suc zero) b q e f = lawful_at _ b _ q e f refl
    go (suc (suc zero)) b q e f = lawful_at _ b _ q e f refl
    go (suc (suc (suc zero))) b q e f = lawful_at _ b _ q e f refl
    go (suc (suc (suc (suc zero)))) b q e f = lawful_at _ b _ q e f refl
    go (suc (suc (suc (suc (suc zero))))) b q e f = lawful_at _ b _ q e f refl
    go (suc (suc (suc (suc (suc (suc k)))))) b q e f = cc

abbrev is_sound_elem : Elem → Bool
is_sound_elem e = takes e.kind e.label && has_place two_by_one e.kind e.x e.y

sound_elem : (e : Elem) → is_sound_elem e ≡ true → IsSoundElem two_by_one e
sound_elem e h =
    let parts = both_true (takes e.kind e.label) (has_place two_by_one e.kind e.x e.y) h in
    record { label = parts.0; place = parts.1 }

sound_net : (net : RouteNet) → net.global ≡ false → net.kept ≡ []
    → list_all is_sound_elem net.elems ≡ true
    → IsSoundNet two_by_one net
sound_net net ordinary kept sound = record {
  elems = by_test (IsSoundElem two_by_one) is_sound_elem sound_elem net.elems sound;
  global_elems = λ h. absurd (false≢true (sym ordinary ∙ h));
  ordinary_kept = λ h. kept;
}

rises : (low high : ℕ) → List ℕ → Bool
rises low high [] = true
rises low high (n ∷ more) = nat_lt low n && (nat_le n high && rises n high more)

rises-within : (low high : ℕ) (numbers : List ℕ) → rises low high numbers ≡ true
    → RisesWithin low high numbers
unfolding rises
rises-within low high [] h = tt
rises-within low high (n ∷ more) h =
    let first = both_true (nat_lt low n) (nat_le n high && rises n high more) h in
    let second = both_true (nat_le n high) (rises n high more) first.1 in
    (above low n first.0, within n high second.0, rises-within n high more second.1)
  where
    above : (a b : ℕ) → nat_lt a b ≡ true → a < b
    above a b t = grind (arith, nat_tests)

    within : (a b : ℕ) → nat_le a b ≡ true → a ≤ b
    within a b t = grind (arith, nat_tests)

sound_route : IsSound junction_route
unfolding rises
sound_route = record {
  limit = omega arith;
  nets = each (IsSoundNet two_by_one) junction_route.nets (
    sound_net (net_a 0 0) refl refl refl,
    (sound_net (net_b 0 0) refl refl refl, (sound_net (net_c 0 0) refl refl refl, tt)),
  );
  order = rises-within 0 30 (1 ∷ net_numbers junction_route.nets) refl;
  lines = omega arith;
}

pub junction_is_given : IsGiven (junction Subset)
junction_is_given =
    record { netlist = given_netlist; placement = placed; route = sound_route }
