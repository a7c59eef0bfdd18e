-- Copies of nets, with one net more.
use Rattle.std.proofs.Common.{◌≡◌, ℕ, ◌+◌, ◌<◌, Some, List, [], ◌∷◌, ◌++◌, length, take, arith, zero-add, add-one, length-take-le}
use Rattle.std.specs.Prelude.{slice_get}
use Rattle.std.specs.List.{enumerate_from}
use Rattle.std.proofs.lemmas.List.{map-append}
use Rattle.list_laws.proofs.Numbered.{enumerate-push}
use Rattle.list_laws.proofs.Places.{take-get}
use Rattle.fpga_types.specs.declared.problem.Slot.{Slot}
use Rattle.fpga_types.specs.declared.route.RouteNet.{RouteNet}
use Rattle.fpga_bounds.specs.Copy.{net_with_tracks, nets_with_tracks}

pub copies-more : (all : List Slot) (tracks : List ℕ) (nets : List RouteNet) (n : ℕ)
    (net : RouteNet) → slice_get nets n ≡ Some net → n < length nets
    → nets_with_tracks all tracks (take (n + 1) nets)
    ≡ nets_with_tracks all tracks (take n nets) ++ net_with_tracks all tracks n net ∷ []
copies-more all tracks nets n net here below =
    rw (
      add-one,
      take-get nets n net here,
      enumerate-push 0 (take n nets) net,
      zero-add,
      length-take-le n nets (omega (arith, below)),
    )
    (map-append (λ (m : ℕ × RouteNet). net_with_tracks all tracks m.0 m.1)
    (enumerate_from 0 (take n nets)) ((n, net) ∷ []))
