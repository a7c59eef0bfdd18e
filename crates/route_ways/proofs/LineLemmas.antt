-- The lines that name nets, one after the other.
use Rattle.std.proofs.Common.{◌≡◌, ◌∙◌, ℕ, suc, List, [], ◌∷◌, length, sym, ap, arith, ◌++◌, take, get_or, ◌<◌, ◌+◌, refl}
use Rattle.std.proofs.lemmas.List.{append-nil}
use Rattle.std.proofs.lemmas.Grind.{flat_map-append}
use Rattle.std.proofs.Math.Seq.{take-length}
use Rattle.desk_io.specs.Files.{Bytes}
use Rattle.fpga_types.specs.declared.route.RouteText.{RouteText}
use Rattle.list_laws.proofs.Places.{take-get, get-there}
use Rattle.route_ways.specs.Trimming.{net_line, net_lines}

-- one net more, of which so many were named
pub lines-next : (route : RouteText) (nets : List ℕ) (i d : ℕ) (old new : Bytes) → i < length nets
    → old ≡ net_lines route (take i nets) → new ≡ old ++ net_line route (get_or nets i d)
    → new ≡ net_lines route (take (i + 1) nets)
lines-next route nets i d old new inside front more =
    let net = get_or nets i d in
    let next : i + 1 ≡ suc i = omega arith in
    more ∙ ap (λ (lines : Bytes). lines ++ net_line route net) front
    ∙ sym (ap (net_lines route) (ap (λ (n : ℕ). take n nets) next
    ∙ take-get nets i net (get-there nets i net d inside refl))
    ∙ flat_map-append (net_line route) (take i nets) (net ∷ [])
    ∙ ap (λ (line : Bytes). net_lines route (take i nets) ++ line)
    (append-nil (net_line route net)))

-- all of them
pub lines-all : (route : RouteText) (nets : List ℕ) (i : ℕ) (lines : Bytes) → i ≡ length nets
    → lines ≡ net_lines route (take i nets) → lines ≡ net_lines route nets
lines-all route nets i lines end front =
    front ∙ ap (net_lines route) (ap (λ (n : ℕ). take n nets) end ∙ take-length nets)
