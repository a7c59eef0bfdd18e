-- The greatest of some depths.
use Rattle.std.proofs.Common.{◌≡◌, ℕ, Bool, Option, Some, None, List, [], ◌∷◌, ◌++◌, refl, sym, ap, ◌∙◌, arith}
use Rattle.std.specs.Prelude.{filter_map, flat_map, max, option_and_then}
use Rattle.std.specs.List.{cons_option}
use Rattle.std.specs.Option.{unwrap_or}
use Rattle.std.proofs.lemmas.Grind.{flat_map-append}
use Rattle.std.proofs.lemmas.List.{append-nil}
use Rattle.std.proofs.lemmas.List.Elements.{filter_map-append}
use Rattle.list_laws.proofs.Places.{last-push}
use Rattle.fpga_types.specs.declared.route.Elem.{Elem}
use Rattle.fpga_types.specs.declared.route.RouteNet.{RouteNet}
use Rattle.route_reach.specs.TraceDepth.{greatest, net_depths}
use Rattle.route_verify.specs.Depths.{DeepLine, deep_line, deep_lines}
use Rattle.route_verify.specs.LineDepths.{depth_at_last}
use Rattle.route_verify.proofs.DepthLemmas.{deep-push}

greatest-append : (xs ys : List ℕ) → greatest (xs ++ ys) ≡ max (greatest xs) (greatest ys)
greatest-append [] ys = omega arith
greatest-append (x ∷ xs) ys = let rest = greatest-append xs ys in omega (arith, rest)

-- one line more
pub greatest-line : (same : Elem → Elem → Bool) (xs : List Elem) (e : Elem)
    → greatest (filter_map (λ (line : DeepLine). line.depth) (deep_lines same (xs ++ e ∷ [])))
    ≡ max (greatest (filter_map (λ (line : DeepLine). line.depth) (deep_lines same xs)))
    (unwrap_or (deep_line same (deep_lines same xs) e).depth 0)
greatest-line same xs e =
    let lines : List DeepLine = deep_lines same xs in
    let line : DeepLine = deep_line same lines e in
    ap (λ (ls : List DeepLine). greatest (filter_map (λ (l : DeepLine). l.depth) ls))
    (deep-push same xs e)
    ∙ ap greatest (filter_map-append (λ (l : DeepLine). l.depth) lines (line ∷ []))
    ∙ greatest-append (filter_map (λ (l : DeepLine). l.depth) lines)
    (filter_map (λ (l : DeepLine). l.depth) (line ∷ []))
    ∙ ap (max (greatest (filter_map (λ (l : DeepLine). l.depth) lines))) (go line.depth)
  where
    go : (o : Option ℕ) → greatest (cons_option o []) ≡ unwrap_or o 0
    go None = refl
    go (Some d) = omega arith

-- by the depth of the last line
pub greatest-last : (same : Elem → Elem → Bool) (xs : List Elem) (e : Elem) (found : ℕ)
    (last : Option ℕ)
    → found ≡ greatest (filter_map (λ (line : DeepLine). line.depth) (deep_lines same xs))
    → last ≡ depth_at_last (deep_lines same (xs ++ e ∷ []))
    → max found (unwrap_or last 0)
    ≡ greatest (filter_map (λ (line : DeepLine). line.depth) (deep_lines same (xs ++ e ∷ [])))
greatest-last same xs e found last is at =
    let line : DeepLine = deep_line same (deep_lines same xs) e in
    let its : last ≡ line.depth = at ∙ ap depth_at_last (deep-push same xs e)
    ∙ ap (option_and_then (λ (l : DeepLine). l.depth)) (last-push None (deep_lines same xs) line) in
    (λ i. max (is i) (unwrap_or (its i) 0)) ∙ sym (greatest-line same xs e)

-- one net more
pub greatest-net : (nets : List RouteNet) (net : RouteNet)
    → greatest (flat_map net_depths (nets ++ net ∷ []))
    ≡ max (greatest (flat_map net_depths nets)) (greatest (net_depths net))
greatest-net nets net =
    ap greatest (flat_map-append net_depths nets (net ∷ [])
    ∙ ap (λ (ns : List ℕ). flat_map net_depths nets ++ ns) (append-nil (net_depths net)))
    ∙ greatest-append (flat_map net_depths nets) (net_depths net)
