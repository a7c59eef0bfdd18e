-- The encoder that a job has made by a crowd of its problem says what its method says.
use Rattle.std.specs.Prelude.{if◌then◌else◌}
use Rattle.std.proofs.Common.{◌≡◌, ◌∙◌, ℕ, ◌≤◌, Bool, true, List, [], refl, sym, ap, subst, arith}
use Rattle.std.proofs.lemmas.List.{append-nil}
use Rattle.fpga_types.specs.Fits.{Fits}
use Rattle.fpga_types.specs.Given.{IsGiven}
use Rattle.problem_facts.specs.Full.{is_symmetric}
use Rattle.problem_facts.specs.Groups.{is_exchangeable}
use Rattle.route_core.specs.Fair.{IsFair}
use Rattle.route_core.proofs.MaskLemmas.{plain_is_fair}
use Rattle.route_count.specs.Begun.{IsBegunBy}
use Rattle.route_ordered.specs.Ordered.{ordered_cnf, precedence, slots_among}
use Rattle.route_ordered.proofs.CrowdSlots.{among-crowd}
use Rattle.route_ordered.proofs.EncoderLemmas.{among-slots}
use Rattle.route_ordered.proofs.FairLemmas.{ordered_is_fair}
use Rattle.route_encode.specs.Encoding.{cnf_of}
use Rattle.route_pinned.specs.Pinned.{pin_clauses}
use Rattle.route_pinned.proofs.FairLemmas.{pinned_is_fair}
use Rattle.router_words.specs.Near.{has_one_track}
use Rattle.run_clauses.specs.Method.{IsCrowdFor, IsRoutingBy, clauses_by}
use Rattle.run_clauses.specs.Suited.{IsEncoderOf, clauses_along}
use Rattle.run_outcome.specs.Subject.{RoutingProblem, RouteText, Cnf, Method, Ordered, Pinned, Strictly, Within}
use Rattle.run_clauses.specs.declared.chosen.Chosen.{Chosen}

-- where the row is the crowd, the clauses are those of the method
row-clauses : (method : Method) (count : Bool) (crowd : List ℕ) (p : RoutingProblem)
    (row : List ℕ) → IsCrowdFor method count crowd p → (method ≡ Ordered → row ≡ crowd)
    → (width : ℕ)
    → clauses_along method row width p ≡ clauses_by method crowd width p
row-clauses Strictly count crowd p row known h width = refl
row-clauses Pinned count crowd p row known h width = refl
row-clauses (Within reach) count crowd p row known h width = refl
row-clauses Ordered count crowd p row known h width =
    ap (λ (r : List ℕ). ordered_cnf width p (slots_among p r)) (h refl)
    ∙ ap (ordered_cnf width p) (among-crowd p crowd (known refl))

-- what holds of what the encoder makes of the widths holds of what the method makes of them
pub by-encoder : (method : Method) (count : Bool) (crowd : List ℕ) (p : RoutingProblem)
    (chosen : Chosen) → IsEncoderOf method crowd chosen → IsCrowdFor method count crowd p
    → (Q : (formula : ℕ → Cnf) → (good : ℕ → RouteText → Type 0) → Type 0)
    → Q (λ width. clauses_along chosen.method chosen.order.row.items width p)
    (λ width. IsRoutingBy chosen.method width p)
    → Q (λ width. clauses_by method crowd width p) (λ width. IsRoutingBy method width p)
by-encoder method count crowd p chosen own known Q h =
    let row : List ℕ = chosen.order.row.items in
    subst (λ (f : ℕ → Cnf). Q f (λ width. IsRoutingBy method width p))
    (λ i width. row-clauses method count crowd p row known own.row width i)
    (subst (λ (m : Method). Q (λ width. clauses_along m row width p)
    (λ width. IsRoutingBy m width p)) own.is h)

-- where each net has one track in each cell, the clauses begin with those that say no more
begins : (method : Method) (p : RoutingProblem) (row : List ℕ) (width : ℕ)
    → has_one_track method ≡ true → IsBegunBy (clauses_along method row width p) (cnf_of width p)
begins Strictly p row width one =
    record { vars = omega arith; clauses = ([], sym (append-nil (cnf_of width p).clauses)) }
begins Pinned p row width one = record {
  vars = omega arith;
  clauses = ((if is_symmetric width p then pin_clauses width p else []), refl);
}
begins (Within reach) p row width one = cc
begins Ordered p row width one = record {
  vars = omega arith;
  clauses = (
    (if is_exchangeable width p
        then precedence p.arch.pattern width (slots_among p row) else []),
    refl,
  );
}

-- so do those of the encoder of such a method
pub encoder-begins : (method : Method) (crowd : List ℕ) (p : RoutingProblem) (chosen : Chosen)
    → IsEncoderOf method crowd chosen → has_one_track method ≡ true → (width : ℕ)
    → IsBegunBy (clauses_along chosen.method chosen.order.row.items width p) (cnf_of width p)
encoder-begins method crowd p chosen own one width =
    begins chosen.method p chosen.order.row.items width
    (subst (λ (m : Method). has_one_track m ≡ true) (sym own.is) one)

-- within a reach a net may have several tracks in a cell
not-within : (reach : ℕ) → has_one_track (Within reach) ≡ true → ⊥
not-within reach one = cc

-- the clauses of such a method blame nets justly
fair : (method : Method) (p : RoutingProblem) (row : List ℕ) (width : ℕ)
    → has_one_track method ≡ true → 1 ≤ width → IsGiven p → Fits p
    → IsFair width p (clauses_along method row width p)
fair Strictly p row width one some given fits = plain_is_fair width p some fits
fair Pinned p row width one some given fits = pinned_is_fair width p some given fits
fair (Within reach) p row width one some given fits = absurd (not-within reach one)
fair Ordered p row width one some given fits =
    ordered_is_fair width p (slots_among p row) some fits (among-slots p row)

-- so do those of its encoder
pub encoder-fair : (method : Method) (crowd : List ℕ) (p : RoutingProblem) (chosen : Chosen)
    → IsEncoderOf method crowd chosen → has_one_track method ≡ true → (width : ℕ) → 1 ≤ width
    → IsGiven p → Fits p
    → IsFair width p (clauses_along chosen.method chosen.order.row.items width p)
encoder-fair method crowd p chosen own one width =
    fair chosen.method p chosen.order.row.items width
    (subst (λ (m : Method). has_one_track m ≡ true) (sym own.is) one)
