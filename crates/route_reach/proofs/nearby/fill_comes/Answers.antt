use Rattle.std.proofs.Common.{◌≡◌, ◌∙◌, ◌+◌, ◌*◌, ◌++◌, ◌∷◌, ◌<◌, [], ℕ, List, add-one, ap, ap₂, arith, get_or, length, refl, take}
use Rattle.std.proofs.lemmas.List.{length_push, map-append}
use Rattle.std.proofs.lemmas.List.Elements.{All-get_or, All-nil, All-push}
use Rattle.std.proofs.lemmas.Option.{slice_get-get_or}
use Rattle.list_laws.proofs.Places.{take-get}
use Rattle.sat_clause.specs.Literal.{Clause, IsWithin}
use Rattle.sat_clause.specs.declared.literal.Lit.{Lit}
use Rattle.route_reach.specs.WireClauses.{comes_clause, wire_reached}
use Rattle.route_reach.proofs.nearby.fill_comes.Goals as goal

-- one wire more beside
comes_next : (wires reach w d : ℕ) (beside : List ℕ) (i : ℕ) (row : Clause) → i < length beside →
    row ≡ comes_clause wires reach w (take i beside) d →
    row ++ wire_reached wires reach (get_or beside i 0) d ∷ []
    ≡ comes_clause wires reach w (take (i + 1) beside) d
comes_next wires reach w d beside i row within front =
    let next : take (i + 1) beside ≡ take i beside ++ get_or beside i 0 ∷ [] =
    rw add-one (take-get beside i _ (slice_get-get_or beside i 0 within)) in
    rw (
      front,
      next,
      map-append (λ b. wire_reached wires reach b d) (take i beside)
          (get_or beside i 0 ∷ []),
    ) refl

pub loop-near-init : goal.loop-near-init
loop-near-init c =
    let P = IsWithin (c.args.variables.wires * (c.args.variables.reach + 2)) in
    let pushed : c.push-2.new.self ≡ c.unreached.result ∷ c.reached.result ∷ [] =
    c.push-2.ensures ∙ ap (λ (row : Clause). row ++ c.reached.result ∷ [])
    (c.push.ensures ∙ ap (λ (row : Clause). row ++ c.unreached.result ∷ []) c.clear.ensures) in
    record {
      row = pushed ∙ ap₂ (λ (l m : Lit). l ∷ m ∷ []) c.unreached.ensures.value
          c.reached.ensures.value;
      long = ap length pushed;
      within = rw pushed (All-push P (c.unreached.result ∷ []) _
          (All-push P [] _ (All-nil P) c.unreached.ensures.within) c.reached.ensures.within);
    }

pub reached-requires-in-loop-near-clause-wire : goal.reached-requires-in-loop-near-clause-wire
reached-requires-in-loop-near-clause-wire c =
    All-get_or (λ b. b < c.args.variables.wires) c.args.beside.now c.loop-near.near-index 0
    c.loop-near-test.true c.requires.beside

pub loop-near-preserved : goal.loop-near-preserved
loop-near-preserved c =
    let pushed = c.push-in-loop-near.ensures in
    record {
      row = pushed
          ∙ ap (λ (l : Lit). c.loop-near.row ++ l ∷ []) c.reached-in-loop-near.ensures.value
          ∙ comes_next c.args.variables.wires c.args.variables.reach c.args.wire c.args.joins
          c.args.beside.now c.loop-near.near-index c.loop-near.row c.loop-near-test.true
          c.loop-near.invariant.row;
      long = ap length pushed ∙ length_push _ _ ∙ omega (arith, c.loop-near.invariant.long);
      within = rw pushed (All-push (IsWithin (c.args.variables.wires
          * (c.args.variables.reach + 2))) c.loop-near.row _ c.loop-near.invariant.within
          c.reached-in-loop-near.ensures.within);
    }
