-- Each net is on the input that it ends at, and on no other.
use Rattle.std.proofs.Common.{◌≡◌, ℕ, zero, suc, ◌*◌, ◌≤◌, Some, List, [], ◌∷◌, ◌++◌, length, sym, ap, ◌∙◌, inl, inr, arith}
use Rattle.std.specs.Prelude.{slice_get}
use Rattle.std.proofs.lemmas.Bool.{cases_eq}
use Rattle.list_laws.proofs.Places.{get-cases, get-last}
use Rattle.route_gen.specs.Draws.{ending_at, nets_into, sinks_of}
use Rattle.route_gen.specs.declared.draws.Sink.{Sink}
use Rattle.route_gen.proofs.DrawLemmas.{into-here, into-other, into-push, next-free, table-at, table-length}

-- what stands at a place stands there too with more behind it
pub get-kept : {T : Type 0} (xs ys : List T) (i : ℕ) (x : T) → slice_get xs i ≡ Some x →
    slice_get (xs ++ ys) i ≡ Some x
get-kept [] ys i x is = cc
get-kept (first ∷ rest) ys zero x is = is
get-kept (first ∷ rest) ys (suc i) x is = get-kept rest ys i x is

-- what ends at an input stands there in the table, and nothing else does
pub record AreTaken (sinks : List Sink) : Type 0 where
  pub ends : (block pin net : ℕ) → slice_get (nets_into sinks block) pin ≡ Some net
      → slice_get sinks net ≡ Some (record { block = block; pin = pin })
  pub taken : (net : ℕ) (sink : Sink) → slice_get sinks net ≡ Some sink
      → slice_get (nets_into sinks sink.block) sink.pin ≡ Some net

-- where no net ends
taken-none : AreTaken []
taken-none = record { ends = λ block pin net is. cc; taken = λ net sink is. cc }

-- one more net, which takes the next input of its block
taken-push : (sinks : List Sink) (sink : Sink) → AreTaken sinks →
    sink.pin ≡ length (nets_into sinks sink.block) → AreTaken (sinks ++ sink ∷ [])
taken-push sinks sink before next = record {
  ends = λ block pin net is. elim (cases_eq block sink.block) [
    | inl same ↦ here block pin net same is
    | inr other ↦ kept block pin net (into-other sinks sink block other) is
  ];
  taken = λ net other is. elim (get-cases sinks sink other net is) [
    | inl last ↦ last_taken net other last.0 last.1
    | inr earlier ↦
        ap (λ (nets : List ℕ). slice_get nets other.pin) (into-push sinks sink other.block)
        ∙ get-kept (nets_into sinks other.block) (ending_at other.block (length sinks, sink))
        other.pin net (before.taken net other earlier)
  ];
}
  where
    -- an earlier one
    kept : (block pin net : ℕ) → nets_into sinks block ≡ nets_into (sinks ++ sink ∷ []) block →
        slice_get (nets_into (sinks ++ sink ∷ []) block) pin ≡ Some net →
        slice_get (sinks ++ sink ∷ []) net ≡ Some (record { block = block; pin = pin })
    kept block pin net same is =
        get-kept sinks (sink ∷ []) net (record { block = block; pin = pin })
        (before.ends block pin net
        (ap (λ (nets : List ℕ). slice_get nets pin) same ∙ is))

    -- at the block of the new one
    here : (block pin net : ℕ) → block ≡ sink.block →
        slice_get (nets_into (sinks ++ sink ∷ []) block) pin ≡ Some net →
        slice_get (sinks ++ sink ∷ []) net ≡ Some (record { block = block; pin = pin })
    here block pin net same is =
        elim (get-cases (nets_into sinks sink.block) (length sinks) net pin
        (sym (ap (λ (nets : List ℕ). slice_get nets pin) (ap (nets_into (sinks ++ sink ∷ [])) same
        ∙ into-here sinks sink)) ∙ is)) [
          | inl last ↦
              let at : sink.pin ≡ pin = next ∙ sym last.0 in
              get-last sinks sink net (sym last.1)
              ∙ (λ i. Some (record { block = sym same i; pin = at i }))
          | inr earlier ↦
              get-kept sinks (sink ∷ []) net (record { block = block; pin = pin })
              (before.ends block pin net
              (ap (λ (b : ℕ). slice_get (nets_into sinks b) pin) same ∙ earlier))
        ]

    last_taken : (net : ℕ) (other : Sink) → net ≡ length sinks → sink ≡ other →
        slice_get (nets_into (sinks ++ sink ∷ []) other.block) other.pin ≡ Some net
    last_taken net other last same =
        ap (λ (s : Sink). slice_get (nets_into (sinks ++ sink ∷ []) s.block) s.pin) (sym same)
        ∙ ap (λ (nets : List ℕ). slice_get nets sink.pin) (into-here sinks sink)
        ∙ get-last (nets_into sinks sink.block) (length sinks) sink.pin next
        ∙ ap (λ (n : ℕ). Some n) (sym last)

-- so it is of the nets that a seed gives
pub sinks-taken : (seed side nets : ℕ) → 1 ≤ side → nets ≤ side * side →
    AreTaken (sinks_of seed side nets)
sinks-taken seed side zero some few = taken-none
sinks-taken seed side (suc nets) some few =
    grind (
      arith,
      next-free,
      table-length,
      taken-push,
      table-at,
      (sinks-taken seed side nets some
          (omega arith)),
    )
