-- The clauses with the order of a row of slots are fair: one about some nets alone is of the front of
-- the row that is theirs.
use Rattle.std.proofs.Common.{◌≡◌, ℕ, zero, suc, ◌<◌, ◌≤◌, Bool, true, false, cond, List, [], length, get_or, take, refl, sym, subst, inl, inr, arith, All}
use Rattle.std.specs.Prelude.{map}
use Rattle.std.specs.List.{enumerate_from}
use Rattle.std.proofs.lemmas.Bool.{cases_lt}
use Rattle.std.proofs.lemmas.List.{get_or-take, length-take, take-take}
use Rattle.std.proofs.lemmas.List.Elements.{All-append, All-nil, All-take}
use Rattle.std.proofs.lemmas.Option.{get_or_from_slice_get, slice_get_within}
use Rattle.list_laws.proofs.Members.{In, In-all, In-flat_map, In-map, all-from_In, from_In-flat_map}
use Rattle.list_laws.proofs.Numbered.{from_In-enumerate}
use Rattle.fpga_types.specs.Fits.{Fits}
use Rattle.fpga_types.specs.Problem.{RoutingProblem}
use Rattle.fpga_types.specs.Slots.{slots}
use Rattle.fpga_types.proofs.MeetingLemmas.{both_true}
use Rattle.sat_clause.specs.Formula.{IsTrueClause}
use Rattle.sat_clause.specs.Literal.{Clause}
use Rattle.route_encode.specs.Encoding.{cnf_of, has, lacks}
use Rattle.route_core.specs.Blamed.{net_of}
use Rattle.route_core.specs.Core.{IsLegalRoutingOf, IsOf}
use Rattle.route_core.specs.Fair.{IsAbout, IsFair, SatisfiesAbout}
use Rattle.route_core.proofs.MaskLemmas.{each-holds, has-slot, is-said, lacks-slot, length-masked, masked, room, said-is, spoken-of}
use Rattle.route_core.proofs.PartLemmas.{is-among}
use Rattle.route_pinned.proofs.SwapLemmas.{are-open}
use Rattle.problem_facts.specs.Groups.{is_exchangeable, track_group}
use Rattle.route_ordered.specs.Ordered.{AreInOrder, AreSlots, ordered_cnf, precedence, slot_clauses}
use Rattle.route_ordered.proofs.ClauseLemmas.{AreShown, order-to, slot-clause, to-front}
use Rattle.route_ordered.proofs.GroupLemmas.{in-first, in-within}
use Rattle.route_ordered.proofs.OrderLemmas.{ordered-part}

module _ (p : RoutingProblem) (nets row : List ℕ) where
  -- the slot at a place of the row is of one of the nets
  abbrev IsOfNets : ℕ → Type 0
  IsOfNets i = IsOf nets (slots p.route) (get_or row i 0)

  -- how many slots at the front of the row are of these nets
  abbrev IsFront : (k m : ℕ) → Type 0
  IsFront k m = (m ≤ k) × ((j : ℕ) → j < m → IsOfNets j) × (m < k → IsOfNets m → ⊥)

  front-of : (k : ℕ) → (m : ℕ) × IsFront k m
  front-of zero = (
    0,
    (
      omega arith,
      λ j below. absurd (omega (arith, below)),
      λ below of. absurd (omega (arith, below)),
    ),
  )
  front-of (suc k) =
      let r = front-of k in
      elim (cases_lt r.0 k) [
        | inl short ↦ (r.0, (omega (arith, r.1.0), r.1.1, λ below of. r.1.2 short of))
        | inr full ↦ elim (is-among nets (net_of (slots p.route) (get_or row k 0))) [
          | inl of ↦ (
            suc k,
            (
              omega arith,
              λ j below. elim (cases_lt j k) [
                | inl before ↦ r.1.1 j (omega (arith, before, full))
                | inr last ↦ (let e : k ≡ j = omega (arith, below, last) in
                    subst (λ (i : ℕ). IsOfNets i) e of)
              ],
              λ below own. absurd (omega (arith, below)),
            ),
          )
          | inr other ↦ (
            k,
            (
              omega arith,
              λ j below. r.1.1 j (omega (arith, below, full)),
              λ below of. other of,
            ),
          )
        ]
      ]

  module _ (width : ℕ) (there : AreSlots p row) (i : ℕ) (low : i < length row)
      (clause : Clause) (about : IsAbout width p nets clause)
      (here : In (slot_clauses p.arch.pattern width (take i row) (get_or row i 0)) clause) where
    -- where a clause of the slot at a place is about the nets alone, so is each slot up to it
    of-front : (j : ℕ) → j ≤ i → IsOfNets j
    of-front j upto =
        let form =
        slot-clause p.arch.pattern width (take i row) (get_or row i 0) clause here in
        let q : ℕ = form.0 in
        let t : ℕ = form.1 in
        elim (cases_lt j i) [
          | inl before ↦
              (let e : ℕ = get_or row j 0 in
              let first = in-first p.arch.pattern width q form.2 in
              let literal : In clause (has width e q) =
              subst (λ (c : Clause). In c (has width e q)) form.4
              (inr (In-flat_map (λ n. map (has width n) (track_group p.arch.pattern width q))
              (take i row) e (has width e q) (to-front row i j before low)
              (In-map (has width e) (track_group p.arch.pattern width q) q first.1))) in
              spoken-of width p nets clause (has width e q) e about literal
              (has-slot width e q (in-within p.arch.pattern width q q first))
              (there j 0 (omega (arith, before, low))))
          | inr not_before ↦
              (let s : ℕ = get_or row i 0 in
              let same : i ≡ j = omega (arith, upto, not_before) in
              let literal : In clause (lacks width s t) =
              subst (λ (c : Clause). In c (lacks width s t)) form.4 (inl refl) in
              subst (λ (n : ℕ). IsOfNets n) same
              (spoken-of width p nets clause (lacks width s t) s about literal
              (lacks-slot width s t form.3) (there i 0 low)))
        ]

module _ (width : ℕ) (p : RoutingProblem) (row : List ℕ) (some : 1 ≤ width) (fits : Fits p)
    (there : AreSlots p row) (nets : List ℕ) (m : ℕ) (front : IsFront p nets row (length row) m)
  where
    -- the slots at the front of the row that are of the nets
    abbrev theirs : List ℕ
    theirs = take m row

    many : length theirs ≡ m
    many = omega (arith, front.0, length-take m row)

    theirs-there : AreSlots p theirs
    theirs-there = All-take (λ s. s < length (slots p.route)) m row there

    theirs-of : (j : ℕ) → j < length theirs → IsOf nets (slots p.route) (get_or theirs j 0)
    theirs-of j low =
        let before : j < m = omega (arith, low, many) in
        subst (λ (s : ℕ). IsOf nets (slots p.route) s) (sym (get_or-take m row j 0 before))
        (front.1 j before)

    module _ (tracks : List ℕ) (legal : IsLegalRoutingOf width p nets tracks)
        (order : AreInOrder p.arch.pattern width theirs tracks) where
      abbrev values : List Bool
      values = masked width p some fits nets tracks legal

      -- a clause about these nets alone is true
      abbrev Holds : Clause → Type 0
      Holds clause = IsAbout width p nets clause → IsTrueClause values clause

      theirs-shown : AreShown width theirs tracks values
      theirs-shown = record {
        within = λ i low. legal.within (get_or theirs i 0) (theirs-there i 0 low) (theirs-of i low);
        own = λ i low. is-said width p some fits nets tracks legal (get_or theirs i 0)
            (theirs-there i 0 low) (theirs-of i low);
        is = λ i t low inside h. sym (said-is width p some fits nets tracks legal (get_or theirs i 0) t
            (theirs-there i 0 low) inside h).1;
        valued = λ i t low inside. room width p some fits nets tracks legal (get_or theirs i 0) t
            (theirs-there i 0 low) inside;
      }

      -- so are those of the slot at a place
      slot-holds : (i : ℕ) → i < length row → (clause : Clause)
          → In (slot_clauses p.arch.pattern width (take i row) (get_or row i 0)) clause
          → Holds clause
      slot-holds i low clause here about = elim (cases_lt i m) [
        | inl before ↦
            (let earlier : take i theirs ≡ take i row = take-take i m row (omega (arith, before)) in
            let slot : get_or theirs i 0 ≡ get_or row i 0 = get_or-take m row i 0 before in
            In-all (IsTrueClause values)
            (slot_clauses p.arch.pattern width (take i row) (get_or row i 0)) clause
            (subst (λ (at : List ℕ × ℕ). All (IsTrueClause values)
            (slot_clauses p.arch.pattern width at.0 at.1)) (λ k. (earlier k, slot k))
            (order-to p.arch.pattern width theirs tracks values theirs-shown i
            (omega (arith, before, many)) order)) here)
        | inr behind ↦ absurd (front.2 (omega (arith, behind, low))
            (of-front p nets row width there i low clause about here m (omega (arith, behind))))
      ]

      order-holds : (b : Bool) → All Holds (cond b (precedence p.arch.pattern width row) [])
      order-holds true = all-from_In Holds (precedence p.arch.pattern width row) (λ clause i.
          let of = from_In-flat_map
          (λ at. slot_clauses p.arch.pattern width (take at.0 row) at.1) (enumerate_from 0 row)
          clause i in
          let at = from_In-enumerate 0 row of.0 of.1 in
          let place : of.0.0 ≡ at.0 = omega (arith, at.1) in
          let slot = sym (get_or_from_slice_get row at.0 of.0.1 0 at.2) in
          slot-holds at.0 (slice_get_within row at.0 of.0.1 at.2) clause
          (subst (λ (z : ℕ × ℕ). In (slot_clauses p.arch.pattern width (take z.0 row) z.1) clause)
          (λ k. (place k, slot k)) of.2))
      order-holds false = All-nil Holds

      ordered-satisfies : SatisfiesAbout width p nets values (ordered_cnf width p row)
      ordered-satisfies = record {
        one_each = length-masked width p some fits nets tracks legal;
        each_clause = All-append Holds (cnf_of width p).clauses
            (cond (is_exchangeable width p) (precedence p.arch.pattern width row) [])
            (each-holds width p some fits nets tracks legal)
            (order-holds (is_exchangeable width p));
      }

-- so the clauses with the order are fair
pub ordered_is_fair : (width : ℕ) (p : RoutingProblem) (row : List ℕ) → 1 ≤ width → Fits p
    → AreSlots p row → IsFair width p (ordered_cnf width p row)
ordered_is_fair width p row some fits there = record {
  vars = refl;
  parts = λ nets tracks legal. go (is_exchangeable width p) refl nets tracks legal;
}
  where
    go : (b : Bool) → is_exchangeable width p ≡ b → (nets tracks : List ℕ)
        → IsLegalRoutingOf width p nets tracks
        → (values : List Bool) × SatisfiesAbout width p nets values (ordered_cnf width p row)
    go true e nets tracks legal =
        let front = front-of p nets row (length row) in
        let r = ordered-part width p fits (are-open width p (both_true _ _ e).1)
        (take front.0 row) (theirs-there width p row some fits there nets front.0 front.1) nets
        (theirs-of width p row some fits there nets front.0 front.1) tracks legal in (
          masked width p some fits nets r.0 r.1,
          ordered-satisfies width p row some fits there nets front.0 front.1 r.0 r.1 r.2,
        )
    go false e nets tracks legal = (
      masked width p some fits nets tracks legal,
      record {
        one_each = length-masked width p some fits nets tracks legal;
        each_clause = All-append (λ clause. IsAbout width p nets clause
            → IsTrueClause (masked width p some fits nets tracks legal) clause)
            (cnf_of width p).clauses
            (cond (is_exchangeable width p) (precedence p.arch.pattern width row) [])
            (each-holds width p some fits nets tracks legal)
            (subst (λ (b : Bool). All (λ clause. IsAbout width p nets clause
            → IsTrueClause (masked width p some fits nets tracks legal) clause)
            (cond b (precedence p.arch.pattern width row) [])) (sym e)
            (All-nil (λ clause. IsAbout width p nets clause
            → IsTrueClause (masked width p some fits nets tracks legal) clause)));
      },
    )
