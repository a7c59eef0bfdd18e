-- The clauses with pinned tracks are fair: the pins of some nets take nothing from these by
-- themselves.
use Rattle.std.proofs.Common.{◌≡◌, ℕ, ◌≤◌, Bool, true, false, cond, List, [], ◌∷◌, get_or, refl, sym, subst, inl, All}
use Rattle.std.specs.Prelude.{IsTrue}
use Rattle.std.proofs.lemmas.List.Elements.{All-append, All-nil}
use Rattle.list_laws.proofs.Members.{In, all-from_In, any-from_In, from_In-map}
use Rattle.fpga_types.specs.Fits.{Fits}
use Rattle.fpga_types.specs.Given.{IsGiven}
use Rattle.fpga_types.specs.Problem.{RoutingProblem}
use Rattle.fpga_types.specs.Slots.{slots}
use Rattle.sat_clause.specs.Formula.{Cnf, IsTrueClause, makes_true}
use Rattle.sat_clause.specs.Literal.{Clause}
use Rattle.route_encode.specs.Encoding.{cnf_of, has}
use Rattle.route_encode.specs.Said.{says}
use Rattle.route_core.specs.Core.{IsLegalRoutingOf, IsOf}
use Rattle.route_core.specs.Fair.{IsAbout, IsFair, SatisfiesAbout}
use Rattle.route_core.proofs.MaskLemmas.{each-holds, has-slot, is-said, length-masked, masked, plain_is_fair, spoken-of}
use Rattle.problem_facts.specs.Full.{is_symmetric}
use Rattle.route_pinned.specs.Pinned.{pin_clauses, pinned_cnf}
use Rattle.route_pinned.specs.Pins.{pins}
use Rattle.route_pinned.proofs.EncodeLemmas.{cnf-plain}
use Rattle.route_pinned.proofs.PinLemmas.{pin-there, pinned-part}

module _ (width : ℕ) (p : RoutingProblem) (some : 1 ≤ width) (given : IsGiven p) (fits : Fits p)
    (nets : List ℕ) where
  module _ (tracks : List ℕ) (legal : IsLegalRoutingOf width p nets tracks)
      (pinned : (pin : ℕ × ℕ) → In (pins width p) pin → IsOf nets (slots p.route) pin.0
      → get_or tracks pin.0 0 ≡ pin.1) where
    abbrev values : List Bool
    values = masked width p some fits nets tracks legal

    -- a clause about these nets alone is true
    abbrev Holds : Clause → Type 0
    Holds clause = IsAbout width p nets clause → IsTrueClause values clause

    -- so is the clause of a pin
    pin-holds : (pin : ℕ × ℕ) → In (pins width p) pin → Holds (has width pin.0 pin.1 ∷ [])
    pin-holds pin i about =
        let there = pin-there width p given pin i in
        let clause : Clause = has width pin.0 pin.1 ∷ [] in
        let of : IsOf nets (slots p.route) pin.0 =
        spoken-of width p nets clause (has width pin.0 pin.1) pin.0 about (inl refl)
        (has-slot width pin.0 pin.1 there.1) there.0 in
        any-from_In (λ l. IsTrue (makes_true values l)) clause (has width pin.0 pin.1) (inl refl)
        (subst (λ (t : ℕ). says values width pin.0 t ≡ true) (pinned pin i of)
        (is-said width p some fits nets tracks legal pin.0 there.0 of))

    pins-hold : (b : Bool) → All Holds (cond b (pin_clauses width p) [])
    pins-hold true = all-from_In Holds (pin_clauses width p) (λ c i.
        let made = from_In-map (λ (pin : ℕ × ℕ). has width pin.0 pin.1 ∷ []) (pins width p) c i in
        subst Holds made.2 (pin-holds made.0 made.1))
    pins-hold false = All-nil Holds

    pinned-satisfies : SatisfiesAbout width p nets values (pinned_cnf width p)
    pinned-satisfies = record {
      one_each = length-masked width p some fits nets tracks legal;
      each_clause = All-append Holds (cnf_of width p).clauses
          (cond (is_symmetric width p) (pin_clauses width p) [])
          (each-holds width p some fits nets tracks legal) (pins-hold (is_symmetric width p));
    }

-- so the clauses with pinned tracks are fair
pub pinned_is_fair : (width : ℕ) (p : RoutingProblem) → 1 ≤ width → IsGiven p → Fits p
    → IsFair width p (pinned_cnf width p)
pinned_is_fair width p some given fits = go (is_symmetric width p) refl
  where
    go : (b : Bool) → is_symmetric width p ≡ b → IsFair width p (pinned_cnf width p)
    go true e = record {
      vars = refl;
      parts = λ nets tracks legal.
          let r = pinned-part width p given fits e nets tracks legal in (
            masked width p some fits nets r.0 r.1,
            pinned-satisfies width p some given fits nets r.0 r.1 r.2,
          );
    }
    go false e = subst (λ (f : Cnf). IsFair width p f) (sym (cnf-plain width p e))
        (plain_is_fair width p some fits)
