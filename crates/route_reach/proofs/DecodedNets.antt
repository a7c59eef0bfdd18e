-- The nets that truth values stand for share no wire and no pin, and their route counts within the
-- reach.
use Rattle.std.proofs.Common.{◌≡◌, ◌≢◌, ℕ, zero, suc, ◌+◌, ◌<◌, ◌≤◌, Bool, true, false, Some, List, [], ◌∷◌, ◌++◌, length, take, inl, inr, refl, sym, ap, subst, ◌∙◌, arith, length-append}
use Rattle.std.specs.Prelude.{◌&&◌, ◌==◌, All, Contains, IsTrue, not, slice_get}
use Rattle.std.proofs.Math.Nat.{mod-lt}
use Rattle.std.proofs.lemmas.Bool.Decides.{Decides-eqb}
use Rattle.std.proofs.lemmas.Option.{slice_get_within}
use Rattle.list_laws.proofs.Members.{In, In-contains, In-list_any, all-from_In, contains-In}
use Rattle.list_laws.proofs.Places.{In-place, get-cases, get-take, get-taken, some_is}
use Rattle.fpga_bounds.proofs.LineLemmas.{elem_line}
use Rattle.fpga_types.specs.Fits.{Fits}
use Rattle.fpga_types.specs.Given.{IsGiven}
use Rattle.fpga_types.specs.declared.grid.Wire.{Wire}
use Rattle.fpga_types.specs.declared.limits.TheConstants.{WIDTH_LIMIT}
use Rattle.fpga_types.specs.declared.problem.Slot.{Slot}
use Rattle.fpga_types.specs.declared.route.Elem.{Elem}
use Rattle.fpga_types.specs.declared.route.RouteNet.{RouteNet}
use Rattle.fpga_types.specs.declared.route.RouteText.{RouteText}
use Rattle.route_encode.specs.Said.{says}
use Rattle.route_reach.specs.Decoding.{AreDecoded, IsDecodedNet, IsWireOfNet}
use Rattle.route_reach.specs.Encoding.{wire_at}
use Rattle.route_reach.specs.Good.{IsReachRoute, is_labelled, is_pin_among}
use Rattle.route_reach.specs.Modelled.{IsStart, ModelOf, frame_in, graph_in, slots_in_model}
use Rattle.route_reach.specs.Printing.{AreApart, IsFrame, IsPrintedNet, NetFrame, frame}
use Rattle.route_reach.specs.Quiet.{IsQuiet}
use Rattle.route_reach.specs.Tree.{IsTree, IsUsed, Serves, TreeOf, reached_at, tree_slot, tree_track}
use Rattle.route_reach.specs.declared.tree.Reached.{Reached}
use Rattle.route_reach.proofs.ApartLemmas.{pins-apart}
use Rattle.route_reach.proofs.FoundLemmas.{on-line}
use Rattle.route_reach.proofs.GoodLemmas.{counts}
use Rattle.route_reach.proofs.Heeds.{Heeds}
use Rattle.route_reach.proofs.ModelLemmas.{IsSaid, apart}
use Rattle.route_verify.specs.Lines.{has_wire, is_on_wire, is_wire_of}
use Rattle.route_verify.specs.Reach.{reach_line}
use Rattle.route_verify.specs.Wiring.{elem_wire}

there-at : {T : Type 0} (xs : List T) (n : ℕ) → n < length xs → (x : T) × (slice_get xs n ≡ Some x)
there-at [] n low = absurd (omega (arith, low))
there-at (x ∷ xs) zero low = (x, refl)
there-at (x ∷ xs) (suc n) low = there-at xs n (omega (arith, low))

-- no cause holds at the line behind these nets
abbrev IsQuietAt : ModelOf → List RouteNet → RouteNet → ℕ → Elem → Type 0
IsQuietAt m earlier other i e =
    IsQuiet (graph_in m) m.reach (reach_line m.problem (elem_line earlier other i e))

module _ (m : ModelOf) (h : Heeds (frame_in m) m.problem.route m.values) where
  -- no wire is used by two nets
  nets-apart : (a b : ℕ) (w : Wire) → a ≢ b → IsWireOfNet m a w → IsWireOfNet m b w → ⊥
  nets-apart a b w differ u v = apart m.width m.reach m.problem m.values h a b w differ
      (said a w u) (said b w v)
    where
      said : (n : ℕ) (w : Wire) → IsWireOfNet m n w
          → IsSaid m.width m.reach m.problem m.values h n w
      said n w u = record {
        slot = u.slot;
        track = u.track;
        low = u.low;
        net = u.own;
        inside = u.inside;
        says = u.used;
        is = u.is;
      }

  module _ (fits : Fits m.problem) (nets : List RouteNet)
      (decoded : AreDecoded m (length m.problem.route.nets) nets) where
    -- the net of the global route that a net stands for
    given-at : (n : ℕ) (other : RouteNet) → slice_get nets n ≡ Some other
        → (net : RouteNet) × (slice_get m.problem.route.nets n ≡ Some net)
    given-at n other at = there-at m.problem.route.nets n
        (omega (arith, slice_get_within nets n other at, decoded.each))

    wires-apart : (n : ℕ) (net other : RouteNet) → slice_get m.problem.route.nets n ≡ Some net
        → slice_get nets n ≡ Some other → (e : Elem) (w : Wire) → Contains other.elems e
        → elem_wire e ≡ Some w → is_wire_of (take n nets) w ≡ false
    wires-apart n net other here at e w has is = go (is_wire_of (take n nets) w) refl
      where
        go : (b : Bool) → is_wire_of (take n nets) w ≡ b → b ≡ false
        go false taken = refl
        go true taken =
            let first = In-list_any (λ (x : RouteNet). has_wire x.elems w) (take n nets) taken in
            let line = In-list_any (is_on_wire w) first.0.elems first.2 in
            let place = In-place (take n nets) first.0 first.1 in
            let before = get-take nets n place.0 first.0 place.1 in
            let given = given-at place.0 first.0 before.1 in
            let u = (decoded.net place.0 given.0 first.0 given.1 before.1).wires line.0 w
            (contains-In first.0.elems line.0 line.1) (on-line w line.0 line.2) in
            let v = (decoded.net n net other here at).wires e w has is in
            absurd (nets-apart place.0 n w (λ s. omega (arith, s, before.0)) u v)

    apart-from : (n : ℕ) (net other : RouteNet) → slice_get m.problem.route.nets n ≡ Some net
        → slice_get nets n ≡ Some other → AreApart (take n nets) other
    apart-from n net other here at = record {
      wires = wires-apart n net other here at;
      pins = pins-apart m.problem fits n net other here (decoded.net n net other here at).routed
          (take n nets) (λ k first is.
          let before = get-take nets n k first is in
          let given = given-at k first before.1 in (
            given.0,
            get-taken m.problem.route.nets n k given.0 before.0 given.1,
            (decoded.net k given.0 first given.1 before.1).routed,
          ));
    }

    pub route-counts : (found : RouteText) → found.grid ≡ m.problem.route.grid → found.nets ≡ nets
        → IsReachRoute m.width m.reach m.problem found
    route-counts found grid same =
        counts m.width m.reach m.problem fits found grid
        (ap length same ∙ decoded.each)
        (λ n net other here at. (own n net other here at).routed)
        (λ n net other here at. (own n net other here at).some)
        (λ n other i e at line.
        let given = given-at n other (at-nets n other at) in
        subst (λ (earlier : List RouteNet). IsQuietAt m earlier other i e) (ap (take n) (sym same))
        ((own n given.0 other given.1 at).quiet (take n nets) i e
        (apart-from n given.0 other given.1 (at-nets n other at)) line))
        (λ n other at. given-at n other (at-nets n other at))
      where
        at-nets : (n : ℕ) (other : RouteNet) → slice_get found.nets n ≡ Some other
            → slice_get nets n ≡ Some other
        at-nets n other at = ap (λ (xs : List RouteNet). slice_get xs n) (sym same) ∙ at

        own : (n : ℕ) (net other : RouteNet) → slice_get m.problem.route.nets n ≡ Some net
            → slice_get found.nets n ≡ Some other → IsDecodedNet m n net other
        own n net other here at = decoded.net n net other here (at-nets n other at)

-- ---- one net

zero-not : (n : ℕ) → 0 < n → (n == 0) ≡ false
zero-not n some = go (n == 0) refl
  where
    go : (b : Bool) → (n == 0) ≡ b → b ≡ false
    go false e = refl
    go true e = absurd (omega (arith, some, (Decides-eqb n 0).0 e))

none-empty : (b : Bool) (n : ℕ) → 0 < n → (b && n == 0) ≡ false
none-empty true n some = zero-not n some
none-empty false n some = refl

all-none : (P : Elem → Type 0) (xs : List Elem) → xs ≡ [] → All P xs
all-none P xs none =
    all-from_In P xs (λ x i. absurd (subst (λ (ys : List Elem). In ys x) none i))

no-line : (xs : List Elem) (e : Elem) → xs ≡ [] → Contains xs e → ⊥
no-line xs e none has = subst (λ (ys : List Elem). In ys e) none (In-contains xs e has)

no-get : {T : Type 0} (xs : List T) (i : ℕ) (x : T) → xs ≡ [] → slice_get xs i ≡ Some x → ⊥
no-get {T} xs i x none at =
    let empty : length xs ≡ 0 = ap length none in omega (arith, slice_get_within xs i x at, empty)

-- a net of the problem is printed over its tree
module _ (m : ModelOf) (n : ℕ) (net : RouteNet) (tree : TreeOf)
    (is_tree : IsTree (graph_in m) m.reach (slots_in_model m) n net tree)
    (used : IsUsed m.values tree) (some : 1 ≤ m.width) where
  wire-of-net : (k : ℕ) (r : Reached) (w : Wire) → reached_at tree k ≡ Some r
      → wire_at (slots_in_model m) (tree_slot tree k) (tree_track tree k) ≡ w → IsWireOfNet m n w
  wire-of-net k r w at is = record {
    slot = tree_slot tree k;
    track = tree_track tree k;
    low = is_tree.within k r at;
    own = is_tree.own k r at;
    inside = rw is_tree.width (mod-lt k some);
    used = subst (λ (w : ℕ). says m.values w (tree_slot tree k) (tree_track tree k) ≡ true)
        is_tree.width (used k r at);
    is = is;
  }

  pub decoded-printed : (f : NetFrame) (found : RouteNet)
      → f ≡ frame m.problem m.width m.reach n net tree → IsPrintedNet f found
      → IsDecodedNet m n net found
  decoded-printed f found same printed =
      go (subst (λ (g : NetFrame). IsPrintedNet g found) same printed)
    where
      go : IsPrintedNet (frame m.problem m.width m.reach n net tree) found
          → IsDecodedNet m n net found
      go h = record {
        routed = h.routed;
        some = none-empty (not found.global) (length found.elems) h.some;
        wires = λ e w has is. (let at = h.wires e w has is in wire-of-net at.0 at.1 w at.2 at.3);
        quiet = h.quiet;
      }

  pub framed : IsGiven m.problem → Fits m.problem → m.width ≤ WIDTH_LIMIT
      → slice_get m.problem.route.nets n ≡ Some net → net.global ≡ false
      → Serves (graph_in m) (slots_in_model m) net tree
      → (f : NetFrame) → f ≡ frame m.problem m.width m.reach n net tree → IsFrame f
  framed given fits most here ordinary serves f same =
      subst IsFrame (sym same) (record {
        given = given;
        fits = fits;
        wide = some;
        most = most;
        here = here;
        ordinary = ordinary;
        tree = is_tree;
        serves = serves;
      })

-- a global net stays as it is
pub decoded-global : (m : ModelOf) (n : ℕ) (net found : RouteNet) → net.global ≡ true
    → net.elems ≡ [] → found ≡ net → IsDecodedNet m n net found
decoded-global m n net found global none same =
    subst (IsDecodedNet m n net) (sym same) (record {
      routed = record {
        k = refl;
        name = refl;
        global = refl;
        kept = refl;
        elems = λ g. refl;
        pins = all-none (λ e. IsTrue (is_pin_among net.elems e)) net.elems none;
        labels = all-none (λ e. IsTrue (is_labelled e)) net.elems none;
      };
      some = rw global refl;
      wires = λ e w has is. absurd (no-line net.elems e none has);
      quiet = λ earlier i e apart at. absurd (no-get net.elems i e none at);
    })

-- ---- net by net

pub decoded-none : (m : ModelOf) → AreDecoded m 0 []
decoded-none m = record {
  each = refl;
  net = λ k given found here at. absurd (no-get [] k found refl at);
}

module _ (m : ModelOf) (count : ℕ) (nets : List RouteNet) (net found : RouteNet)
    (h : AreDecoded m count nets) (here : slice_get m.problem.route.nets count ≡ Some net)
    (own : IsDecodedNet m count net found) where
  last-net : (k : ℕ) (given other : RouteNet) → slice_get m.problem.route.nets k ≡ Some given
      → k ≡ length nets → found ≡ other → IsDecodedNet m k given other
  last-net k given other at last same =
      let number : count ≡ k = sym (last ∙ h.each) in
      let one : net ≡ given =
      some_is (sym here ∙ ap (slice_get m.problem.route.nets) number ∙ at) in
      subst (IsDecodedNet m k given) same
      (subst (λ (g : RouteNet). IsDecodedNet m k g found) one
      (subst (λ (j : ℕ). IsDecodedNet m j net found) number own))

  pub decoded-more : AreDecoded m (count + 1) (nets ++ found ∷ [])
  decoded-more = record {
    each = length-append nets (found ∷ []) ∙ ap (λ (n : ℕ). n + 1) h.each;
    net = λ k given other at is. elim (get-cases nets found other k is) [
      | inl last ↦ last-net k given other at last.0 last.1
      | inr before ↦ h.net k given other at before
    ];
  }

-- one net more, by other names
pub decoded-step : (m model : ModelOf) (count number : ℕ) (nets more : List RouteNet)
    (net found : RouteNet) → AreDecoded m count nets → model ≡ m → number ≡ count
    → slice_get m.problem.route.nets count ≡ Some net → IsDecodedNet model number net found
    → more ≡ nets ++ found ∷ [] → AreDecoded m (count + 1) more
decoded-step m model count number nets more net found h same at here own pushed =
    subst (AreDecoded m (count + 1)) (sym pushed)
    (decoded-more m count nets net found h here
    (subst (λ (k : ℕ). IsDecodedNet m k net found) at
    (subst (λ (x : ModelOf). IsDecodedNet x number net found) same own)))

-- the slots of the first net begin at the first slot
pub starts-first : (all : List Slot) → IsStart all 0 0
starts-first all = record {
  within = omega arith;
  before = λ s low. absurd (omega (arith, low));
  behind = λ s above low. omega arith;
}
