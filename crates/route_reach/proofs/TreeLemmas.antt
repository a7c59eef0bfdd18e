-- A tree with one wire more.
use Rattle.std.proofs.Common.{◌≡◌, ◌≢◌, ◌⊎◌, ℕ, ◌<◌, ◌≤◌, Bool, true, false, Option, Some, None, List, [], ◌∷◌, ◌++◌, length, set, inl, inr, refl, sym, ap, subst, ◌∙◌, arith, length-set}
use Rattle.std.specs.Prelude.{◌==◌}
use Rattle.std.proofs.lemmas.Bool.{false≢true}
use Rattle.std.proofs.lemmas.Bool.Decides.{Decides-eqb}
use Rattle.std.proofs.lemmas.List.{get_or-set_other, get_or-set_same}
use Rattle.std.proofs.lemmas.List.Elements.{All-append}
use Rattle.list_laws.proofs.Members.{In-all, In-append_left, In-append_right, In-contains, all-from_In, contains-In}
use Rattle.list_laws.proofs.Places.{none_is_not_some, some_is}
use Rattle.fpga_graph.specs.GraphOf.{GraphOf}
use Rattle.fpga_types.specs.Slots.{slot_at}
use Rattle.fpga_types.specs.declared.problem.Slot.{Slot}
use Rattle.fpga_types.specs.declared.route.RouteNet.{RouteNet}
use Rattle.route_encode.specs.Said.{says}
use Rattle.route_reach.specs.Growth.{Grows, IsGrown, IsLevel, IsReachedOver, IsReachedWithin, Keeps}
use Rattle.route_reach.specs.Modelled.{NetOf, graph_in, slots_in_model}
use Rattle.route_reach.specs.Tree.{IsLedBy, IsTree, IsUsed, TreeOf, reached_at, tree_slot, tree_track, with_new, with_reached}
use Rattle.route_reach.specs.declared.tree.Lead.{Lead}
use Rattle.route_reach.specs.declared.tree.Lead.TheVariants.{Pin as ByPin, Wire as ByWire}
use Rattle.route_reach.specs.declared.tree.Reached.{Reached}

same-or-other : (j k : ℕ) → (j ≡ k) ⊎ (j ≢ k)
same-or-other j k = go (j == k) refl
  where
    go : (b : Bool) → (j == k) ≡ b → (j ≡ k) ⊎ (j ≢ k)
    go true e = inl ((Decides-eqb j k).0 e)
    go false e = inr (λ same. false≢true (sym e ∙ (Decides-eqb j k).1 same))

-- what leads to a wire still does in a tree that keeps what is reached
led-kept : (g : GraphOf) (all : List Slot) (net : RouteNet) (tree : TreeOf)
    (wires : List (Option Reached)) (k d : ℕ) (lead : Lead)
    → Keeps tree (record tree { wires = wires }) → IsLedBy g all net tree k d lead
    → IsLedBy g all net (record tree { wires = wires }) k d lead
led-kept g all net tree wires k d (ByPin e) keeps h = h
led-kept g all net tree wires k d (ByWire j) keeps h = (h.0, keeps j h.0 h.1, h.2, h.3)

-- wire k is one of the net that is used, and is reached so
pub record IsReachedWire (n : NetOf) (tree : TreeOf) (k : ℕ) (r : Reached) : Type 0 where
  pub within : tree_slot tree k < length (slots_in_model n.model)
  pub own : (slot_at (slots_in_model n.model) (tree_slot tree k)).net ≡ n.number
  pub low : r.depth ≤ n.model.reach
  pub led : IsLedBy (graph_in n.model) (slots_in_model n.model) n.net tree k r.depth r.lead
  pub used : says n.model.values tree.width (tree_slot tree k) (tree_track tree k) ≡ true

abbrev pub IsTreeOf : NetOf → TreeOf → Type 0
IsTreeOf n tree =
    IsTree (graph_in n.model) n.model.reach (slots_in_model n.model) n.number n.net tree

module _ (tree : TreeOf) (k : ℕ) (r : Reached) where
  abbrev more : TreeOf
  more = record tree { wires = set tree.wires k (Some r) }

  -- a wire that is reached stays so
  pub stays-reached : (q : Reached) → reached_at tree k ≡ Some q → with_reached tree k r ≡ tree
  stays-reached q is = rw is refl

  pub stays-listed : (level : List ℕ) (q : Reached) → reached_at tree k ≡ Some q
      → with_new tree level k ≡ level
  stays-listed level q is = rw is refl

  pub newly-reached : reached_at tree k ≡ None → with_reached tree k r ≡ more
  newly-reached is = rw is refl

  pub newly-listed : (level : List ℕ) → reached_at tree k ≡ None
      → with_new tree level k ≡ level ++ k ∷ []
  newly-listed level is = rw is refl

  here-more : k < length tree.wires → reached_at more k ≡ Some r
  here-more low = get_or-set_same tree.wires k (Some r) None low

  other-more : (j : ℕ) → j ≢ k → reached_at more j ≡ reached_at tree j
  other-more j differ = get_or-set_other tree.wires k j (Some r) None differ

  keeps-more : reached_at tree k ≡ None → Keeps tree more
  keeps-more none j q is = elim (same-or-other j k) [
    | inl same ↦ absurd (none_is_not_some (sym none ∙ ap (reached_at tree) (sym same) ∙ is))
    | inr differ ↦ other-more j differ ∙ is
  ]

  from-more : k < length tree.wires → (j : ℕ) (q : Reached) → reached_at more j ≡ Some q
      → (reached_at tree j ≡ Some q) ⊎ ((k ≡ j) × (r ≡ q))
  from-more low j q is = elim (same-or-other j k) [
    | inl same ↦
        inr (sym same, some_is (sym (here-more low) ∙ ap (reached_at more) (sym same) ∙ is))
    | inr differ ↦ inl (sym (other-more j differ) ∙ is)
  ]

  module _ (n : NetOf) where
    new-kept : Keeps tree more → IsReachedWire n tree k r → (j : ℕ) (q : Reached) → k ≡ j → r ≡ q
        → IsReachedWire n more j q
    new-kept keeps h j q same how = subst (IsReachedWire n more j) how
        (subst (λ (i : ℕ). IsReachedWire n more i r) same (record {
          within = h.within;
          own = h.own;
          low = h.low;
          led = led-kept (graph_in n.model) (slots_in_model n.model) n.net tree
              (set tree.wires k (Some r)) k r.depth r.lead keeps h.led;
          used = h.used;
        }))

    tree-more : IsTreeOf n tree → IsReachedWire n tree k r → k < length tree.wires
        → reached_at tree k ≡ None → IsTreeOf n more
    tree-more h new low none =
        let keeps = keeps-more none in
        record {
          width = h.width;
          within = λ j q is. elim (from-more low j q is) [
            | inl old ↦ h.within j q old
            | inr same ↦ (new-kept keeps new j q same.0 same.1).within
          ];
          own = λ j q is. elim (from-more low j q is) [
            | inl old ↦ h.own j q old
            | inr same ↦ (new-kept keeps new j q same.0 same.1).own
          ];
          low = λ j q is. elim (from-more low j q is) [
            | inl old ↦ h.low j q old
            | inr same ↦ (new-kept keeps new j q same.0 same.1).low
          ];
          led = λ j q is. elim (from-more low j q is) [
            | inl old ↦ led-kept (graph_in n.model) (slots_in_model n.model) n.net tree
                (set tree.wires k (Some r)) j q.depth q.lead keeps (h.led j q old)
            | inr same ↦ (new-kept keeps new j q same.0 same.1).led
          ];
        }

    used-more : IsUsed n.model.values tree → IsReachedWire n tree k r → k < length tree.wires
        → reached_at tree k ≡ None → IsUsed n.model.values more
    used-more h new low none = λ j q is. elim (from-more low j q is) [
      | inl old ↦ h j q old
      | inr same ↦ (new-kept (keeps-more none) new j q same.0 same.1).used
    ]

  level-more : (d : ℕ) (level : List ℕ) → IsLevel tree d level → r.depth ≡ d
      → k < length tree.wires → reached_at tree k ≡ None → IsLevel more d (level ++ k ∷ [])
  level-more d level h deep low none =
      let keeps = keeps-more none in
      record {
        low = λ j q is. elim (from-more low j q is) [
          | inl old ↦ h.low j q old
          | inr same ↦ subst (λ (s : Reached). s.depth ≤ d) same.1 (omega (arith, deep))
        ];
        all = λ j q is at. elim (from-more low j q is) [
          | inl old ↦ contains-In (level ++ k ∷ []) j
              (In-append_left level (k ∷ []) j (In-contains level j (h.all j q old at)))
          | inr same ↦ contains-In (level ++ k ∷ []) j
              (In-append_right level (k ∷ []) j (inl same.0))
        ];
        each = All-append (IsReachedOver more d) level (k ∷ [])
            (all-from_In (IsReachedOver more d) level (λ j i.
            let at = In-all (IsReachedOver tree d) level j h.each i in
            record { how = at.how; is = keeps j at.how at.is; deep = at.deep }))
            (all-from_In (IsReachedOver more d) (k ∷ []) (λ j i. elim i [
              | inl e ↦ subst (IsReachedOver more d) e
                  (record { how = r; is = here-more low; deep = deep })
              | inr none ↦ absurd none
            ]));
      }

  module _ (n : NetOf) (d : ℕ) (level : List ℕ) where
    same-grows : IsGrown n d tree level → Grows n d tree tree level
    same-grows h = record { keeps = λ j q is. is; only = λ j q is differ. is; grown = h }

    more-grows : IsGrown n d tree level → r.depth ≡ d
        → IsReachedWire n tree k r
        → k < length tree.wires → reached_at tree k ≡ None
        → Grows n d tree more (level ++ k ∷ [])
    more-grows h deep new low none = record {
      keeps = keeps-more none;
      only = λ j q is differ. elim (from-more low j q is) [
        | inl old ↦ old
        | inr same ↦ absurd (differ (ap (λ (s : Reached). s.depth) (sym same.1) ∙ deep))
      ];
      grown = record {
        first = h.first;
        long = length-set tree.wires k (Some r) ∙ h.long;
        is_tree = tree-more n h.is_tree new low none;
        used = used-more n h.used new low none;
        is_level = level-more d level h.is_level deep low none;
      };
    }

    -- a wire more, over so many joins as the level
    pub grows-with : IsGrown n d tree level → r.depth ≡ d
        → IsReachedWire n tree k r
        → k < length tree.wires
        → Grows n d tree (with_reached tree k r) (with_new tree level k)
    grows-with h deep new low = go (reached_at tree k) refl
      where
        go : (o : Option Reached) → reached_at tree k ≡ o
            → Grows n d tree (with_reached tree k r) (with_new tree level k)
        go None e = rw (newly-reached e, newly-listed level e) (more-grows h deep new low e)
        go (Some q) e = rw (stays-reached q e, stays-listed level q e) (same-grows h)

    -- then it is reached over at most so many joins
    pub within-with : IsGrown n d tree level → r.depth ≡ d → k < length tree.wires
        → IsReachedWithin (with_reached tree k r) d k
    within-with h deep low = go (reached_at tree k) refl
      where
        go : (o : Option Reached) → reached_at tree k ≡ o
            → IsReachedWithin (with_reached tree k r) d k
        go None e = rw (newly-reached e)
            (record { how = r; is = here-more low; near = omega (arith, deep) })
        go (Some q) e = rw (stays-reached q e)
            (record { how = q; is = e; near = h.is_level.low k q e })

-- what grows twice grows
pub grows-twice : (n : NetOf) (d : ℕ) (first second third : TreeOf) (level last : List ℕ)
    → Grows n d first second level → Grows n d second third last → Grows n d first third last
grows-twice n d first second third level last a b = record {
  keeps = λ k r is. b.keeps k r (a.keeps k r is);
  only = λ k r is differ. a.only k r (b.only k r is differ) differ;
  grown = b.grown;
}

pub grows-none : (n : NetOf) (d : ℕ) (tree : TreeOf) (level : List ℕ) → IsGrown n d tree level
    → Grows n d tree tree level
grows-none n d tree level h =
    record { keeps = λ k r is. is; only = λ k r is differ. is; grown = h }

pub within-kept : (old new : TreeOf) (d k : ℕ) → Keeps old new → IsReachedWithin old d k
    → IsReachedWithin new d k
within-kept old new d k keeps h =
    record { how = h.how; is = keeps k h.how h.is; near = h.near }

pub over-kept : (old new : TreeOf) (d k : ℕ) → Keeps old new → IsReachedOver old d k
    → IsReachedOver new d k
over-kept old new d k keeps h =
    record { how = h.how; is = keeps k h.how h.is; deep = h.deep }
