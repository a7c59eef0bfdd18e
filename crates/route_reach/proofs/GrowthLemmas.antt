-- A tree that has grown to the reach serves each sink of its net.
use Rattle.std.proofs.Common.{◌≡◌, ℕ, zero, suc, ◌+◌, ◌-◌, ◌*◌, ◌/◌, ◌%◌, ◌^◌, ◌<◌, ◌≤◌, Bool, true, false, Option, Some, None, List, [], get_or, length, replicate, inl, inr, refl, sym, ap, subst, ◌∙◌, arith}
use Rattle.std.specs.Prelude.{All, Contains, slice_index_or, if◌then◌else◌}
use Rattle.std.specs.List.{enumerate_from}
use Rattle.std.specs.Option.{option_map_or}
use Rattle.std.proofs.Math.Nat.{mod-lt, mul-le-mul_right}
use Rattle.std.proofs.lemmas.Bool.{cases_lt, false≢true}
use Rattle.std.proofs.lemmas.List.{get_or-replicate, get_or_past, length-replicate}
use Rattle.list_laws.proofs.Members.{In, In-all, In-contains, In-get, all-from_In, contains-In}
use Rattle.list_laws.proofs.Numbered.{numbered-here}
use Rattle.list_laws.proofs.Places.{get-In, none_is_not_some}
use Rattle.fpga_graph.specs.GraphOf.{GraphOf}
use Rattle.fpga_graph.specs.Wires.{Reaches}
use Rattle.fpga_types.specs.Kinds.{is_opin}
use Rattle.fpga_types.specs.Slots.{elem_pin, slot_at}
use Rattle.fpga_types.specs.declared.grid.PinAt.{PinAt}
use Rattle.fpga_types.specs.declared.grid.Wire.{Wire}
use Rattle.fpga_types.specs.declared.limits.TheConstants.{SLOT_LIMIT}
use Rattle.fpga_types.specs.declared.problem.Slot.{Slot}
use Rattle.fpga_types.specs.declared.route.Elem.{Elem}
use Rattle.route_encode.specs.Encoding.{place_of}
use Rattle.route_encode.specs.Said.{says}
use Rattle.route_encode.proofs.BitLemmas.{place-inside}
use Rattle.route_reach.specs.Encoding.{Frame, reaches, wire_at}
use Rattle.route_reach.specs.Ends.{ins}
use Rattle.route_reach.specs.Growth.{Grows, HasBegun, IsBeginning, IsGrown, IsReachedOver, IsReachedWithin, IsSpreadFrom, IsSpreadTo, Keeps}
use Rattle.route_reach.specs.Modelled.{IsNetOf, IsSourceOf, ModelOf, NetOf, frame_in, graph_in, is_begun, is_source_of, places_beside, slots_in_model}
use Rattle.route_reach.specs.Reach.{IsJoint}
use Rattle.route_reach.specs.Tree.{IsLedBy, IsServed, Serves, TreeOf, reached_at, tree_slot, tree_track, tree_wire, with_new, with_reached}
use Rattle.route_reach.specs.declared.tree.Lead.TheVariants.{Pin as ByPin, Wire as ByWire}
use Rattle.route_reach.specs.declared.tree.Reached.{Reached}
use Rattle.route_reach.proofs.BesideLemmas.{IsNumbered, from-beside, numbered, to-beside}
use Rattle.route_reach.proofs.Chains.{from-near}
use Rattle.route_reach.proofs.Heeds.{Heeds, says_reached}
use Rattle.route_reach.proofs.TreeLemmas.{IsReachedWire, grows-with, within-kept, within-with}
use Rattle.route_reach.proofs.Wires.{from-slots_in, reaches-is}

-- the line is an OPIN line, whose pin reaches the wire
record IsOut (g : GraphOf) (w : Wire) (e : Elem) : Type 0 where
  kind : is_opin e.kind ≡ true
  pin : PinAt
  is : elem_pin e ≡ Some pin
  reaches : Reaches g pin w

out-is : (g : GraphOf) (w : Wire) (e : Elem) → is_source_of g w e ≡ true → IsOut g w e
out-is g w e h = go (is_opin e.kind) refl (elem_pin e) refl h
  where
    go : (b : Bool) → is_opin e.kind ≡ b → (o : Option PinAt) → elem_pin e ≡ o
        → option_map_or (λ out. reaches g out w) (if b then o else None) false ≡ true
        → IsOut g w e
    go true kind None is h = absurd (false≢true h)
    go true kind (Some pin) is h =
        record { kind = kind; pin = pin; is = is; reaches = reaches-is g pin w h }
    go false kind o is h = absurd (false≢true h)

module _ (n : NetOf) (is : IsNetOf n) where
  abbrev m : ModelOf
  m = n.model

  abbrev f : Frame
  f = frame_in m

  abbrev g : GraphOf
  g = graph_in m

  abbrev all : List Slot
  all = slots_in_model m

  abbrev size : ℕ
  size = (n.end - n.first) * m.width

  -- the number of a wire of the net
  abbrev number_of : (s t : ℕ) → ℕ
  number_of s t = (s - n.first) * m.width + t

  -- a slot of the net
  record IsOwn (s t : ℕ) : Type 0 where
    low : s < length all
    own : (slot_at all s).net ≡ n.number
    inside : t < m.width
    at : IsNumbered n.first n.end m.width s t (number_of s t)

  own-wire : (s t : ℕ) → s < length all → (slot_at all s).net ≡ n.number → t < m.width → IsOwn s t
  own-wire s t low own inside =
      let here = (is.stretch s low).0 own in
      record {
        low = low;
        own = own;
        inside = inside;
        at = numbered n.first n.end m.width s t inside here.0 here.1;
      }

  -- what a tree that has grown to so many joins knows
  pub record IsSpread (tree : TreeOf) (d : ℕ) : Type 0 where
    pub begun : HasBegun n tree 0 size
    pub spread : (k : ℕ) (r : Reached) → reached_at tree k ≡ Some r → r.depth < d
        → IsSpreadFrom n tree (r.depth + 1) k

  module _ (heeds : Heeds f m.problem.route m.values) (tree : TreeOf) (level : List ℕ)
      (grown : IsGrown n m.reach tree level) (whole : IsSpread tree m.reach) where
    told : (d s t : ℕ) → IsOwn s t → d ≤ m.reach → says_reached f m.problem.route m.values s t d
        → IsReachedWithin tree d (number_of s t)
    told zero s t own few says =
        whole.begun (number_of s t) (omega arith) own.at.low (record {
          begun = rw (own.at.slot, own.at.track) (heeds.starts s t own.low own.inside says);
          used = rw (own.at.slot, own.at.track)
              (heeds.used s t 0 own.low own.inside few says);
        })
    told (suc d) s t own few says =
        let one : suc d ≡ d + 1 = omega arith in
        let used = heeds.used s t (suc d) own.low own.inside few says in
        elim (heeds.comes s t d own.low own.inside (omega arith)
        (subst (λ (e : ℕ). says_reached f m.problem.route m.values s t e) one says)) [
          | inl same ↦ (let before = told d s t own (omega arith) same in
              record { how = before.how; is = before.is; near = omega (arith, before.near) })
          | inr other ↦ (let q = from-near f s t other.0 other.1 in
              let from = own-wire other.0.0 other.0.1 q.slot (q.net ∙ own.own) q.track in
              let before = told d other.0.0 other.0.1 from (omega arith) other.2 in
              let beside = to-beside m s t other.0 own.low q in
              let spread = whole.spread (number_of other.0.0 other.0.1) before.how before.is
              (omega (arith, before.near)) in
              let places = rw (from.at.slot, from.at.track) at spread in
              let here = In-all (IsSpreadTo n tree (before.how.depth + 1))
              (places_beside m other.0.0 other.0.1) (place_of m.width s t) places beside used in
              let it = subst (IsReachedWithin tree (before.how.depth + 1)) own.at.place here in
              record { how = it.how; is = it.is; near = omega (arith, it.near, before.near) })
        ]

    pub serves : Serves g all n.net tree
    serves = all-from_In (IsServed g all tree) (ins n.net) (λ pin i.
        let numbered : In (enumerate_from 0 m.problem.route.nets) (n.number, n.net) =
        get-In (enumerate_from 0 m.problem.route.nets) n.number (n.number, n.net)
        (numbered-here 0 m.problem.route.nets n.number n.net is.here
        ∙ (let z : 0 + n.number ≡ n.number = omega arith in
        ap (λ (k : ℕ). Some (k, n.net)) z)) in
        let sink = heeds.sinks (n.number, n.net) pin numbered i in
        let slot = from-slots_in all n.number sink.0 sink.2 in
        let own = own-wire sink.0 sink.1 slot.0 slot.1 sink.3 in
        let here = told m.reach sink.0 sink.1 own (omega arith) sink.5 in
        record {
          number = number_of sink.0 sink.1;
          reached = here.how;
          is = here.is;
          reaches = rw (grown.first, grown.is_tree.width, own.at.slot, own.at.track)
              (reaches-is g pin (wire_at all sink.0 sink.1) sink.4);
        })

  -- ---- from level to level

  abbrev blank : List (Option Reached)
  blank = replicate size None

  abbrev start : TreeOf
  start = record { first = n.first; width = m.width; wires = blank }

  unreached : (k : ℕ) (r : Reached) → reached_at start k ≡ Some r → ⊥
  unreached k r at = elim (cases_lt k size) [
    | inl low ↦ none_is_not_some (sym (get_or-replicate size k None None low) ∙ at)
    | inr high ↦ none_is_not_some (sym (get_or_past blank k None
        (omega (arith, length-replicate {A = Option Reached} size None, high))) ∙ at)
  ]

  -- a tree without wires has grown to none
  pub grown-start : (tree : TreeOf) → tree ≡ start → IsGrown n 0 tree []
  grown-start tree same = subst (λ (t : TreeOf). IsGrown n 0 t []) (sym same) (record {
    first = refl;
    long = length-replicate {A = Option Reached} size None;
    is_tree = record {
      width = refl;
      within = λ k r at. absurd (unreached k r at);
      own = λ k r at. absurd (unreached k r at);
      low = λ k r at. absurd (unreached k r at);
      led = λ k r at. absurd (unreached k r at);
    };
    used = λ k r at. absurd (unreached k r at);
    is_level = record {
      low = λ k r at. absurd (unreached k r at);
      all = λ k r at deep. absurd (unreached k r at);
      each = all-from_In (IsReachedOver start 0) [] (λ k i. absurd i);
    };
  })

  -- a tree without joins has not spread
  pub spread-start : (tree : TreeOf) → HasBegun n tree 0 size → IsSpread tree 0
  spread-start tree h =
      record { begun = h; spread = λ k r at low. absurd (omega (arith, low)) }

  pub grown-on : (d : ℕ) (tree : TreeOf) (level : List ℕ) → IsGrown n d tree level
      → IsGrown n (d + 1) tree []
  grown-on d tree level h = record {
    first = h.first;
    long = h.long;
    is_tree = h.is_tree;
    used = h.used;
    is_level = record {
      low = λ k r at. (let low = h.is_level.low k r at in omega (arith, low));
      all = λ k r at deep. absurd (let low = h.is_level.low k r at in omega (arith, low, deep));
      each = all-from_In (IsReachedOver tree (d + 1)) [] (λ k i. absurd i);
    };
  }

  pub begun-kept : (old new : TreeOf) (from to : ℕ) → Keeps old new → HasBegun n old from to
      → HasBegun n new from to
  begun-kept old new from to keeps h =
      λ k low high begins. within-kept old new 0 k keeps (h k low high begins)

  pub begun-both : (tree : TreeOf) (from mid to : ℕ) → HasBegun n tree from mid
      → HasBegun n tree mid to → HasBegun n tree from to
  begun-both tree from mid to a b = λ k low high begins. elim (cases_lt k mid) [
    | inl before ↦ a k low before begins
    | inr behind ↦ b k behind high begins
  ]

  pub spread-kept : (old new : TreeOf) (d k : ℕ) → Keeps old new → IsSpreadFrom n old d k
      → IsSpreadFrom n new d k
  spread-kept old new d k keeps h =
      let places : List ℕ =
      places_beside m (n.first + k / m.width) (k % m.width) in
      all-from_In (IsSpreadTo n new d) places (λ b i used.
      within-kept old new d (b - n.first * m.width) keeps
      (In-all (IsSpreadTo n old d) places b h i used))

  pub spread-on : (d : ℕ) (old new : TreeOf) (level next : List ℕ) → IsGrown n d old level
      → IsSpread old d → Grows n (d + 1) old new next
      → All (IsSpreadFrom n new (d + 1)) level → IsSpread new (d + 1)
  spread-on d old new level next grown h grows spread = record {
    begun = begun-kept old new 0 size grows.keeps h.begun;
    spread = λ k r at low.
        let was = grows.only k r at (λ e. omega (arith, e, low)) in
        elim (cases_lt r.depth d) [
          | inl before ↦ spread-kept old new (r.depth + 1) k grows.keeps (h.spread k r was before)
          | inr last ↦ (let same : r.depth ≡ d = omega (arith, low, last) in
              let here = grown.is_level.all k r was same in
              subst (λ (e : ℕ). IsSpreadFrom n new (e + 1) k) (sym same)
              (In-all (IsSpreadFrom n new (d + 1)) level k spread (In-contains level k here)))
        ];
  }

  -- ---- one wire more

  -- of a tree of the net, the wire of this number is that of slot s and track t
  record IsAt (tree : TreeOf) (s t k : ℕ) : Type 0 where
    slot : tree_slot tree k ≡ s
    track : tree_track tree k ≡ t

  at-tree : (d : ℕ) (tree : TreeOf) (level : List ℕ) (s t : ℕ) → IsGrown n d tree level
      → IsOwn s t → IsAt tree s t (number_of s t)
  at-tree d tree level s t grown own = record {
    slot = rw (grown.first, grown.is_tree.width) own.at.slot;
    track = rw grown.is_tree.width own.at.track;
  }

  -- a wire of the net that is used and that this leads to may be reached so
  pub record IsNext (tree : TreeOf) (k : ℕ) (r : Reached) : Type 0 where
    pub low : k < length tree.wires
    pub wire : IsReachedWire n tree k r

  next-wire : (d : ℕ) (tree : TreeOf) (level : List ℕ) (s t : ℕ) (r : Reached)
      → IsGrown n d tree level → IsOwn s t → r.depth ≤ m.reach
      → says m.values m.width s t ≡ true
      → IsLedBy g all n.net tree (number_of s t) r.depth r.lead
      → IsNext tree (number_of s t) r
  next-wire d tree level s t r grown own near used led =
      let at = at-tree d tree level s t grown own in
      record {
        low = rw (grown.long, grown.is_tree.width) own.at.low;
        wire = record {
          within = rw at.slot own.low;
          own = rw at.slot own.own;
          low = near;
          led = led;
          used = rw (at.slot, at.track, grown.is_tree.width) used;
        };
      }

  -- the wire at place b, which is near one that is reached over some joins
  pub record IsNearWire (tree : TreeOf) (joins wire b : ℕ) : Type 0 where
    pub inside : b < length all * m.width
    pub above : n.first * m.width ≤ b
    pub next : slice_index_or m.values b false ≡ true → IsNext tree (b - n.first * m.width)
        (record { depth = joins + 1; lead = ByWire wire })

  pub near-wire : (tree : TreeOf) (level : List ℕ) (joins wire b : ℕ)
      → IsGrown n (joins + 1) tree level → joins < m.reach → IsReachedOver tree joins wire
      → In (places_beside m (tree_slot tree wire) (tree_track tree wire)) b
      → IsNearWire tree joins wire b
  near-wire tree level joins wire b grown few over i =
      let inside : tree_track tree wire < m.width =
      rw grown.is_tree.width (mod-lt wire is.limits.some) in
      let beside = from-beside m (tree_slot tree wire) (tree_track tree wire) inside b i in
      let own = own-wire beside.slot beside.track beside.low
      (beside.own ∙ grown.is_tree.own wire over.how over.is) beside.inside in
      let place : b - n.first * m.width ≡ number_of beside.slot beside.track =
      ap (λ (c : ℕ). c - n.first * m.width) (sym beside.is) ∙ own.at.place in
      let at = at-tree (joins + 1) tree level beside.slot beside.track grown own in
      record {
        inside = subst (λ (c : ℕ). c < length all * m.width) beside.is
            (place-inside (length all) m.width beside.slot beside.track beside.low beside.inside);
        above = subst (λ (c : ℕ). n.first * m.width ≤ c) beside.is
            (omega (
              arith,
              mul-le-mul_right m.width
                  (let here = (is.stretch beside.slot own.low).0 own.own in here.0),
            ));
        next = λ used. subst (λ (k : ℕ). IsNext tree k
            (record { depth = joins + 1; lead = ByWire wire })) (sym place)
            (next-wire (joins + 1) tree level beside.slot beside.track
            (record { depth = joins + 1; lead = ByWire wire }) grown own (omega (arith, few))
            (subst (λ (c : ℕ). slice_index_or m.values c false ≡ true) (sym beside.is) used) (
              over.how,
              over.is,
              ap (λ (d : ℕ). d + 1) (sym over.deep),
              subst (λ (w : Wire). IsJoint g (tree_wire all tree wire, w))
                  (rw (at.slot, at.track) refl) beside.joint,
            ));
      }

  -- the wire of slot s and track t, which a pin of the source reaches by this line
  pub source-wire : (tree : TreeOf) (level : List ℕ) (s t : ℕ) (e : Elem) → IsGrown n 0 tree level
      → n.first ≤ s → s < n.end → t < m.width → says m.values m.width s t ≡ true
      → IsSourceOf g n.net (wire_at all s t) e
      → IsNext tree (number_of s t) (record { depth = 0; lead = ByPin e })
  source-wire tree level s t e grown above below inside used from =
      let low : s < length all = omega (arith, below, is.within) in
      let own = own-wire s t low ((is.stretch s low).1 (above, below)) inside in
      let at = at-tree 0 tree level s t grown own in
      let out = out-is g (wire_at all s t) e from.reaches in
      next-wire 0 tree level s t (record { depth = 0; lead = ByPin e }) grown own (omega arith)
      used (
        refl,
        from.among,
        out.kind,
        out.pin,
        out.is,
        subst (Reaches g out.pin) (rw (at.slot, at.track) refl) out.reaches,
      )

  begins-at : (s t : ℕ) → IsOwn s t → IsBeginning n (number_of s t)
      → (is_begun m s t ≡ true) × (says m.values m.width s t ≡ true)
  begins-at s t own h = (
    rw (own.at.slot, own.at.track) at h.begun,
    rw (own.at.slot, own.at.track) at h.used,
  )

  -- of one wire: it is reached where it begins
  begun-one : (tree : TreeOf) (k : ℕ) → (IsBeginning n k → IsReachedWithin tree 0 k)
      → HasBegun n tree k (k + 1)
  begun-one tree k h = λ j low high begins.
      let same : k ≡ j = omega (arith, low, high) in
      subst (IsReachedWithin tree 0) same (h (subst (IsBeginning n) (sym same) begins))

  slot-own : (s t : ℕ) → n.first ≤ s → s < n.end → t < m.width → IsOwn s t
  slot-own s t above below inside =
      let low : s < length all = omega (arith, below, is.within) in
      own-wire s t low ((is.stretch s low).1 (above, below)) inside

  pub begun-far : (tree : TreeOf) (s t : ℕ) → n.first ≤ s → s < n.end → t < m.width
      → is_begun m s t ≡ false → HasBegun n tree (number_of s t) (number_of s t + 1)
  begun-far tree s t above below inside far = begun-one tree (number_of s t) (λ h.
      absurd (false≢true (sym far ∙ (begins-at s t (slot-own s t above below inside) h).0)))

  pub begun-unused : (tree : TreeOf) (s t : ℕ) → n.first ≤ s → s < n.end → t < m.width
      → says m.values m.width s t ≡ false → HasBegun n tree (number_of s t) (number_of s t + 1)
  begun-unused tree s t above below inside unused = begun-one tree (number_of s t) (λ h.
      absurd (false≢true (sym unused ∙ (begins-at s t (slot-own s t above below inside) h).1)))

  pub record Begins (tree new : TreeOf) (more : List ℕ) (k : ℕ) : Type 0 where
    pub grows : Grows n 0 tree new more
    pub begun : HasBegun n new k (k + 1)

  pub begin-with : (tree new : TreeOf) (level more : List ℕ) (s t k : ℕ) (e : Elem)
      → IsGrown n 0 tree level → n.first ≤ s → s < n.end → t < m.width
      → says m.values m.width s t ≡ true → IsSourceOf g n.net (wire_at all s t) e
      → k ≡ number_of s t → new ≡ with_reached tree k (record { depth = 0; lead = ByPin e })
      → more ≡ with_new tree level k → Begins tree new more (number_of s t)
  begin-with tree new level more s t k e grown above below inside used from same new_is more_is =
      let r : Reached = record { depth = 0; lead = ByPin e } in
      let next = source-wire tree level s t e grown above below inside used from in
      rw (new_is, more_is, same) (record {
        grows = grows-with tree (number_of s t) r n 0 level grown refl next.wire next.low;
        begun = begun-one (with_reached tree (number_of s t) r) (number_of s t)
            (λ h. within-with tree (number_of s t) r n 0 level grown refl next.low);
      })

  pub record Spreads (d : ℕ) (tree new : TreeOf) (more : List ℕ) (b : ℕ) : Type 0 where
    pub grows : Grows n d tree new more
    pub spread : IsSpreadTo n new d b

  pub spread-with : (tree new : TreeOf) (level more : List ℕ) (joins wire b k : ℕ)
      → IsGrown n (joins + 1) tree level → joins < m.reach → IsReachedOver tree joins wire
      → Contains (places_beside m (tree_slot tree wire) (tree_track tree wire)) b
      → slice_index_or m.values b false ≡ true → k ≡ b - n.first * m.width
      → new ≡ with_reached tree k (record { depth = joins + 1; lead = ByWire wire })
      → more ≡ with_new tree level k → Spreads (joins + 1) tree new more b
  spread-with tree new level more joins wire b k grown few over beside used same new_is more_is =
      let r : Reached = record { depth = joins + 1; lead = ByWire wire } in
      let near = near-wire tree level joins wire b grown few over
      (In-contains (places_beside m (tree_slot tree wire) (tree_track tree wire)) b beside) in
      let next = near.next used in
      rw (new_is, more_is, same) (record {
        grows = grows-with tree (b - n.first * m.width) r n (joins + 1) level grown refl next.wire
            next.low;
        spread = λ u. within-with tree (b - n.first * m.width) r n (joins + 1) level grown refl
            next.low;
      })

  pub spread-unused : (tree : TreeOf) (d b : ℕ) → slice_index_or m.values b false ≡ false
      → IsSpreadTo n tree d b
  spread-unused tree d b unused = λ used. absurd (false≢true (sym unused ∙ used))

  -- a wire that is reached is one of the tree
  pub reached-low : (tree : TreeOf) (k : ℕ) (r : Reached) → reached_at tree k ≡ Some r
      → k < length tree.wires
  reached-low tree k r at = elim (cases_lt k (length tree.wires)) [
    | inl low ↦ low
    | inr high ↦
        absurd (none_is_not_some (sym (get_or_past tree.wires k None (omega (arith, high))) ∙ at))
  ]

  pub begun-next : (tree : TreeOf) (from t : ℕ) → HasBegun n tree from (from + t)
      → HasBegun n tree (from + t) (from + t + 1) → HasBegun n tree from (from + (t + 1))
  begun-next tree from t a b = λ k low high begins.
      begun-both tree from (from + t) (from + t + 1) a b k low (omega (arith, high)) begins

  pub begun-row : (tree : TreeOf) (s t : ℕ) → n.first ≤ s → m.width ≤ t
      → HasBegun n tree ((s - n.first) * m.width) ((s - n.first) * m.width + t)
      → HasBegun n tree ((s - n.first) * m.width) ((s + 1 - n.first) * m.width)
  begun-row tree s t above whole h = λ k low high begins.
      let next : s + 1 - n.first ≡ s - n.first + 1 = omega (arith, above) in
      let rows : (s + 1 - n.first) * m.width ≡ (s - n.first + 1) * m.width =
      ap (λ (c : ℕ). c * m.width) next in
      let row : (s - n.first + 1) * m.width ≡ (s - n.first) * m.width + m.width = omega arith in
      h k low (omega (arith, high, rows, row, whole)) begins

  pub begun-none : (tree : TreeOf) (a w : ℕ) → HasBegun n tree 0 ((a - a) * w)
  begun-none tree a w = λ k low high begins.
      let none : a - a ≡ 0 = omega arith in
      let rows : (a - a) * w ≡ 0 * w = ap (λ (c : ℕ). c * w) none in
      absurd (omega (arith, rows, high))

  pub begun-whole : (tree : TreeOf) (s : ℕ) → n.end ≤ s
      → HasBegun n tree 0 ((s - n.first) * m.width) → HasBegun n tree 0 size
  begun-whole tree s whole h = λ k low high begins.
      let rows : (n.end - n.first) * m.width ≤ (s - n.first) * m.width =
      mul-le-mul_right m.width (let f : n.end - n.first ≤ s - n.first = omega (arith, whole) in f)
      in h k low (omega (arith, high, rows)) begins

  pub all-spread : (old new : TreeOf) (d : ℕ) (ks : List ℕ) → Keeps old new
      → All (IsSpreadFrom n old d) ks → All (IsSpreadFrom n new d) ks
  all-spread old new d ks keeps h = all-from_In (IsSpreadFrom n new d) ks (λ k i.
      spread-kept old new d k keeps (In-all (IsSpreadFrom n old d) ks k h i))

  pub all-spread_to : (old new : TreeOf) (d : ℕ) (bs : List ℕ) → Keeps old new
      → All (IsSpreadTo n old d) bs → All (IsSpreadTo n new d) bs
  all-spread_to old new d bs keeps h = all-from_In (IsSpreadTo n new d) bs (λ b i used.
      within-kept old new d (b - n.first * m.width) keeps
      (In-all (IsSpreadTo n old d) bs b h i used))

  -- the places beside a wire of the tree, by its number
  pub spread-from : (d : ℕ) (tree new : TreeOf) (level bs : List ℕ) (e wire : ℕ)
      → IsGrown n e tree level
      → bs ≡ places_beside m (tree_slot tree wire) (tree_track tree wire)
      → All (IsSpreadTo n new d) bs → IsSpreadFrom n new d wire
  spread-from d tree new level bs e wire grown same h =
      let number : places_beside m (tree_slot tree wire) (tree_track tree wire)
      ≡ places_beside m (n.first + wire / m.width) (wire % m.width) =
      λ i. places_beside m (grown.first i + wire / grown.is_tree.width i)
      (wire % grown.is_tree.width i) in
      subst (All (IsSpreadTo n new d)) (same ∙ number) h

  -- a place of a row that was made of the wire is beside it in the tree as it has grown since
  pub place-in : (tree new : TreeOf) (level more items bs : List ℕ) (e slot track i wire : ℕ)
      → IsGrown n e tree level → IsGrown n e new more → items ≡ bs
      → bs ≡ places_beside m slot track → slot ≡ tree_slot tree wire
      → track ≡ tree_track tree wire → i < length items
      → Contains (places_beside m (tree_slot new wire) (tree_track new wire)) (get_or items i 0)
  place-in tree new level more items bs e slot track i wire a b same made is_slot is_track low =
      let first : tree.first ≡ new.first = a.first ∙ sym b.first in
      let width : tree.width ≡ new.width = a.is_tree.width ∙ sym b.is_tree.width in
      let now : places_beside m (tree_slot tree wire) (tree_track tree wire)
      ≡ places_beside m (tree_slot new wire) (tree_track new wire) =
      λ j. places_beside m (first j + wire / width j) (wire % width j) in
      let asked_of : places_beside m slot track
      ≡ places_beside m (tree_slot tree wire) (tree_track tree wire) =
      λ j. places_beside m (is_slot j) (is_track j) in
      contains-In (places_beside m (tree_slot new wire) (tree_track new wire)) (get_or items i 0)
      (subst (λ (xs : List ℕ). In xs (get_or items i 0)) (same ∙ made ∙ asked_of ∙ now)
      (In-get items i 0 low))

  -- of a wire that is reached
  pub record IsAsked (tree : TreeOf) (wire : ℕ) : Type 0 where
    pub low : wire < length tree.wires
    pub slot : tree_slot tree wire < length all
    pub short : tree_slot tree wire < SLOT_LIMIT
    pub track : tree_track tree wire < m.width

  pub asked : (tree : TreeOf) (level : List ℕ) (e d wire : ℕ) → IsGrown n e tree level
      → IsReachedOver tree d wire → IsAsked tree wire
  asked tree level e d wire grown over =
      let slot = grown.is_tree.within wire over.how over.is in
      record {
        low = reached-low tree wire over.how over.is;
        slot = slot;
        short = omega (arith, slot, is.limits.few);
        track = rw grown.is_tree.width (mod-lt wire is.limits.some);
      }

  -- so many wires are few
  pub few-wires : n.first + (n.end - n.first) * m.width < 2 ^ 63
  few-wires =
      let rows : (n.end - n.first) * m.width ≤ SLOT_LIMIT * m.width =
      mul-le-mul_right m.width
      (let f : n.end - n.first ≤ SLOT_LIMIT = omega (arith, is.within, is.limits.few) in f) in
      omega (arith, rows, is.limits.most, is.within, is.limits.few, is.order)
