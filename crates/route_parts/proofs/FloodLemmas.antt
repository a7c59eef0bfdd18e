-- Parts of wires, as one wire more gets its part.
use Rattle.std.proofs.Common.{◌≡◌, ◌≢◌, ◌⊎◌, ℕ, ◌+◌, ◌<◌, ◌≤◌, cond, List, [], ◌∷◌, ◌++◌, length, get_or, set, length-append, length-set, refl, sym, ap, ◌∙◌, subst, inl, inr, arith}
use Rattle.std.specs.Prelude.{◌==◌, Contains}
use Rattle.std.proofs.lemmas.Bool.{cases_eq}
use Rattle.std.proofs.lemmas.Bool.Decides.{nat_tests}
use Rattle.std.proofs.lemmas.List.{get_or-set_other, get_or-set_same, get_or_default}
use Rattle.std.proofs.lemmas.List.Elements.{Contains-append_cases, Contains-append_left, Contains-append_right}
use Rattle.std.proofs.lemmas.List.Sums.{sum_by-set}
use Rattle.list_laws.proofs.Members.{In, In-contains, In-get, contains-In}
use Rattle.fpga_graph.specs.GraphOf.{GraphOf}
use Rattle.fpga_graph.specs.Wires.{AreJoints, IsWire}
use Rattle.fpga_types.specs.declared.grid.Wire.{Wire}
use Rattle.route_parts.specs.Flooding.{IsFlooding, IsSpread, Keeps, Takes, open_count}
use Rattle.route_parts.specs.Links.{AreLinked, AreParts, JoinedIn, part_in, wire_count, wire_number}
use Rattle.route_parts.proofs.LinkLemmas.{joined-back, joined-wire, linked-before, linked-behind, linked-itself}
use Rattle.route_parts.proofs.NumberLemmas.{one-wire, wire-within}

-- the one element
one-is : (w u : Wire) → Contains (w ∷ []) u → w ≡ u
one-is w u h = elim (In-contains (w ∷ []) u h) [ inl e ↦ e | inr none ↦ absurd none ]

is-one : (w u : Wire) → w ≡ u → Contains (w ∷ []) u
is-one w u e = contains-In (w ∷ []) u (inl e)

-- of all wires the one has the new part, and the others have their own
relabelled : (g : GraphOf) (table : List ℕ) (part : ℕ) (v u : Wire) → length table ≡ wire_count g
    → IsWire g v → IsWire g u
    → ((u ≡ v) × (part_in g (set table (wire_number g v) part) u ≡ part))
    ⊎ ((u ≢ v) × (part_in g (set table (wire_number g v) part) u ≡ part_in g table u))
relabelled g table part v u size there_v there_u =
    elim (cases_eq (wire_number g u) (wire_number g v)) [
      | inl e ↦ inl (
        one-wire g u v there_u there_v e,
        ap (λ (n : ℕ). get_or (set table (wire_number g v) part) n 0) e
            ∙ get_or-set_same table (wire_number g v) part 0
            (let low = wire-within g v there_v in omega (arith, low, size)),
      )
      | inr d ↦ inr (
        (λ e. d (ap (wire_number g) e)),
        get_or-set_other table (wire_number g v) (wire_number g u) part 0 d,
      )
    ]

-- with one place set to a number, none is above it and those before
within-more : (table : List ℕ) (i newest part : ℕ) → ((k : ℕ) → get_or table k 0 ≤ newest)
    → i < length table → newest ≤ part → (k : ℕ) → get_or (set table i part) k 0 ≤ part
within-more table i newest part within low more k = elim (cases_eq k i) [
  | inl e ↦ (let same : get_or (set table i part) k 0 ≡ part =
      ap (λ (n : ℕ). get_or (set table i part) n 0) e ∙ get_or-set_same table i part 0 low in
      omega (arith, same))
  | inr d ↦ (let same = get_or-set_other table i k part 0 d in
      omega (arith, same, within k, more))
]

keeps-more : (table : List ℕ) (i part : ℕ) → get_or table i 0 ≡ 0 → Keeps table (set table i part)
keeps-more table i part none k some = elim (cases_eq k i) [
  | inl e ↦ absurd (some (ap (λ (n : ℕ). get_or table n 0) e ∙ none))
  | inr d ↦ get_or-set_other table i k part 0 d
]

pub keeps-all : (table : List ℕ) → Keeps table table
keeps-all table k some = refl

pub keeps-both : (a b c : List ℕ) → Keeps a b → Keeps b c → Keeps a c
keeps-both a b c first then k some =
    then k (λ e. some (sym (first k some) ∙ e)) ∙ first k some

-- one wire less has no part
open-less : (table : List ℕ) (i part : ℕ) → i < length table → get_or table i 0 ≡ 0 → 1 ≤ part
    → open_count (set table i part) + 1 ≡ open_count table
open-less table i part low none some =
    let f = λ (p : ℕ). cond (p == 0) 1 0 in
    let moved = sum_by-set f table i part 0 low in
    let was : f (get_or table i 0) ≡ 1 = ap f none in
    let is : f part ≡ 0 = grind (arith, nat_tests) in
    omega (arith, moved, was, is)

module _ (g : GraphOf) (newest part : ℕ) (table : List ℕ) (ahead : List Wire) (v : Wire)
    (flooding : IsFlooding g newest table ahead) (more : newest ≤ part)
    (same : (u : Wire) → Contains ahead u → newest ≡ part) (there : IsWire g v)
    (none : part_in g table v ≡ 0)
    (near : (u : Wire) → IsWire g u → part_in g table u ≡ part → AreLinked g u v × AreLinked g v u)
  where
    abbrev after : List ℕ
    after = set table (wire_number g v) part

    told : (u : Wire) → IsWire g u → ((u ≡ v) × (part_in g after u ≡ part))
        ⊎ ((u ≢ v) × (part_in g after u ≡ part_in g table u))
    told u is = relabelled g table part v u flooding.size there is

    linked-more : (u x : Wire) → IsWire g u → IsWire g x → part_in g after u ≢ 0
        → part_in g after u ≡ part_in g after x → AreLinked g u x
    linked-more u x is_u is_x some e = elim (told u is_u) [
      | inl a ↦ (elim (told x is_x) [
        | inl b ↦ linked-itself g u x (a.0 ∙ sym b.0)
        | inr b ↦ subst (λ (z : Wire). AreLinked g z x) (sym a.0)
            (near x is_x (sym b.1 ∙ sym e ∙ a.1)).1
      ])
      | inr a ↦ (elim (told x is_x) [
        | inl b ↦ subst (λ (z : Wire). AreLinked g u z) (sym b.0)
            (near u is_u (sym a.1 ∙ e ∙ b.1)).0
        | inr b ↦ flooding.linked u x is_u is_x (λ z. some (a.1 ∙ z)) (sym a.1 ∙ e ∙ b.1)
      ])
    ]

    ahead-more : (u : Wire) → Contains (ahead ++ v ∷ []) u
        → IsWire g u × (part_in g after u ≡ part)
    ahead-more u h = elim (Contains-append_cases ahead (v ∷ []) u h) [
      | inl before ↦ (let was = flooding.newest_ahead u before in (
        was.0,
        elim (told u was.0) [
          | inl a ↦ a.1
          | inr b ↦ b.1 ∙ was.1 ∙ same u before
        ],
      ))
      | inr last ↦ (let is = subst (IsWire g) (one-is v u last) there in (
        is,
        elim (told u is) [
          | inl a ↦ a.1
          | inr b ↦ absurd (b.0 (sym (one-is v u last)))
        ],
      ))
    ]

    spread-more : (u : Wire) → IsWire g u → part_in g after u ≢ 0
        → Contains (ahead ++ v ∷ []) u ⊎ IsSpread g after u
    spread-more u is some = elim (told u is) [
      | inl a ↦ inl (Contains-append_right ahead (v ∷ []) u (is-one v u (sym a.0)))
      | inr b ↦ (elim (flooding.spread u is (λ z. some (b.1 ∙ z))) [
        | inl before ↦ inl (Contains-append_left ahead (v ∷ []) u before)
        | inr spread ↦ inr (λ x j. elim (told x (joined-wire g u x is j)) [
          | inl c ↦ absurd (some (b.1 ∙ sym (spread x j) ∙ ap (part_in g table) c.0 ∙ none))
          | inr c ↦ c.1 ∙ spread x j ∙ sym b.1
        ])
      ])
    ]

    -- a wire that has no part gets one, and stands ahead
    pub flooding-more : IsFlooding g part after (ahead ++ v ∷ [])
    flooding-more = record {
      size = length-set table (wire_number g v) part ∙ flooding.size;
      within = within-more table (wire_number g v) newest part flooding.within
          (let low = wire-within g v there in omega (arith, low, flooding.size)) more;
      linked = linked-more;
      newest_ahead = ahead-more;
      spread = spread-more;
    }

-- the same wires ahead, in another order
pub flooding-turned : (g : GraphOf) (part : ℕ) (table : List ℕ) (ahead : List Wire) (w : Wire)
    → IsFlooding g part table (ahead ++ w ∷ []) → IsFlooding g part table (w ∷ ahead)
flooding-turned g part table ahead w flooding = record {
  size = flooding.size;
  within = flooding.within;
  linked = flooding.linked;
  newest_ahead = λ u h. flooding.newest_ahead u (elim (In-contains (w ∷ ahead) u h) [
    | inl e ↦ Contains-append_right ahead (w ∷ []) u (is-one w u e)
    | inr later ↦ Contains-append_left ahead (w ∷ []) u (contains-In ahead u later)
  ]);
  spread = λ u is some. elim (flooding.spread u is some) [
    | inl h ↦ inl (contains-In (w ∷ ahead) u
        (elim (Contains-append_cases ahead (w ∷ []) u h) [
          | inl before ↦ inr (In-contains ahead u before)
          | inr last ↦ inl (one-is w u last)
        ]))
    | inr spread ↦ inr spread
  ];
}

-- a wire that has given its part to all that it is joined to stands ahead no more
pub flooding-spread : (g : GraphOf) (part : ℕ) (table : List ℕ) (ahead : List Wire) (w : Wire)
    → IsFlooding g part table (w ∷ ahead)
    → ((v : Wire) → JoinedIn g w v → part_in g table v ≡ part) → IsFlooding g part table ahead
flooding-spread g part table ahead w flooding joined = record {
  size = flooding.size;
  within = flooding.within;
  linked = flooding.linked;
  newest_ahead = λ u h.
      flooding.newest_ahead u (contains-In (w ∷ ahead) u (inr (In-contains ahead u h)));
  spread = λ u is some. elim (flooding.spread u is some) [
    | inl h ↦ (elim (In-contains (w ∷ ahead) u h) [
      | inl e ↦ inr (subst (IsSpread g table) e (λ v j. joined v j
          ∙ sym (flooding.newest_ahead w (contains-In (w ∷ ahead) w (inl refl))).1))
      | inr later ↦ inl (contains-In ahead u later)
    ])
    | inr spread ↦ inr spread
  ];
}

-- what comes of a wire that is joined to one ahead
pub record IsTaken (g : GraphOf) (part : ℕ) (w v : Wire) (old : List ℕ) (before : List Wire)
    (new : List ℕ) (ahead : List Wire) : Type 0 where
  pub flooding : IsFlooding g part new (w ∷ ahead)
  pub joined : part_in g new v ≡ part
  pub keeps : Keeps old new
  pub left : open_count new + length ahead ≡ open_count old + length before

module _ (g : GraphOf) (part : ℕ) (w v : Wire) (old : List ℕ) (before : List Wire)
    (flooding : IsFlooding g part old (w ∷ before)) (some : 1 ≤ part) (j : JoinedIn g w v) where
  own : IsWire g w × (part_in g old w ≡ part)
  own = flooding.newest_ahead w (contains-In (w ∷ before) w (inl refl))

  there : IsWire g v
  there = joined-wire g w v own.0 j

  -- one that has a part has that of the wire
  part-given : part_in g old v ≢ 0 → part_in g old v ≡ part
  part-given has = elim (flooding.spread v there has) [
    | inl h ↦ (flooding.newest_ahead v h).1
    | inr spread ↦ sym (spread w (joined-back g w v own.0 j)) ∙ own.1
  ]

  near : (u : Wire) → IsWire g u → part_in g old u ≡ part → AreLinked g u v × AreLinked g v u
  near u is e =
      let to = flooding.linked u w is own.0 (λ z. absurd (omega (arith, some, e, z)))
      (e ∙ sym own.1) in
      let from = flooding.linked w u own.0 is
      (λ z. absurd (omega (arith, some, own.1, z))) (own.1 ∙ sym e) in
      (linked-behind g u w v to j, linked-before g v w u (joined-back g w v own.0 j) from)

  abbrev with_v : List ℕ
  with_v = set old (wire_number g v) part

  low : wire_number g v < length old
  low = let h = wire-within g v there in omega (arith, h, flooding.size)

  stays : part_in g old v ≢ 0 → IsTaken g part w v old before old before
  stays has = record {
    flooding = flooding;
    joined = part-given has;
    keeps = keeps-all old;
    left = refl;
  }

  gains : part_in g old v ≡ 0 → IsTaken g part w v old before with_v (before ++ v ∷ [])
  gains none = record {
    flooding = flooding-more g part part old (w ∷ before) v flooding (omega arith) (λ u h. refl)
        there none near;
    joined = get_or-set_same old (wire_number g v) part 0 low;
    keeps = keeps-more old (wire_number g v) part none;
    left = (let less = open-less old (wire_number g v) part low none some in
        let longer = length-append before (v ∷ []) in omega (arith, less, longer));
  }

  pub taken : (new : List ℕ) (ahead : List Wire) → Takes g part v old before new ahead
      → IsTaken g part w v old before new ahead
  taken new ahead h = elim h [
    | inl a ↦ subst (λ (t : List ℕ). IsTaken g part w v old before t ahead) (sym a.1)
        (subst (IsTaken g part w v old before old) (sym a.2) (stays a.0))
    | inr b ↦ subst (λ (t : List ℕ). IsTaken g part w v old before t ahead) (sym b.1)
        (subst (IsTaken g part w v old before with_v) (sym b.2) (gains b.0))
  ]

-- the first wire ahead is one of the array, and has the newest part
pub first-ahead : (g : GraphOf) (part : ℕ) (table : List ℕ) (w : Wire) (ahead : List Wire)
    → IsFlooding g part table (w ∷ ahead) → IsWire g w × (part_in g table w ≡ part)
first-ahead g part table w ahead flooding =
    flooding.newest_ahead w (contains-In (w ∷ ahead) w (inl refl))

-- what a graph lists, as a loop over a slice has it
module _ (g found : GraphOf) (w : Wire) (items slice : List Wire) (same_graph : found ≡ g)
    (joints : AreJoints found w items) (same_list : slice ≡ items) where
  listed : AreJoints g w slice
  listed = subst (λ (xs : List Wire). AreJoints g w xs) (sym same_list)
      (subst (λ (x : GraphOf). AreJoints x w items) same_graph joints)

  -- an element is joined to the wire
  pub joint-joined : (i : ℕ) (v item : Wire) → i < length slice → v ≡ item
      → item ≡ get_or slice i item → JoinedIn g w v
  joint-joined i v item low same at = (listed.each v).0 (contains-In slice v
      (subst (λ (x : Wire). In slice x) (sym (same ∙ at)) (In-get slice i item low)))

  -- with one element more, all so far have the part
  pub joined-more : (part : ℕ) (old new : List ℕ) (i : ℕ) (v item : Wire) → 1 ≤ part
      → Keeps old new → i < length slice → v ≡ item → item ≡ get_or slice i item
      → part_in g new v ≡ part
      → ((k : ℕ) (d : Wire) → k < i → part_in g old (get_or slice k d) ≡ part)
      → (k : ℕ) (d : Wire) → k < i + 1 → part_in g new (get_or slice k d) ≡ part
  joined-more part old new i v item some keeps low same at here before k d below =
      elim (cases_eq k i) [
        | inl e ↦ ap (λ (n : ℕ). part_in g new (get_or slice n d)) e
            ∙ ap (part_in g new) (get_or_default slice i d item low ∙ sym at ∙ sym same) ∙ here
        | inr other ↦ (let was = before k d (omega (arith, below, other)) in
            keeps (wire_number g (get_or slice k d))
            (λ none. absurd (omega (arith, some, was, none))) ∙ was)
      ]

  -- at the end all that the wire is joined to do
  pub joined-all : (part : ℕ) (table : List ℕ) (i : ℕ) → length slice ≤ i
      → ((k : ℕ) (d : Wire) → k < i → part_in g table (get_or slice k d) ≡ part)
      → (v : Wire) → JoinedIn g w v → part_in g table v ≡ part
  joined-all part table i whole all v j = let at = (listed.each v).1 j in
      sym (ap (part_in g table) at.2) ∙ all at.0 v (omega (arith, at.1, whole))

-- what comes of a wire that begins a part
pub record IsBegun (g : GraphOf) (part : ℕ) (v : Wire) (old new : List ℕ) (ahead : List Wire)
    : Type 0 where
  pub flooding : IsFlooding g part new ahead
  pub begun : part_in g new v ≡ part
  pub keeps : Keeps old new

pub begun : (g : GraphOf) (newest part : ℕ) (v : Wire) (old : List ℕ) (before : List Wire)
    (new : List ℕ) (ahead : List Wire) → IsFlooding g newest old before → newest < part
    → before ≡ [] → IsWire g v → part_in g old v ≡ 0 → Takes g part v old before new ahead
    → IsBegun g part v old new ahead
begun g newest part v old before new ahead flooding more empty there none h = elim h [
  | inl a ↦ absurd (a.0 none)
  | inr b ↦ subst (λ (t : List ℕ). IsBegun g part v old t ahead) (sym b.1)
      (subst (IsBegun g part v old (set old (wire_number g v) part)) (sym b.2) (record {
        flooding = flooding-more g newest part old before v flooding (omega (arith, more))
            (λ u c. absurd (In-contains [] u
            (subst (λ (t : List Wire). Contains t u) empty c)))
            there none
            (λ u is e. absurd (let low = flooding.within (wire_number g u) in
            omega (arith, low, e, more)));
        begun = get_or-set_same old (wire_number g v) part 0
            (let low = wire-within g v there in omega (arith, low, flooding.size));
        keeps = keeps-more old (wire_number g v) part none;
      }))
]

-- nothing has a part at first
pub none-flooding : (g : GraphOf) (table : List ℕ) → length table ≡ wire_count g
    → ((k : ℕ) → get_or table k 0 ≡ 0) → IsFlooding g 0 table []
none-flooding g table size none = record {
  size = size;
  within = λ k. (let e = none k in omega (arith, e));
  linked = λ u v is_u is_v some e. absurd (some (none (wire_number g u)));
  newest_ahead = λ u h. absurd (In-contains [] u h);
  spread = λ u is some. absurd (some (none (wire_number g u)));
}

-- where each wire has a part, these are the parts
pub all-parts : (g : GraphOf) (count : ℕ) (table : List ℕ) → IsFlooding g count table []
    → ((k : ℕ) → k < wire_count g → get_or table k 0 ≢ 0) → AreParts g count table
all-parts g count table flooding each = record {
  size = flooding.size;
  within = flooding.within;
  alike = λ u v is j.
      (elim (flooding.spread u is (each (wire_number g u) (wire-within g u is))) [
        | inl h ↦ absurd (In-contains [] u h)
        | inr spread ↦ spread v j
      ]);
  linked = λ u v is_u is_v e.
      flooding.linked u v is_u is_v (each (wire_number g u) (wire-within g u is_u)) e;
}
