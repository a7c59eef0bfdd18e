-- A net that is printed by its tree, line by line.
use Rattle.std.proofs.Common.{◌≡◌, ℕ, ◌+◌, ◌<◌, Bool, true, false, Option, Some, None, List, [], ◌∷◌, ◌++◌, length, take, refl, sym, ap, subst, ◌∙◌, inl, inr, arith}
use Rattle.std.specs.Prelude.{◌||◌, find, slice_get, slice_index_or, option_map, option_and_then, Contains, if◌then◌else◌}
use Rattle.std.specs.List.{last_or, list_any}
use Rattle.std.proofs.Math.Seq.{take-append_seam}
use Rattle.std.proofs.lemmas.List.{take-append-le}
use Rattle.std.proofs.lemmas.Option.{slice_get_within}
use Rattle.list_laws.proofs.Members.{In, In-append_cases, In-contains, In-list_any, contains-In, find-In, find-some, from_In-map}
use Rattle.list_laws.proofs.Places.{get-cases, last-changed, none_is_not_some, some_is}
use Rattle.fpga_bounds.specs.Keys.{has_elem}
use Rattle.fpga_types.specs.Fit.{same_elem}
use Rattle.fpga_types.specs.Kinds.{is_channel, is_opin, is_sink}
use Rattle.fpga_types.specs.declared.route.Elem.{Elem}
use Rattle.route_reach.specs.Printing.{IsOwn, IsPrinting, IsQuietBehind, NetFrame, wire_of}
use Rattle.route_reach.specs.Tree.{reached_at}
use Rattle.route_reach.specs.declared.printed.Printed.{Printed}
use Rattle.route_reach.specs.declared.tree.Reached.{Reached}
use Rattle.route_reach.proofs.ElemLemmas.{tracked-equal}
use Rattle.route_reach.proofs.LineFacts.{any-push}
use Rattle.route_verify.specs.Depths.{DeepLine, deep_line, deep_lines, depth_after, depth_behind, same_tracked}
use Rattle.route_verify.specs.Lines.{is_on_wire}
use Rattle.route_verify.specs.Wiring.{elem_wire}
use Rattle.route_verify.proofs.DepthLemmas.{deep-are, deep-push, last-In}

-- what holds at each place of a list, of what stands before it, holds of one more
pub each-push : {T : Type 0} (P : List T → T → Type 0) (xs : List T) (x : T)
    → ((i : ℕ) (y : T) → slice_get xs i ≡ Some y → P (take i xs) y) → P xs x
    → (i : ℕ) (y : T) → slice_get (xs ++ x ∷ []) i ≡ Some y → P (take i (xs ++ x ∷ [])) y
each-push {T} P xs x each last i y at = elim (get-cases xs x y i at) [
  | inl end ↦
      let front : take i (xs ++ x ∷ []) ≡ xs =
      ap (λ (n : ℕ). take n (xs ++ x ∷ [])) end.0 ∙ take-append_seam xs (x ∷ []) in
      subst (λ (ys : List T). P ys y) (sym front) (subst (P xs) end.1 last)
  | inr earlier ↦
      let low : i < length xs = slice_get_within xs i y earlier in
      subst (λ (ys : List T). P ys y) (sym (take-append-le i xs (x ∷ []) (omega (arith, low))))
      (each i y earlier)
]

-- one more element
in-push : {T : Type 0} (P : T → Type 0) (xs : List T) (x : T)
    → ((y : T) → Contains xs y → P y) → P x → (y : T) → Contains (xs ++ x ∷ []) y → P y
in-push {T} P xs x each last y has =
    elim (In-append_cases xs (x ∷ []) y (In-contains (xs ++ x ∷ []) y has)) [
      | inl old ↦ each y (contains-In xs y old)
      | inr new ↦ elim new [ inl same ↦ subst P same last | inr none ↦ absurd none ]
    ]

-- the last line with its depth
pub last-deep : (lines : List Elem) (a : Elem) → last_or None lines ≡ Some a → (line : DeepLine)
    × (last_or None (deep_lines same_tracked lines) ≡ Some line) × (line.elem ≡ a)
last-deep lines a at = go (last_or None (deep_lines same_tracked lines)) refl
    (sym (last-changed (λ (line : DeepLine). line.elem) None (deep_lines same_tracked lines))
    ∙ ap (last_or None) (deep-are same_tracked lines) ∙ at)
  where
    go : (o : Option DeepLine) → last_or None (deep_lines same_tracked lines) ≡ o
        → option_map (λ (line : DeepLine). line.elem)
        (last_or None (deep_lines same_tracked lines)) ≡ Some a
        → (line : DeepLine) × (last_or None (deep_lines same_tracked lines) ≡ Some line)
        × (line.elem ≡ a)
    go None is h = absurd (none_is_not_some (ap (option_map (λ (line : DeepLine). line.elem))
        (sym is) ∙ h))
    go (Some line) is h = (
      line,
      is,
      some_is (ap (option_map (λ (line : DeepLine). line.elem)) (sym is) ∙ h),
    )

module _ (f : NetFrame) where
  abbrev AreDeep : List Elem → Type 0
  AreDeep lines = (line : DeepLine) (k : ℕ) (r : Reached)
      → Contains (deep_lines same_tracked lines) line
      → reached_at f.tree k ≡ Some r → elem_wire line.elem ≡ Some (wire_of f k)
      → line.depth ≡ Some r.depth

  -- the depth of a line behind these
  abbrev pub depth_of : List Elem → Elem → Option ℕ
  depth_of lines e = depth_behind same_tracked (deep_lines same_tracked lines) e

  more-deep : (lines : List Elem) (e : Elem) → AreDeep lines
      → ((k : ℕ) (r : Reached) → reached_at f.tree k ≡ Some r → elem_wire e ≡ Some (wire_of f k)
      → depth_of lines e ≡ Some r.depth) → AreDeep (lines ++ e ∷ [])
  more-deep lines e deep next line k r has is on =
      elim (In-append_cases (deep_lines same_tracked lines)
      (deep_line same_tracked (deep_lines same_tracked lines) e ∷ []) line
      (subst (λ (ls : List DeepLine). In ls line) (deep-push same_tracked lines e)
      (In-contains (deep_lines same_tracked (lines ++ e ∷ [])) line has))) [
        | inl old ↦ deep line k r (contains-In (deep_lines same_tracked lines) line old) is on
        | inr new ↦ elim new [
          | inl same ↦
              (let one : e ≡ line.elem = ap (λ (l : DeepLine). l.elem) same in
              let depth : depth_of lines e ≡ line.depth = ap (λ (l : DeepLine). l.depth) same in
              sym depth ∙ next k r is (ap elem_wire one ∙ on))
          | inr none ↦ absurd none
        ]
      ]

  -- what a step of printing does: one line more, and what is kept of it
  pub record IsStep (old new : Printed) (e : Elem) : Type 0 where
    pub lines : new.lines.items ≡ old.lines.items ++ e ∷ []
    pub places : length new.marks.items ≡ length old.marks.items
    pub marked : (k : ℕ) (r : Reached) → reached_at f.tree k ≡ Some r
        → slice_index_or new.marks.items k false
        ≡ (slice_index_or old.marks.items k false || is_on_wire (wire_of f k) e)
    pub seen : (q : Elem) → is_opin q.kind ≡ true
        → has_elem new.opins q ≡ (has_elem old.opins q || same_elem q e)

  -- one line more
  pub printed-more : (old new : Printed) (e : Elem) → IsPrinting f old → IsStep old new e
      → IsQuietBehind f old.lines.items e → IsOwn f e
      → ((k : ℕ) (r : Reached) → reached_at f.tree k ≡ Some r → elem_wire e ≡ Some (wire_of f k)
      → depth_of old.lines.items e ≡ Some r.depth)
      → ((s : Elem) → slice_get f.net.elems 0 ≡ Some s
      → (list_any (same_elem s) old.lines.items || same_elem s e) ≡ true)
      → IsPrinting f new
  printed-more old new e so_far step quiet own deep begun = record {
    quiet = subst (λ (ls : List Elem). (i : ℕ) (y : Elem) → slice_get ls i ≡ Some y
        → IsQuietBehind f (take i ls) y) (sym step.lines)
        (each-push (IsQuietBehind f) old.lines.items e so_far.quiet quiet);
    own = subst (λ (ls : List Elem). (y : Elem) → Contains ls y → IsOwn f y) (sym step.lines)
        (in-push (IsOwn f) old.lines.items e so_far.own own);
    deep = subst AreDeep (sym step.lines) (more-deep old.lines.items e so_far.deep deep);
    places = step.places ∙ so_far.places;
    marked = λ k r is. step.marked k r is
        ∙ ap (λ (b : Bool). b || is_on_wire (wire_of f k) e) (so_far.marked k r is)
        ∙ sym (any-push (is_on_wire (wire_of f k)) old.lines.items e)
        ∙ sym (ap (list_any (is_on_wire (wire_of f k))) step.lines);
    seen = λ q is. step.seen q is
        ∙ ap (λ (b : Bool). b || same_elem q e) (so_far.seen q is)
        ∙ sym (any-push (same_elem q) old.lines.items e)
        ∙ sym (ap (list_any (same_elem q)) step.lines);
    begun = λ s first some. ap (list_any (same_elem s)) step.lines
        ∙ any-push (same_elem s) old.lines.items e ∙ begun s first;
  }

  -- ---- the depth of the next channel line

  module _ (lines : List Elem) (deep : AreDeep lines) (e : Elem)
      (channel : is_channel e.kind ≡ true) (k : ℕ) (r : Reached) (is : reached_at f.tree k ≡ Some r)
      (on : elem_wire e ≡ Some (wire_of f k)) where
    abbrev seen : List DeepLine
    seen = deep_lines same_tracked lines

    -- it goes by the last line
    by-last : (a : Elem) → last_or None lines ≡ Some a → (last : DeepLine) × In seen last
        × (last.elem ≡ a) × (depth_of lines e ≡ depth_after same_tracked seen last e)
    by-last a at =
        let last = last-deep lines a at in (
          last.0,
          last-In seen last.0 last.1,
          last.2,
          (λ i. if channel i then option_and_then
              (λ previous. depth_after same_tracked seen previous e) (last_or None seen) else None)
              ∙ (λ i. option_and_then (λ previous. depth_after same_tracked seen previous e)
              (last.1 i)),
        )

    -- behind an OPIN none
    pub deep-opin : (a : Elem) → last_or None lines ≡ Some a → is_opin a.kind ≡ true
        → is_sink a.kind ≡ false → r.depth ≡ 0 → depth_of lines e ≡ Some r.depth
    deep-opin a at opin other none =
        let last = by-last a at in
        let kind : last.0.elem.kind ≡ a.kind = ap (λ (b : Elem). b.kind) last.2 in
        last.3
        ∙ (λ i. if (ap is_sink kind ∙ other) i
        then option_and_then (λ (line : DeepLine). line.depth)
        (find (λ (line : DeepLine). same_tracked e line.elem) seen)
        else if (ap is_opin kind ∙ opin) i then Some 0
        else option_map (λ d. d + 1) last.0.depth)
        ∙ ap (λ (d : ℕ). Some d) (sym none)

    -- behind a channel line one more than that of its wire
    pub deep-wire : (a : Elem) (j : ℕ) (s : Reached) → last_or None lines ≡ Some a
        → is_opin a.kind ≡ false → is_sink a.kind ≡ false → reached_at f.tree j ≡ Some s
        → elem_wire a ≡ Some (wire_of f j) → r.depth ≡ s.depth + 1
        → depth_of lines e ≡ Some r.depth
    deep-wire a j s at opin other there on_a more =
        let last = by-last a at in
        let kind : last.0.elem.kind ≡ a.kind = ap (λ (b : Elem). b.kind) last.2 in
        let depth : last.0.depth ≡ Some s.depth =
        deep last.0 j s (contains-In seen last.0 last.1) there (ap elem_wire last.2 ∙ on_a) in
        last.3
        ∙ (λ i. if (ap is_sink kind ∙ other) i
        then option_and_then (λ (line : DeepLine). line.depth)
        (find (λ (line : DeepLine). same_tracked e line.elem) seen)
        else if (ap is_opin kind ∙ opin) i then Some 0
        else option_map (λ d. d + 1) last.0.depth)
        ∙ ap (option_map (λ d. d + 1)) depth
        ∙ ap (λ (d : ℕ). Some d) (sym more)

    -- in branch position that of the wire, where it has a line
    pub deep-branch : (a : Elem) → last_or None lines ≡ Some a → is_sink a.kind ≡ true
        → list_any (same_tracked e) lines ≡ true → depth_of lines e ≡ Some r.depth
    deep-branch a at sink any =
        let last = by-last a at in
        let kind : last.0.elem.kind ≡ a.kind = ap (λ (b : Elem). b.kind) last.2 in
        let old = In-list_any (same_tracked e) lines any in
        let line = from_In-map (λ (l : DeepLine). l.elem) seen old.0
        (subst (λ (xs : List Elem). In xs old.0) (sym (deep-are same_tracked lines)) old.1) in
        let some = find-some (λ (l : DeepLine). same_tracked e l.elem) seen line.0 line.1
        (ap (same_tracked e) line.2 ∙ old.2) in
        let found = find-In (λ (l : DeepLine). same_tracked e l.elem) seen some.0 some.1 in
        let equal = tracked-equal e some.0.elem found.1 channel in
        last.3
        ∙ (λ i. if (ap is_sink kind ∙ sink) i
        then option_and_then (λ (line : DeepLine). line.depth)
        (find (λ (line : DeepLine). same_tracked e line.elem) seen)
        else if is_opin last.0.elem.kind then Some 0
        else option_map (λ d. d + 1) last.0.depth)
        ∙ ap (option_and_then (λ (line : DeepLine). line.depth)) some.1
        ∙ deep some.0 k r (contains-In seen some.0 found.0) is (equal.1 ∙ on)
