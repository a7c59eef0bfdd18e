-- Over the lines of a net, a channel line of depth d is led to from the source over d joins.
use Rattle.std.proofs.Common.{◌≡◌, ℕ, zero, suc, ◌+◌, Bool, true, false, Option, Some, None, List, [], ◌∷◌, ◌++◌, take, refl, sym, ap, subst, ◌∙◌, inl, inr, arith}
use Rattle.std.specs.Prelude.{Any, find, map, slice_get, option_map, option_and_then, if◌then◌else◌}
use Rattle.std.specs.List.{last_or, list_any}
use Rattle.std.proofs.lemmas.Bool.{false≢true}
use Rattle.list_laws.proofs.Members.{In, In-append_cases, In-list_any, find-In, find-some, from_In-map}
use Rattle.list_laws.proofs.Places.{last-push, some_is, take-get}
use Rattle.fpga_types.specs.Kinds.{is_channel, is_opin, is_sink}
use Rattle.fpga_types.specs.declared.grid.PinAt.{PinAt}
use Rattle.fpga_types.specs.declared.grid.Wire.{Wire}
use Rattle.fpga_types.specs.declared.route.Elem.{Elem}
use Rattle.fpga_types.specs.declared.route.ElemKind.{ElemKind}
use Rattle.fpga_types.specs.declared.route.ElemKind.TheVariants.{Opin, ChanX, ChanY}
use Rattle.fpga_graph.specs.GraphOf.{GraphOf}
use Rattle.fpga_graph.specs.Wires.{Reaches}
use Rattle.route_reach.specs.Reach.{IsJoint}
use Rattle.route_reach.proofs.Chains.{IsLed, led-more, led-start}
use Rattle.route_verify.specs.Depths.{DeepLine, deep_line, deep_lines, depth_after, depth_behind}
use Rattle.route_verify.proofs.DepthLemmas.{deep-are, deep-push, last-In}

-- nothing more is taken past the end
pub take-none : {A : Type 0} (xs : List A) (k : ℕ) → slice_get xs k ≡ None
    → take (suc k) xs ≡ take k xs
take-none [] zero h = refl
take-none [] (suc k) h = refl
take-none (x ∷ xs) zero h = cc
take-none {A} (x ∷ xs) (suc k) h = ap (λ (ys : List A). x ∷ ys) (take-none xs k h)

-- the last of some lines, by what stands last of what is made of them
last-made : {A B : Type 0} (f : A → B) (o : Option A) (xs : List A) (y : B)
    → last_or (option_map f o) (map f xs) ≡ Some y
    → (x : A) × (last_or o xs ≡ Some x) × (f x ≡ y)
last-made f None [] y h = cc
last-made f (Some x) [] y h = (x, refl, some_is h)
last-made {A} f o (x ∷ xs) y h = last-made f (Some x) xs y h

-- what a line stands behind
pub data Before (opin channel sink : Type 0) : Type 0 where
  by_opin : opin → Before opin channel sink
  by_channel : channel → Before opin channel sink
  by_sink : sink → Before opin channel sink

-- the lines of a net, of which this says which are equal and on which wires they are: pins of the
-- source reach the wires behind OPIN lines, wires next to each other are joined, all are in the
-- set, and each channel line stands behind an OPIN, a channel line or a SINK, where it equals one
-- before it
pub record IsWalk (g : GraphOf) (from : List PinAt) (set : List Wire) (same : Elem → Elem → Bool)
    (wire : Elem → Option Wire) (elems : List Elem) : Type 0 where
  pub starts : (k : ℕ) (a b : Elem) (w : Wire) → slice_get elems k ≡ Some a
      → slice_get elems (suc k) ≡ Some b → is_opin a.kind ≡ true → wire b ≡ Some w
      → Any (λ out. Reaches g out w) from
  pub joins : (k : ℕ) (a b : Elem) (u w : Wire) → slice_get elems k ≡ Some a
      → slice_get elems (suc k) ≡ Some b → wire a ≡ Some u → wire b ≡ Some w → IsJoint g (u, w)
  pub own : (k : ℕ) (e : Elem) (w : Wire) → slice_get elems k ≡ Some e → wire e ≡ Some w → In set w
  pub follows : (k : ℕ) (e : Elem) → slice_get elems k ≡ Some e → is_channel e.kind ≡ true
      → (j : ℕ) × (k ≡ suc j) × (a : Elem) × (slice_get elems j ≡ Some a)
      × (Before (is_opin a.kind ≡ true) (is_channel a.kind ≡ true)
      ((is_sink a.kind ≡ true) × (list_any (same e) (take k elems) ≡ true)))
  pub on_wire : (k : ℕ) (e : Elem) → slice_get elems k ≡ Some e → is_channel e.kind ≡ true
      → (w : Wire) × (wire e ≡ Some w)
  pub equal : (e other : Elem) → same e other ≡ true → is_channel e.kind ≡ true
      → (is_channel other.kind ≡ true) × (wire other ≡ wire e)

-- the kinds before a channel line
opin-alone : (kind : ElemKind) → is_opin kind ≡ true → is_sink kind ≡ false
opin-alone Opin h = refl
opin-alone kind h = absurd (false≢true h)

channel-alone : (kind : ElemKind) → is_channel kind ≡ true
    → (is_sink kind ≡ false) × (is_opin kind ≡ false)
channel-alone ChanX h = (refl, refl)
channel-alone ChanY h = (refl, refl)
channel-alone kind h = absurd (false≢true h)

module _ (g : GraphOf) (from : List PinAt) (set : List Wire) (same : Elem → Elem → Bool)
    (wire : Elem → Option Wire) (elems : List Elem) (walk : IsWalk g from set same wire elems)
  where
    -- a channel line has a depth, and its wire is led to within so many joins
    pub record IsDeep (line : DeepLine) (w : Wire) : Type 0 where
      pub depth : ℕ
      pub is : line.depth ≡ Some depth
      pub led : IsLed g from set w depth

    abbrev pub AreDeep : ℕ → Type 0
    AreDeep k = (line : DeepLine) → In (deep_lines same (take k elems)) line
        → is_channel line.elem.kind ≡ true → (w : Wire) → wire line.elem ≡ Some w → IsDeep line w

    -- the depth of the next line
    next-deep : (k : ℕ) (e : Elem) → slice_get elems k ≡ Some e → AreDeep k
        → is_channel e.kind ≡ true → (w : Wire) → wire e ≡ Some w
        → IsDeep (deep_line same (deep_lines same (take k elems)) e) w
    next-deep k e at before channel w on =
        let seen : List DeepLine = deep_lines same (take k elems) in
        let f = walk.follows k e at channel in
        let a : Elem = f.2 in
        let front : take k elems ≡ take f.0 elems ++ a ∷ [] =
        ap (λ (n : ℕ). take n elems) f.1 ∙ take-get elems f.0 a f.3 in
        let at_end : last_or None (map (λ (line : DeepLine). line.elem) seen) ≡ Some a =
        ap (last_or None) (deep-are same (take k elems) ∙ front) ∙ last-push None (take f.0 elems) a
        in
        let last = last-made (λ (line : DeepLine). line.elem) None seen a at_end in
        let at_e : slice_get elems (suc f.0) ≡ Some e = ap (slice_get elems) (sym f.1) ∙ at in
        let depth_is : depth_behind same seen e ≡ depth_after same seen last.0 e =
        (λ i. if channel i then option_and_then (λ previous. depth_after same seen previous e)
        (last_or None seen) else None)
        ∙ (λ i. option_and_then (λ previous. depth_after same seen previous e) (last.1 i)) in
        subst (λ (d : Option ℕ). IsDeep (record { elem = e; depth = d }) w) (sym depth_is)
        (behind last.0 (last-In seen last.0 last.1)
        (subst (λ (b : Elem). Before (is_opin b.kind ≡ true) (is_channel b.kind ≡ true)
        ((is_sink b.kind ≡ true) × (list_any (same e) (take k elems) ≡ true))) (sym last.2) f.4)
        f.0 (f.3 ∙ ap (λ (b : Elem). Some b) (sym last.2)) at_e)
      where
        -- by the line before it
        behind : (previous : DeepLine) → In (deep_lines same (take k elems)) previous
            → Before (is_opin previous.elem.kind ≡ true) (is_channel previous.elem.kind ≡ true)
            ((is_sink previous.elem.kind ≡ true) × (list_any (same e) (take k elems) ≡ true))
            → (j : ℕ) → slice_get elems j ≡ Some previous.elem → slice_get elems (suc j) ≡ Some e
            → IsDeep (record {
              elem = e;
              depth = depth_after same (deep_lines same (take k elems)) previous e;
            }) w
        behind previous i (by_opin is) j here there =
            subst (λ (d : Option ℕ). IsDeep (record { elem = e; depth = d }) w)
            (sym ((λ n. if opin-alone previous.elem.kind is n
            then option_and_then (λ (line : DeepLine). line.depth)
            (find (λ (line : DeepLine). same e line.elem) (deep_lines same (take k elems)))
            else if is_opin previous.elem.kind then Some 0
            else option_map (λ d. d + 1) previous.depth)
            ∙ (λ n. if is n then Some 0 else option_map (λ d. d + 1) previous.depth)))
            (record {
              depth = 0;
              is = refl;
              led = led-start g from set w (walk.starts j previous.elem e w here there is on)
                  (walk.own k e w at on);
            })
        behind previous i (by_channel is) j here there =
            let u = walk.on_wire j previous.elem here is in
            let old = before previous i is u.0 u.1 in
            let kinds = channel-alone previous.elem.kind is in
            subst (λ (d : Option ℕ). IsDeep (record { elem = e; depth = d }) w)
            (sym ((λ n. if kinds.0 n
            then option_and_then (λ (line : DeepLine). line.depth)
            (find (λ (line : DeepLine). same e line.elem) (deep_lines same (take k elems)))
            else if is_opin previous.elem.kind then Some 0
            else option_map (λ d. d + 1) previous.depth)
            ∙ (λ n. if kinds.1 n then Some 0 else option_map (λ d. d + 1) previous.depth)
            ∙ ap (option_map (λ d. d + 1)) old.is))
            (record {
              depth = old.depth + 1;
              is = refl;
              led = (let one : suc old.depth ≡ old.depth + 1 = omega arith in
                  subst (IsLed g from set w) one
                  (led-more g from set u.0 w old.depth old.led
                  (walk.joins j previous.elem e u.0 w here there u.1 on) (walk.own k e w at on)));
            })
        behind previous i (by_sink is) j here there =
            let seen : List DeepLine = deep_lines same (take k elems) in
            let any = In-list_any (same e) (take k elems) is.1 in
            let line = from_In-map (λ (l : DeepLine). l.elem) seen any.0
            (subst (λ (xs : List Elem). In xs any.0) (sym (deep-are same (take k elems))) any.1) in
            let some = find-some (λ (l : DeepLine). same e l.elem) seen line.0 line.1
            (ap (same e) line.2 ∙ any.2) in
            let found = find-In (λ (l : DeepLine). same e l.elem) seen some.0 some.1 in
            let equal = walk.equal e some.0.elem found.1 channel in
            let old = before some.0 found.0 equal.0 w (equal.1 ∙ on) in
            subst (λ (d : Option ℕ). IsDeep (record { elem = e; depth = d }) w)
            (sym ((λ n. if is.0 n
            then option_and_then (λ (line : DeepLine). line.depth)
            (find (λ (line : DeepLine). same e line.elem) seen)
            else if is_opin previous.elem.kind then Some 0
            else option_map (λ d. d + 1) previous.depth)
            ∙ ap (option_and_then (λ (line : DeepLine). line.depth)) some.1))
            (record { depth = old.depth; is = old.is; led = old.led })

    -- so it is of all channel lines up to a place
    pub deep : (k : ℕ) → AreDeep k
    deep zero line i channel w on = absurd (none elems line i)
      where
        none : (xs : List Elem) (l : DeepLine) → In (deep_lines same (take 0 xs)) l → ⊥
        none [] l i = i
        none (x ∷ xs) l i = i
    deep (suc k) line i channel w on = go (slice_get elems k) refl (deep k)
      where
        go : (o : Option Elem) → slice_get elems k ≡ o → AreDeep k → IsDeep line w
        go None e before =
            before line (subst (λ (xs : List Elem). In (deep_lines same xs) line)
            (take-none elems k e) i) channel w on
        go (Some x) e before =
            let seen : List DeepLine = deep_lines same (take k elems) in
            let all : deep_lines same (take (suc k) elems) ≡ seen ++ deep_line same seen x ∷ [] =
            ap (deep_lines same) (take-get elems k x e) ∙ deep-push same (take k elems) x in
            elim (In-append_cases seen (deep_line same seen x ∷ []) line
            (subst (λ (ls : List DeepLine). In ls line) all i)) [
              | inl old ↦ before line old channel w on
              | inr new ↦ elim new [
                | inl here ↦
                    (let one : x ≡ line.elem = ap (λ (l : DeepLine). l.elem) here in
                    subst (λ (l : DeepLine). IsDeep l w) here
                    (next-deep k x e before (ap (λ (a : Elem). is_channel a.kind) one ∙ channel) w
                    (ap wire one ∙ on)))
                | inr none ↦ absurd none
              ]
            ]
