-- The depths of the lines that were taken, by what is kept of them.
use Rattle.std.proofs.Common.{◌≡◌, ℕ, ◌-◌, ◌<◌, Bool, true, false, cond, Option, Some, None, List, [], ◌∷◌, ◌++◌, length, take, refl, sym, ap, subst, ◌∙◌, arith, length-append}
use Rattle.std.specs.Prelude.{◌&&◌, ◌||◌, ◌==◌, is_some, not, option_map, option_and_then, if◌then◌else◌}
use Rattle.std.specs.BTreeMap.{BTreeMap, get}
use Rattle.std.specs.List.{last_or}
use Rattle.std.specs.Option.{option_or}
use Rattle.std.specs.Ordering.{is_eq}
use Rattle.std.proofs.Math.Seq.{take-append_seam}
use Rattle.std.proofs.lemmas.Bool.{eqb-true, false≢true}
use Rattle.std.proofs.lemmas.List.Folds.{find-append}
use Rattle.list_laws.proofs.Places.{last-push}
use Rattle.list_laws.proofs.Ties.{then_ties}
use Rattle.fpga_bounds.specs.Keys.{key_cmp}
use Rattle.fpga_bounds.specs.declared.keys.ElemKey.{ElemKey}
use Rattle.fpga_bounds.proofs.KeyLemmas.{pin_key_ties}
use Rattle.fpga_types.specs.Fit.{same_elem, same_place}
use Rattle.fpga_types.specs.Kinds.{is_channel, same_kind}
use Rattle.fpga_types.specs.contracts.route.ElemKindOrd.TheImpl as kind_ord
use Rattle.fpga_types.specs.declared.route.Elem.{Elem}
use Rattle.fpga_types.specs.declared.route.ElemKind.{ElemKind}
use Rattle.fpga_types.specs.declared.route.ElemKind.TheVariants.{ChanX, ChanY, Ipin}
use Rattle.fpga_types.proofs.MeetingLemmas.{both_true}
use Rattle.route_verify.specs.Depths.{DeepLine, deep_line, depth_after, depth_behind}
use Rattle.route_verify.specs.LineDepths.{AreFirsts, HasTaken, deep_of, depth_at_last, depth_by, first_depth, first_equal, line_key, same_by}
use Rattle.route_verify.specs.Reach.{depth_at_pin}
use Rattle.route_verify.specs.declared.depths.LineDepths.{LineDepths}
use Rattle.route_verify.proofs.DepthLemmas.{deep-below, deep-push, last-In}
use Rattle.route_verify.proofs.EqualLines.{channel_number, same_elem-is}

channel_ties : (a b : ElemKind) → (is_channel a && is_channel b) ≡ true
    → is_eq ((kind_ord.ghosts).cmp a b) ≡ same_kind b a
channel_ties ChanX ChanX h = refl
channel_ties ChanX ChanY h = refl
channel_ties ChanY ChanX h = refl
channel_ties ChanY ChanY h = refl
channel_ties a b h = absurd (false≢true h)

-- the number of a channel line, as its key has it
abbrev number_of : Bool → Elem → ℕ
number_of tracked e = if tracked then e.number else 0

parts : (k p n : Bool) → (k && (p && n)) ≡ ((k && p && true) && n)
parts true true n = refl
parts true false n = refl
parts false p n = refl

without : (k p : Bool) → (k && (p && true)) ≡ (k && p && true)
without true true = refl
without true false = refl
without false p = refl

-- keys of channel lines tie where these are equal
pub line_ties : (tracked : Bool) (e q : Elem) → is_channel e.kind ≡ true → is_channel q.kind ≡ true
    → is_eq (key_cmp (line_key tracked e) (line_key tracked q)) ≡ same_by tracked q e
line_ties tracked e q channel also =
    let both : (is_channel e.kind && is_channel q.kind) ≡ true = rw (channel, also) refl in
    let behind = pin_key_ties (record e { kind = Ipin; number = number_of tracked e })
    (record q { kind = Ipin; number = number_of tracked q }) refl in
    then_ties _ _ _ _ (channel_ties e.kind q.kind both) behind ∙ go tracked
  where
    go : (t : Bool)
        → (same_kind q.kind e.kind && (same_place q e && number_of t q == number_of t e))
        ≡ same_by t q e
    go true = parts (same_kind q.kind e.kind) (same_place q e) (q.number == e.number)
        ∙ sym (λ i. (same_kind q.kind e.kind && same_place q e && (also i || q.number == e.number))
        && (not (also i) || q.number == e.number))
    go false = without (same_kind q.kind e.kind) (same_place q e)
        ∙ sym (λ i. same_kind q.kind e.kind && same_place q e && (also i || q.number == e.number))

-- equal channel lines have one key
pub one_key : (tracked : Bool) (e q : Elem) → is_channel q.kind ≡ true
    → same_by tracked q e ≡ true → line_key tracked q ≡ line_key tracked e
one_key true e q channel h =
    let both = both_true (same_elem q e) (not (is_channel q.kind) || q.number == e.number) h in
    let same = same_elem-is q e both.0 in
    let track : q.number ≡ e.number = eqb-true q.number e.number
    (channel_number (is_channel q.kind) (q.number == e.number) both.1 channel) in
    λ i. record {
      kind = same.kind i;
      x = same.x i;
      y = same.y i;
      label = same.label i;
      number = track i;
    }
one_key false e q channel h =
    let same = same_elem-is q e h in
    λ i. record {
      kind = same.kind i;
      x = same.x i;
      y = same.y i;
      label = same.label i;
      number = 0;
    }

-- a channel line equals no line of another kind
apart : (tracked : Bool) (q e : Elem) → is_channel q.kind ≡ true → is_channel e.kind ≡ false
    → same_by tracked q e ≡ false
apart tracked q e channel other = go (same_by tracked q e) refl
  where
    equal : (t : Bool) → same_by t q e ≡ true → same_elem q e ≡ true
    equal true h =
        (both_true (same_elem q e) (not (is_channel q.kind) || q.number == e.number) h).0
    equal false h = h

    go : (b : Bool) → same_by tracked q e ≡ b → b ≡ false
    go false is = refl
    go true is =
        let same = same_elem-is q e (equal tracked is) in
        absurd (false≢true (sym other ∙ ap is_channel (sym same.kind) ∙ channel))

-- one channel line more where the table has its key, and where it has not
module _ (tracked : Bool) (m : BTreeMap ElemKey (Option ℕ)) (lines : List DeepLine)
    (line : DeepLine)
    (channel : is_channel line.elem.kind ≡ true) (before : AreFirsts tracked m lines) where
  more : (q : Elem) → first_equal tracked (lines ++ line ∷ []) q
      ≡ option_or (first_equal tracked lines q)
      (cond (same_by tracked q line.elem) (Some line) None)
  more q = find-append (λ (l : DeepLine). same_by tracked q l.elem) lines (line ∷ [])

  -- an equal line has the same entry
  same_entry : (q : Elem) → is_channel q.kind ≡ true → same_by tracked q line.elem ≡ true
      → option_map (λ (l : DeepLine). l.depth) (first_equal tracked lines q)
      ≡ get key_cmp m (line_key tracked line.elem)
  same_entry q also is =
      sym (before q also) ∙ ap (get key_cmp m) (one_key tracked line.elem q also is)

  pub kept-there : is_some (get key_cmp m (line_key tracked line.elem)) ≡ true
      → AreFirsts tracked m (lines ++ line ∷ [])
  kept-there there q also =
      before q also
      ∙ ap (option_map (λ (l : DeepLine). l.depth))
      (go (first_equal tracked lines q) (same_by tracked q line.elem) (λ is.
      ap is_some (same_entry q also is) ∙ there) ∙ sym (more q))
    where
      go : (o : Option DeepLine) (b : Bool)
          → (b ≡ true → is_some (option_map (λ (l : DeepLine). l.depth) o) ≡ true)
          → o ≡ option_or o (cond b (Some line) None)
      go (Some l) b is = refl
      go None false is = refl
      go None true is = absurd (false≢true (is refl))

  pub kept-new : (n : BTreeMap ElemKey (Option ℕ))
      → is_some (get key_cmp m (line_key tracked line.elem)) ≡ false
      → ((k : ElemKey) → get key_cmp n k
      ≡ cond (is_eq (key_cmp (line_key tracked line.elem) k)) (Some line.depth) (get key_cmp m k))
      → AreFirsts tracked n (lines ++ line ∷ [])
  kept-new n new is q also =
      is (line_key tracked q)
      ∙ (λ i. cond (line_ties tracked line.elem q channel also i) (Some line.depth)
      (before q also i))
      ∙ go (first_equal tracked lines q) (same_by tracked q line.elem)
      (λ one. ap is_some (same_entry q also one) ∙ new)
      ∙ sym (ap (option_map (λ (l : DeepLine). l.depth)) (more q))
    where
      go : (o : Option DeepLine) (b : Bool)
          → (b ≡ true → is_some (option_map (λ (l : DeepLine). l.depth) o) ≡ false)
          → cond b (Some line.depth) (option_map (λ (l : DeepLine). l.depth) o)
          ≡ option_map (λ (l : DeepLine). l.depth) (option_or o (cond b (Some line) None))
      go None true is = refl
      go None false is = refl
      go (Some l) false is = refl
      go (Some l) true is = absurd (false≢true (sym (is refl)))

-- a line more that is no channel line
pub kept-other : (tracked : Bool) (m : BTreeMap ElemKey (Option ℕ)) (lines : List DeepLine)
    (line : DeepLine) → is_channel line.elem.kind ≡ false → AreFirsts tracked m lines
    → AreFirsts tracked m (lines ++ line ∷ [])
kept-other tracked m lines line other before q channel =
    before q channel ∙ sym (ap (option_map (λ (l : DeepLine). l.depth))
    (find-append (λ (l : DeepLine). same_by tracked q l.elem) lines (line ∷ [])
    ∙ (λ i. option_or (first_equal tracked lines q)
    (cond (apart tracked q line.elem channel other i) (Some line) None))
    ∙ none (first_equal tracked lines q)))
  where
    none : (o : Option DeepLine) → option_or o None ≡ o
    none None = refl
    none (Some l) = refl

-- the depth of the next line
pub depth-is : (depths : LineDepths) (elems : List Elem) (e : Elem) → HasTaken depths elems
    → is_channel e.kind ≡ true
    → depth_by depths.previous (first_depth depths.firsts (line_key depths.tracked e)) depths.last
    ≡ depth_behind (same_by depths.tracked) (deep_of depths elems) e
depth-is depths elems e has channel =
    let lines : List DeepLine = deep_of depths elems in
    (λ i. depth_by (has.previous i)
    ((ap (option_and_then (λ (d : Option ℕ). d)) (has.firsts e channel)
    ∙ joined (first_equal depths.tracked lines e)) i) (has.last i))
    ∙ go (last_or None lines)
    ∙ sym (λ i. if channel i
    then option_and_then (λ previous. depth_after (same_by depths.tracked) lines previous e)
    (last_or None lines) else None)
  where
    joined : (o : Option DeepLine)
        → option_and_then (λ (d : Option ℕ). d) (option_map (λ (l : DeepLine). l.depth) o)
        ≡ option_and_then (λ (l : DeepLine). l.depth) o
    joined None = refl
    joined (Some l) = refl

    go : (o : Option DeepLine)
        → depth_by (option_map (λ (l : DeepLine). l.elem.kind) o)
        (option_and_then (λ (l : DeepLine). l.depth)
        (first_equal depths.tracked (deep_of depths elems) e))
        (option_and_then (λ (l : DeepLine). l.depth) o)
        ≡ option_and_then
        (λ previous. depth_after (same_by depths.tracked) (deep_of depths elems) previous e) o
    go None = refl
    go (Some l) = refl

-- what is kept behind a line more
pub taken-more : (depths : LineDepths) (elems : List Elem) (e : Elem)
    (firsts : BTreeMap ElemKey (Option ℕ)) (depth : Option ℕ) → HasTaken depths elems
    → depth ≡ depth_behind (same_by depths.tracked) (deep_of depths elems) e
    → AreFirsts depths.tracked firsts
    (deep_of depths elems ++ record { elem = e; depth = depth } ∷ [])
    → HasTaken (record {
      tracked = depths.tracked;
      firsts = firsts;
      previous = Some e.kind;
      last = depth;
      last_but_one = depths.last;
    }) (elems ++ e ∷ [])
taken-more depths elems e firsts depth has is kept =
    let lines : List DeepLine = deep_of depths elems in
    let line : DeepLine = deep_line (same_by depths.tracked) lines e in
    let more : deep_of depths (elems ++ e ∷ []) ≡ lines ++ line ∷ [] =
    deep-push (same_by depths.tracked) elems e in
    record {
      firsts = subst (AreFirsts depths.tracked firsts)
          (ap (λ (d : Option ℕ). lines ++ record { elem = e; depth = d } ∷ []) is ∙ sym more) kept;
      previous = sym (ap (λ (ls : List DeepLine). option_map (λ (l : DeepLine). l.elem.kind)
          (last_or None ls)) more
          ∙ ap (option_map (λ (l : DeepLine). l.elem.kind)) (last-push None lines line));
      last = is ∙ sym (ap depth_at_last more
          ∙ ap (option_and_then (λ (l : DeepLine). l.depth)) (last-push None lines line));
      last_but_one = has.last ∙ sym (ap depth_at_pin more
          ∙ ap (λ (n : ℕ). depth_at_last (take n (lines ++ line ∷ []))) (front lines line)
          ∙ ap depth_at_last (take-append_seam lines (line ∷ [])));
    }
  where
    front : (xs : List DeepLine) (x : DeepLine) → length (xs ++ x ∷ []) - 1 ≡ length xs
    front xs x = omega (arith, length-append xs (x ∷ []))

-- its depth is below the number of lines
pub last-below : (depths : LineDepths) (elems : List Elem) (d : ℕ) → HasTaken depths elems
    → depths.last ≡ Some d → d < length elems
last-below depths elems d has is = go (last_or None (deep_of depths elems)) refl (sym has.last ∙ is)
  where
    go : (o : Option DeepLine) → last_or None (deep_of depths elems) ≡ o
        → option_and_then (λ (l : DeepLine). l.depth) o ≡ Some d → d < length elems
    go None e h = cc
    go (Some l) e h =
        deep-below (same_by depths.tracked) elems l (last-In (deep_of depths elems) l e) d h
