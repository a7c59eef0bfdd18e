-- The memory of a row, a place or a run of places at a time: what the walks of its functions cite.
use mathlib.Core.Path.{◌≡◌, refl, sym, ap, subst, ◌∙◌}
use Prim.Native.Nat.{ℕ, zero, suc, ◌+◌, ◌*◌, ◌<◌, ◌≤◌}
use native.Mathlib.Omega.{arith}
use native.Mathlib.Nat.{zero-mul, suc-mul}
use mathlib.Core.List.{List, [], ◌∷◌, ◌++◌, map}
use lib.ListN.{length, take, drop, set, get_or, replicate, take-append-drop, length-take}
use lib.Seq.{drop-cons, set_split}
use seplogic.Ra.Ura.{Ura}
use base.Fraction.{full_share}
use mir.Syntax.{Ty, ty_array}
use mir.Val.{Val, vstruct, vcons, vnil, of_list}
use base.Logic.{ent, never, sep, emp, via, snd∗, id⊢, mono_r}
use base.Fml.{Fml, Lft, flt, ftrue, fsep, fat, froom}
use types.Logic.{Logic, sem}
use types.Kit.{Item, Goal, Seq, Step, step, ‵, some, ◌⊛◌, ◌$◌, ◌∵◌, !, qed, by, move, keep, drop as skip, use1, use2, pick, split, frame, fsplit, fjoin, fpick, fpack, feq_i, feq_l, flt_l, rewrite, done}
use denote.RattleType.{RattleType, Valss}
use denote.Laws.{Typed, Is, shows}
use denote.Param.{param, layout}
use denote.Param.Laws.{Laws, param_laws}
use denote.RawPtr.{Ptr, RawPtr, ptr_val}
use denote.Shadow.{makes_shadow}
use denote.Slice.{elements_shared}
use denote.Steps.{nothing, peeks}
use denote.Struct.Struct.{Shape, Struct, within}
use denote.Struct.Owning.{shape}
use denote.Struct.Declared as Declared
use denote.Struct.Tuple.{Tuple, tuple_type}
use borrow.Table.OneValue.{part_in, part_out}
use Rattle.std.specs.Prelude.{Option, Some, None}
use Rattle.std.specs.Mem.{type_size}
use Rattle.core.proofs.mem.Param.{El, R, el_x, elτ}
use Rattle.std_alloc.proofs.RcSteps.{Good, word}
use Rattle.sat_arena.specs.Ownership.{owns_place, owns_places, lends_place, lends_places}
use Rattle.sat_arena.specs.contracts.places.Places as places
use Rattle.sat_arena.specs.contracts.places.Start as start

-- the types of the functions' parameters, where the values are of the type E
module _ (E : El) where
  abbrev pub PlacesType : RattleType
  PlacesType = places.the_row (R E)

  abbrev pub StartType : RattleType
  StartType = start.the_row (R E)

  -- the field of the places, which takes no bytes
  abbrev pub OwnerType : RattleType
  OwnerType = Struct (shape (places.the_type (R E)))

  -- how many bytes a place takes
  abbrev pub width : ℕ
  width = type_size (R E)

  abbrev pub Slot : Type 0
  Slot = Option (el_x E)

-- a struct with a pointer as its one field
abbrev pointer_shape : Shape
pointer_shape = record { name = []; args = []; types = []; fields = RawPtr ∷ [] }

abbrev pub PointerType : RattleType
PointerType = Struct pointer_shape

-- the machine value of places, and of a claim
abbrev pub owner : Val
owner = vstruct (vcons (vstruct vnil) vnil)

pub owner_made : (E : El) {M : Type 1} {𝓤 : Ura M} (𝓛 : Logic 𝓤) →
    ent 𝓤 (emp 𝓤) (sem 𝓛 ((OwnerType E).own_val (tt, tt) (owner ∷ [])))
owner_made E 𝓛 =
    makes_shadow 𝓛 ((OwnerType E).own_val (tt, tt) (owner ∷ []))
    (λ vss. (tt, ((λ uss. (tt, tt)), tt)))
    ((vstruct vnil ∷ [], tt), (refl, ((tt, (refl, tt)), tt)))

module _ {M : Type 1} {𝓤 : Ura M} {𝓛 : Logic 𝓤} {K : Type 0} {Γ : List (Item 𝓤)} {G : Goal 𝓤 𝓛.H}
  where
    -- a pointer that is owned is this machine value
    pub pointer_had : K → (p : Ptr) (vs : List Val) → (vs ≡ word p ∷ [] → Seq K 𝓛 Γ G) →
        Seq K 𝓛 (‵ (PointerType.own_val (p, tt) vs) ∷ Γ) G
    pointer_had t p vs on =
        fpick t (λ vss. fsplit t $ feq_l t (λ whole. fsplit t $ feq_l t (λ part. skip t $
        on (subst (λ (ws : List Val). vs ≡ vstruct (of_list (ws ++ [])) ∷ []) part whole))))

    pub pointer_made : K → (p : Ptr) →
        Step K 𝓛 (‵ (PointerType.own_val (p, tt) (word p ∷ [])) ∷ Γ) G Γ G
    pointer_made t p = step (λ s.
        nothing t $ feq_i t (List Val) (ptr_val p ∷ []) (ptr_val p ∷ []) refl $ fjoin t $
        feq_i t (List Val) (word p ∷ []) (word p ∷ []) refl $ fjoin t $
        fpack t (Valss (RawPtr ∷ [])) (within pointer_shape (p, tt) (word p ∷ []))
        (ptr_val p ∷ [], tt) $ s)

    -- places, and a claim, are this machine value
    pub owner_had : K → (E : El) (vs : List Val) → (vs ≡ owner ∷ [] → Seq K 𝓛 Γ G) →
        Seq K 𝓛 (‵ ((OwnerType E).own_val (tt, tt) vs) ∷ Γ) G
    owner_had t E vs on =
        fpick t (λ vss. fsplit t $ feq_l t (λ whole. fsplit t $ fpick t (λ uss. fsplit t $
        feq_l t (λ part. skip t $ skip t $
        on (subst (λ (ws : List Val). vs ≡ vstruct (of_list (ws ++ [])) ∷ []) part whole)))))

one_value : (τ : Ty) (vs : List Val) → Typed (τ ∷ []) vs → (v : Val) × ((vs ≡ v ∷ []) × Good τ v)
one_value τ [] t = absurd t
one_value τ (v ∷ []) t = (v, (refl, t.0))
one_value τ (v ∷ w ∷ vs) t = absurd t.1

module _ (Y : RattleType) (laws : Laws Y) {M : Type 1} {𝓤 : Ura M} {𝓛 : Logic 𝓤} {K : Type 0}
    {Γ : List (Item 𝓤)} {G : Goal 𝓤 𝓛.H} where
  -- a value of a type parameter is one machine value of its layout
  pub value_had : K → (x : Y.Denot) (vs : List Val) →
      ((v : Val) → vs ≡ v ∷ [] → Good (layout Y) v → Seq K 𝓛 (‵ (Y.own_val x (v ∷ [])) ∷ Γ) G) →
      Seq K 𝓛 (‵ (Y.own_val x vs) ∷ Γ) G
  value_had t x vs on =
      peeks t (param 0 Y) (Is (param 0 Y)) (shows 𝓛 (param 0 Y)) x vs (λ is.
      let one = one_value (layout Y) vs (((param_laws 0 Y laws).lawful 𝓛).typed x vs is) in
      rewrite t 0 (λ (us : List Val). ‵ (Y.own_val x us)) one.1.0 refl $ on one.0 one.1.0 one.1.1)

abbrev pub triple_val : Val → Val → Val → Val
triple_val u v w = vstruct (vcons u (vcons v (vcons w vnil)))

-- three values make a triple
pub triple_made : {M : Type 1} {𝓤 : Ura M} (𝓛 : Logic 𝓤) (A B C : RattleType)
    (x : A.Denot) (y : B.Denot) (z : C.Denot) (u v w : Val) →
    ent 𝓤 (sep 𝓤 (sem 𝓛 (A.own_val x (u ∷ [])))
    (sep 𝓤 (sem 𝓛 (B.own_val y (v ∷ []))) (sem 𝓛 (C.own_val z (w ∷ [])))))
    (sem 𝓛 ((Tuple (A ∷ B ∷ C ∷ [])).own_val (x, y, z) (triple_val u v w ∷ [])))
triple_made 𝓛 A B C x y z u v w =
    let parts = ‵ (A.own_val x (u ∷ [])) ∷ ‵ (B.own_val y (v ∷ [])) ∷ ‵ (C.own_val z (w ∷ []))
    ∷ [] in
    qed 𝓛 parts ∵ nothing ! $ move ! (3 ∷ 0 ∷ []) $ fjoin ! $ move ! (2 ∷ 0 ∷ []) $ fjoin ! $
    move ! (1 ∷ 0 ∷ []) $ fjoin ! $
    feq_i ! (List Val) (triple_val u v w ∷ []) (triple_val u v w ∷ []) refl $ fjoin ! $
    fpack ! (Valss (A ∷ B ∷ C ∷ []))
    (within (Declared.shape (tuple_type (A ∷ B ∷ C ∷ []))) (x, (y, (z, tt)))
    (triple_val u v w ∷ []))
    (u ∷ [], (v ∷ [], (w ∷ [], tt))) $ done !

-- a place that holds a value is one of the row
pub held_inside : {X : Type 0} (slots : List (Option X)) (i : ℕ) (x : X) →
    get_or slots i None ≡ Some x → i < length slots
held_inside [] i x e = cc
held_inside (slot ∷ slots) zero x e = omega arith
held_inside (slot ∷ slots) (suc i) x e = omega (arith, held_inside slots i x e)

-- a row that is not in a block has no place
pub none_there : {M : Type 1} {𝓤 : Ura M} (𝓛 : Logic 𝓤) (n : ℕ) → 1 ≤ n →
    ent 𝓤 (sem 𝓛 (flt n 1)) (never 𝓤)
none_there 𝓛 n le = qed 𝓛 (‵ (flt n 1) ∷ []) ∵ flt_l ! (λ few. absurd (omega (arith, le, few)))

module _ (E : El) {M : Type 1} {𝓤 : Ura M} (𝓛 : Logic 𝓤) (b : ℕ) where
  open 𝓛 use {H}

  abbrev w : ℕ
  w = width E

  abbrev Row : ℕ → List (Slot E) → Fml
  Row = owns_places (R E) b

  -- a value is put into room, and a place with a value is made empty
  pub filled : (x : el_x E) (o : ℕ) (v : Val) →
      ent 𝓤 (sep 𝓤 (H.at full_share (elτ E) b o v) (sem 𝓛 (E.row.own_val x (v ∷ []))))
      (sem 𝓛 (owns_place (R E) b o (Some x)))
  filled x o v = part_in 𝓛 (R E) refl full_share x b o v

  pub emptied : (slot : Slot E) (o : ℕ) →
      ent 𝓤 (sem 𝓛 (owns_place (R E) b o slot)) (sem 𝓛 (owns_place (R E) b o None))
  emptied None o = id⊢ 𝓤 _
  emptied (Some x) o =
      qed 𝓛 (‵ (owns_place (R E) b o (Some x)) ∷ []) ∵
      use1 𝓛 (some (λ (v : Val). ‵ (fat full_share (elτ E) b o v) ⊛ ‵ (E.row.own_val x (v ∷ []))))
      (part_out 𝓛 (R E) refl full_share x b o) $ pick ! (λ v. split ! $ keep ! (0 ∷ []) $
      use1 𝓛 (‵ (froom (elτ E) b o)) (𝓛.laws.at_room (elτ E) b o v) $
      by ! (𝓛.laws.room-raw (elτ E) b o))

  -- two rows of which the second begins where the first ends are one, and the other way round
  parted : (xs ys : List (Slot E)) (o at : ℕ) → at ≡ length xs * w + o →
      ent 𝓤 (sem 𝓛 (Row o (xs ++ ys))) (sep 𝓤 (sem 𝓛 (Row o xs)) (sem 𝓛 (Row at ys)))
  parted [] ys o at e =
      qed 𝓛 (‵ (Row o ys) ∷ []) ∵
      rewrite ! 0 (λ (k : ℕ). ‵ (Row k ys)) {x = at} (omega (arith, zero-mul w)) refl $ nothing ! $
      done !
  parted (x ∷ xs) ys o at e =
      let next : at ≡ suc (length xs) * w + o = e in
      qed 𝓛 (‵ (Row o (x ∷ xs ++ ys)) ∷ []) ∵ fsplit ! $ move ! (1 ∷ []) $
      use1 𝓛 (‵ (Row (o + w) xs) ⊛ ‵ (Row at ys))
      (parted xs ys (o + w) at (omega (arith, suc-mul (length xs) w))) $
      split ! $ move ! (2 ∷ 0 ∷ []) $ fjoin ! $ done !

  joined : (xs ys : List (Slot E)) (o at : ℕ) → at ≡ length xs * w + o →
      ent 𝓤 (sep 𝓤 (sem 𝓛 (Row o xs)) (sem 𝓛 (Row at ys))) (sem 𝓛 (Row o (xs ++ ys)))
  joined [] ys o at e =
      qed 𝓛 (‵ ftrue ∷ ‵ (Row at ys) ∷ []) ∵ skip ! $
      rewrite ! 0 (λ (k : ℕ). ‵ (Row k ys)) {x = o} (omega (arith, zero-mul w)) refl $ done !
  joined (x ∷ xs) ys o at e =
      let next : at ≡ suc (length xs) * w + o = e in
      qed 𝓛 (‵ (Row o (x ∷ xs)) ∷ ‵ (Row at ys) ∷ []) ∵ fsplit ! $ move ! (1 ∷ 2 ∷ []) $
      use2 𝓛 (‵ (Row (o + w) (xs ++ ys)))
      (joined xs ys (o + w) at (omega (arith, suc-mul (length xs) w))) $
      move ! (1 ∷ 0 ∷ []) $ fjoin ! $ done !

  module _ (o : ℕ) (slots : List (Slot E)) (i : ℕ) where
    -- the places of the row but this one
    abbrev pub Others : Fml
    Others = fsep (Row o (take i slots)) (Row (i * w + o + w) (drop (suc i) slots))

    offset : i ≤ length slots → i * w + o ≡ length (take i slots) * w + o
    offset le =
        let long : i ≡ length (take i slots) = omega (arith, length-take i slots) in
        ap (λ k. k * w + o) long

    -- one place is taken out of the row
    pub place_out : i < length slots →
        ent 𝓤 (sem 𝓛 (Row o slots))
        (sep 𝓤 (sem 𝓛 (owns_place (R E) b (i * w + o) (get_or slots i None))) (sem 𝓛 Others))
    place_out lt =
        let rest = get_or slots i None ∷ drop (suc i) slots in
        qed 𝓛 (‵ (Row o slots) ∷ []) ∵
        rewrite ! 0 (λ (l : List (Slot E)). ‵ (Row o l))
        (sym (take-append-drop i slots) ∙ ap (λ l. take i slots ++ l) (drop-cons slots i None lt))
        refl $
        use1 𝓛 (‵ (Row o (take i slots)) ⊛ ‵ (Row (i * w + o) rest))
        (parted (take i slots) rest o (i * w + o) (offset (omega arith))) $
        split ! $ move ! (1 ∷ []) $ fsplit ! $ move ! (2 ∷ 1 ∷ []) $ fjoin ! $ move ! (1 ∷ []) $
        done !

    -- the place comes back into the row with another slot
    pub place_in : i < length slots → (slot : Slot E) →
        ent 𝓤 (sep 𝓤 (sem 𝓛 (owns_place (R E) b (i * w + o) slot)) (sem 𝓛 Others))
        (sem 𝓛 (Row o (set slots i slot)))
    place_in lt slot =
        let rest = slot ∷ drop (suc i) slots in
        qed 𝓛 (‵ (owns_place (R E) b (i * w + o) slot) ∷ ‵ Others ∷ []) ∵ move ! (1 ∷ []) $
        fsplit ! $
        move ! (2 ∷ 1 ∷ []) $ fjoin ! $ move ! (1 ∷ 0 ∷ []) $
        use2 𝓛 (‵ (Row o (take i slots ++ rest)))
        (joined (take i slots) rest o (i * w + o) (offset (omega arith))) $
        rewrite ! 0 (λ (l : List (Slot E)). ‵ (Row o l)) (sym (set_split slots i slot lt)) refl $
        done !

  -- the room of a new block is a row of empty places
  pub row_of_room : (count o : ℕ) →
      ent 𝓤 (H.room (ty_array (elτ E) count) b o) (sem 𝓛 (Row o (replicate count None)))
  row_of_room zero o = qed 𝓛 (‵ (froom (ty_array (elτ E) 0) b o) ∷ []) ∵ keep ! [] $ done !
  row_of_room (suc count) o =
      qed 𝓛 (‵ (froom (ty_array (elτ E) (suc count)) b o) ∷ []) ∵
      use1 𝓛 (‵ (froom (elτ E) b o) ⊛ ‵ (froom (ty_array (elτ E) count) b (o + w)))
      (𝓛.laws.room_uncons (elτ E) count b o) $ split ! $
      use1 𝓛 (‵ (owns_place (R E) b o None)) (𝓛.laws.room-raw (elτ E) b o) $ frame ! $
      by ! (row_of_room count (o + w))

  -- the row, whatever its places hold, is room again
  pub room_of_row : (slots : List (Slot E)) (o : ℕ) →
      ent 𝓤 (sem 𝓛 (Row o slots)) (H.room (ty_array (elτ E) (length slots)) b o)
  room_of_row [] o = 𝓛.laws.room_nil (elτ E) b o
  room_of_row (slot ∷ slots) o =
      qed 𝓛 (‵ (owns_place (R E) b o slot) ∷ ‵ (Row (o + w) slots) ∷ []) ∵
      use1 𝓛 (‵ (owns_place (R E) b o None)) (emptied slot o) $
      use1 𝓛 (‵ (froom (elτ E) b o)) (𝓛.laws.raw-room (elτ E) b o) $ move ! (1 ∷ []) $
      use1 𝓛 (‵ (froom (ty_array (elτ E) (length slots)) b (o + w))) (room_of_row slots (o + w)) $
      move ! (1 ∷ []) $ by ! (𝓛.laws.room_cons (elτ E) (length slots) b o)

  module _ (κ : Lft) where
    abbrev Lent : ℕ → List (Slot E) → Fml
    Lent o slots = lends_places (R E) b o slots κ

    -- a row lends its places from an index on
    lent_from : (slots : List (Slot E)) (i o at : ℕ) → i ≤ length slots → at ≡ i * w + o →
        ent 𝓤 (sem 𝓛 (Lent o slots)) (sem 𝓛 (Lent at (drop i slots)))
    lent_from slots zero o at le e =
        let same : o ≡ at = omega (arith, zero-mul w) in
        subst (λ k. ent 𝓤 (sem 𝓛 (Lent o slots)) (sem 𝓛 (Lent k slots))) same (id⊢ 𝓤 _)
    lent_from [] (suc i) o at le e = absurd (omega arith)
    lent_from (slot ∷ slots) (suc i) o at le e =
        via 𝓤 (sem 𝓛 (Lent (o + w) slots))
        (snd∗ 𝓤 (sem 𝓛 (lends_place (R E) b o slot κ)) (sem 𝓛 (Lent (o + w) slots)))
        (lent_from slots i (o + w) at (omega arith) (omega (arith, suc-mul i w)))

    -- places that hold values lend a slice of them
    lent_values : (xs : List (el_x E)) (behind : List (Slot E)) (o : ℕ) →
        ent 𝓤 (sem 𝓛 (Lent o (map Some xs ++ behind))) (sem 𝓛 (elements_shared (R E) xs b o κ))
    lent_values [] behind o = qed 𝓛 (‵ (Lent o behind) ∷ []) ∵ keep ! [] $ done !
    lent_values (x ∷ xs) behind o =
        mono_r 𝓤 (sem 𝓛 (lends_place (R E) b o (Some x) κ)) (lent_values xs behind (o + w))

    -- what a row lends of one place
    pub place_lent : (o : ℕ) (slots : List (Slot E)) (i : ℕ) → i < length slots →
        ent 𝓤 (sem 𝓛 (Lent o slots))
        (sem 𝓛 (lends_place (R E) b (i * w + o) (get_or slots i None) κ))
    place_lent o slots i lt =
        qed 𝓛 (‵ (Lent o slots) ∷ []) ∵
        use1 𝓛 (‵ (Lent (i * w + o) (drop i slots)))
        (lent_from slots i o (i * w + o) (omega arith) refl) $
        rewrite ! 0 (λ (l : List (Slot E)). ‵ (Lent (i * w + o) l)) (drop-cons slots i None lt) refl
        $
        fsplit ! $ keep ! (0 ∷ []) $ done !

    -- what a row lends of a run of places
    pub run_lent : (o : ℕ) (slots : List (Slot E)) (i n : ℕ) (xs : List (el_x E)) →
        i ≤ length slots →
        take n (drop i slots) ≡ map Some xs →
        ent 𝓤 (sem 𝓛 (Lent o slots)) (sem 𝓛 (elements_shared (R E) xs b (i * w + o) κ))
    run_lent o slots i n xs le e =
        let behind = drop n (drop i slots) in
        qed 𝓛 (‵ (Lent o slots) ∷ []) ∵
        use1 𝓛 (‵ (Lent (i * w + o) (drop i slots))) (lent_from slots i o (i * w + o) le refl) $
        rewrite ! 0 (λ (l : List (Slot E)). ‵ (Lent (i * w + o) l))
        (sym (take-append-drop n (drop i slots)) ∙ ap (λ l. l ++ behind) e) refl $
        by ! (lent_values xs behind (i * w + o))
