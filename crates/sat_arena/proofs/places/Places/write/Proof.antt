-- `write` takes the place out of the row, empties it, puts the value there, and gives it back.
use Rattle.sat_arena.proofs.Steps.{◌≡◌, refl, sym, subst, ◌∙◌, ℕ, ◌+◌, ◌*◌, ◌<◌, ◌^◌, arith, List, [], ◌∷◌, ◌++◌, length, set, get_or, length-set, Ura, full_share, SProp, ent, Lft, GName, Share, ftrue, fat, flft, fobs, fbor, Fn, named, w64, inst_fn, Val, vptr, vint, vunit, Env, Calls, Loops, Tables, WpFn, Logic, Borrowed, fact, WpFn-mono, Item, ⋆, ‵, ◌⊛◌, at_ret, ◌$◌, ◌∵◌, !, qed, by, move, keep, use1, use2, split, join, rewrite, fsplit, fsplit3, fjoin, fjoin3, feq_i, feq_l, flt_i, flt_l, suffices, frame, done, whole, sub, init, stop, fld, unit_lit, of_opd, bin, assigns_last, first, blocks, exec, returns, enter, size_lit, alloc_all, pass_all, free_all, look_at, get, get_in, through, sets, take_at, give_at, env, yes, no, owns, mem, layout, Ptr, in_a_block, MutBor, MutRef, RefMutOf, unit, usize, plain, nothing, opens, closes, spared, Clauses, Ended, closing, on_entry, Meets, triple_of, entered, run_framed, says, needs, Stays, stay_dropped, stay_ref, walk_of, ends_at, Goes-dropped, Goes-ref, walk_Meets, Some, None, El, R, args, elτ, times_below, one_below, after, Good, word, word-Good, as_written}
use contract.Running.{tables, tables_of}
use Rattle.sat_arena.specs.Ownership.{owns_place, owns_places, owns_row}
use Rattle.sat_arena.proofs.RowMemory.{none_there, PlacesType, StartType, width, pointer_had, value_had, filled, emptied, Others, place_out, place_in}
use Rattle.sat_arena.specs.contracts.places.Places.write.Key.{name as key}
use Rattle.sat_arena.proofs.places.Places.write.Statement as stated
use Rattle.sat_arena.proofs.places.Places.write.Code as code

module _ (E : El) where
  abbrev function : Fn
  function = inst_fn (args E) code.function

  abbrev ended : Ended
  ended = record {
    signature = record {
      lifetimes = 1;
      outlives = [];
      params =
          RefMutOf (0 ∷ []) tt (plain (λ _. PlacesType E)) (λ _. tt) ∷ plain (λ _. StartType E)
          ∷ plain (λ _. usize) ∷ plain (λ _. R E) ∷ [];
      result = plain (λ _. unit);
    };
    kept = (yes, (no, (no, (no, tt))));
  }

  abbrev stayed : Stays ended.signature.params ended.kept
  stayed = (
    stay_ref (0 ∷ []) tt (plain (λ _. PlacesType E)),
    (
      stay_dropped (plain (λ _. StartType E)) no,
      (stay_dropped (plain (λ _. usize)) no, (stay_dropped (plain (λ _. R E)) no, tt)),
    ),
  )

  -- the row begins where the pointer points, and has the place
  abbrev Asks : (PlacesType E).Denot → (StartType E).Denot → ℕ → Type 0
  Asks places start index = (start.address ≡ places.start) × (index < length places.slots)

  -- the place holds the value then
  abbrev Gives : (PlacesType E).Denot → ℕ → (R E).Denot → (PlacesType E).Denot → Type 0
  Gives places index value new =
      (new.start ≡ places.start) × (new.slots ≡ set places.slots index (Some value))

  abbrev spec : {M : Type 1} {𝓤 : Ura M} (𝓛 : Logic 𝓤) → Clauses 𝓤 ended
  spec {𝓤 = 𝓤} 𝓛 κs a = record {
    ghost = Unit {0};
    requires = λ _. fact 𝓤 (Asks a.0.now a.1.0 a.1.1.0);
    ensures = λ _ r ends. fact 𝓤 (Gives a.0.now a.1.1.0 a.1.1.1.0 ends.0.now);
  }

module _ (E : El) {M : Type 1} {𝓤 : Ura M} (𝓛 : Logic 𝓤) (C : Calls 𝓤 𝓛.H) (Λ : Loops 𝓤 𝓛.H)
    (κ : Lft)
    (q : Share) (rb ro : ℕ) (γ : GName) (places : (PlacesType E).Denot)
    (start : (StartType E).Denot)
    (index : ℕ) (value : (R E).Denot) (us0 us1 us2 us3 : List Val) where
  open 𝓛 use {H}

  abbrev self : MutBor (PlacesType E).Denot
  self = record { ref_ptr = (rb, ro); ghost_name = γ; now = places }

  abbrev bound : (walk_of 𝓛 (ended E) (stayed E) (spec E 𝓛)).Ghost
  bound = (
    (
      (κ, tt),
      (q, tt),
      tt,
      (self, (start, (index, (value, tt)))),
      (us0, (us1, (us2, (us3, tt)))),
    ),
    tt,
  )

  abbrev Post : Val → SProp 𝓤
  Post = (walk_of 𝓛 (ended E) (stayed E) (spec E 𝓛)).post bound

  -- the reference whose places are these, and what else the function has at its end
  abbrev Left : (PlacesType E).Denot → List (Item 𝓤)
  Left new =
      ‵ (fobs γ ((PlacesType E).coded.code new))
      ∷ ‵ (fbor κ (Borrowed (mem (PlacesType E)) rb ro γ))
      ∷ ‵ (flft κ q) ∷ ‵ (unit.own_val tt (vunit ∷ [])) ∷ []

  exits : us0 ≡ vptr rb ro ∷ [] → (new : (PlacesType E).Denot) → Gives E places index value new →
      ent 𝓤 (⋆ 𝓛 (Left new)) (Post vunit)
  exits passed new given =
      qed 𝓛 (Left new) ∵
      suffices ! _ (ends_at 𝓛 (ended E) (stayed E) (spec E 𝓛) bound vunit tt
      (new, (tt, (tt, (tt, tt)))) (tt, (tt, (tt, (tt, tt))))) $ says ! given $
      nothing ! $ move ! (3 ∷ 0 ∷ []) $ join ! $ frame ! $
      feq_i ! (List Val) us0 (vptr rb ro ∷ []) passed $ fjoin3 ! $ nothing ! $ nothing ! $ fjoin ! $
      nothing ! $ fjoin ! $ nothing ! $ fjoin ! $ move ! (1 ∷ 0 ∷ []) $ fjoin ! $ done !

  abbrev Had : Val → List (Item 𝓤)
  Had v =
      ‵ (fobs γ ((PlacesType E).coded.code places))
      ∷ ‵ (fbor κ (Borrowed (mem (PlacesType E)) rb ro γ))
      ∷ ‵ (flft κ q) ∷ ‵ ((R E).own_val value (v ∷ [])) ∷ []

  walk : us0 ≡ vptr rb ro ∷ [] → Asks E places start index → index < 2 ^ 64 → (v : Val) →
      Good (layout (R E)) v →
      ent 𝓤 (⋆ 𝓛 (Had v))
      (WpFn 𝓤 H C Λ (function E) (vptr rb ro ∷ word start.address ∷ vint w64 index ∷ v ∷ []) Post)
  walk passed asked fits v good =
      let inside = asked.1 in let slots = places.slots in
      let after_it = set slots index (Some value) in
      let new : (PlacesType E).Denot =
      record { owner = places.owner; start = places.start; slots = after_it } in
      let w = width E in
      qed 𝓛 (Had v) ∵
      enter ! C Λ (function E) (vptr rb ro ∷ word start.address ∷ vint w64 index ∷ v ∷ []) _ $
      alloc_all ! (λ l. pass_all ! refl
      ((tt, tt), (word-Good [] start.address, ((tt, record { fits = fits }), (good, tt)))) $
      let locals : Env 𝓤 H = env (function E).locals l in
      opens ! tt (PlacesType E) {h = places} rb ro
      (λ vs. move ! (1 ∷ []) $ fsplit ! $ move ! (1 ∷ []) $
      in_a_block ! places.start (λ p. owns_row (R E) p slots)
      (none_there 𝓛 (length slots) (omega (arith, inside))) (λ b o e.
      fsplit ! $ flt_l ! (λ small.
      let tiny : w < 2 ^ 64 =
      omega (arith, one_below (length slots) w (2 ^ 63) (omega arith) small) in
      let far : index * w < 2 ^ 64 =
      omega (arith, times_below index (length slots) w (2 ^ 63) (omega arith) small) in
      let Here = owns_place (R E) b (index * w + o) in
      take_at ! 2 $
      rewrite ! 0 (λ (p : Ptr). ‵ (fat full_share (layout (StartType E)) (l 2) 0 (word p)))
      (asked.0 ∙ e) refl $ give_at ! 2 $ first ! $ blocks ! $
      sets ! (bin ! (get ! refl) (size_lit ! (record { fits = tiny })) (record { fits = far })) refl
      (tt, record { fits = far }) $
      sets ! (bin ! (get_in ! (fld ! refl (stop !)) (sub ! 0 refl (whole !))) (get ! refl) tt) refl
      (tt, tt) $
      use1 𝓛 (‵ (Here (get_or slots index None)) ⊛ ‵ (Others E 𝓛 b o slots index))
      (place_out E 𝓛 b o slots index inside) $ split ! $
      use1 𝓛 (‵ (Here None)) (emptied E 𝓛 b (get_or slots index None) (index * w + o)) $
      as_written ! (elτ E) b (index * w + o) $
      -- [the room; the other places; the owner; its cell; the borrow, in three entries; the value]
      sets ! (of_opd ! (get ! refl)) refl good $
      assigns_last ! (of_opd ! (get ! refl)) (through ! refl (stop !)) (init ! 0 refl good) $
      exec ! C Λ locals (after 1 (function E).body) (at_ret locals Post) $
      sets ! (of_opd ! (unit_lit !)) refl (tt, tt) $ move ! (0 ∷ 7 ∷ []) $
      use2 𝓛 (‵ (Here (Some value))) (filled E 𝓛 b value (index * w + o) v) $
      use2 𝓛 (‵ (owns_places (R E) b o after_it)) (place_in E 𝓛 b o slots index inside (Some value))
      $
      flt_i ! (length after_it * w) (2 ^ 63)
      (subst (λ k. k * w < 2 ^ 63) (sym (length-set slots index (Some value))) small) $ fjoin ! $
      rewrite ! 0 (λ (p : Ptr). ‵ (owns_row (R E) p after_it)) (sym e) refl $
      move ! (1 ∷ 0 ∷ []) $ fjoin ! $ move ! (1 ∷ 0 ∷ []) $
      closes ! tt (PlacesType E) new vs rb ro $
      returns ! (look_at ! 0 refl) $ free_all ! refl $ keep ! (0 ∷ 1 ∷ 2 ∷ []) $
      feq_i ! (List Val) (vunit ∷ []) (vunit ∷ []) refl $ move ! (1 ∷ 2 ∷ 3 ∷ 0 ∷ []) $
      by ! (exits passed new (refl, refl))))))

  entry : Asks E places start index →
      ent 𝓤 (on_entry 𝓛 (ended E).signature (κ, tt) (q, tt) (self, (start, (index, (value, tt))))
      (us0, (us1, (us2, (us3, tt)))))
      (WpFn 𝓤 H C Λ (function E) (us0 ++ (us1 ++ (us2 ++ (us3 ++ [])))) Post)
  entry asked =
      let types = MutRef (named 0) κ (PlacesType E) ∷ StartType E ∷ usize ∷ R E ∷ [] in
      qed 𝓛 ((‵ (flft κ q) ⊛ ‵ ftrue)
      ∷ ‵ (owns types (self, (start, (index, (value, tt)))) (us0, (us1, (us2, (us3, tt))))) ∷ []) ∵
      split ! $ move ! (2 ∷ []) $ fsplit ! $ fsplit3 ! $ feq_l ! (λ e0. move ! (2 ∷ []) $ fsplit ! $
      pointer_had ! start.address us1 (λ e1. fsplit ! $ fsplit ! $ feq_l ! (λ e2. flt_l ! (λ fits.
      fsplit ! $ value_had E.row E.laws ! value us3 (λ v e3 good. keep ! (2 ∷ 3 ∷ 4 ∷ 0 ∷ []) $
      by ! (subst (λ (us : List Val × List Val × List Val × List Val).
      ent 𝓤 (⋆ 𝓛 (Had v)) (WpFn 𝓤 H C Λ (function E) (us.0 ++ (us.1 ++ (us.2 ++ (us.3 ++ []))))
      Post))
      (λ j. (sym e0 j, sym e1 j, sym e2 j, sym e3 j)) (walk e0 asked fits v good)))))))

meets : (E : El) {M : Type 1} {𝓤 : Ura M} (𝓛 : Logic 𝓤) (𝓣 : Tables 𝓤 𝓛.H) →
    Meets 𝓛 (ended E).signature (WpFn 𝓤 𝓛.H 𝓣.C 𝓣.Λ (function E)) (closing 𝓛 (ended E) (spec E 𝓛))
meets E {𝓤 = 𝓤} 𝓛 𝓣 =
    walk_Meets 𝓛 (ended E) (stayed E) (
      Goes-ref 𝓛 1 0 tt (plain (λ _. PlacesType E)),
      (
        Goes-dropped 𝓛 1 (plain (λ _. StartType E)) no (λ κs x f. refl),
        (
          Goes-dropped 𝓛 1 (plain (λ _. usize)) no (λ κs x f. refl),
          (Goes-dropped 𝓛 1 (plain (λ _. R E)) no (λ κs x f. refl), tt),
        ),
      ),
    )
    (spec E 𝓛) (WpFn 𝓤 𝓛.H 𝓣.C 𝓣.Λ (function E)) (WpFn-mono 𝓤 𝓛.H 𝓛.laws 𝓣 (function E))
    (λ z. let a = z.0.3 in let vs = z.0.4 in
    needs 𝓤 (Asks E a.0.now a.1.0 a.1.1.0) _
    (entry E 𝓛 𝓣.C 𝓣.Λ z.0.0.0 z.0.1.0 a.0.ref_ptr.0 a.0.ref_ptr.1 a.0.ghost_name a.0.now a.1.0
    a.1.1.0
    a.1.1.1.0 vs.0 vs.1.0 vs.1.1.0 vs.1.1.1.0))

pub write_spec : {M : Type 1} → stated.statement M
unfolding tables_of
write_spec 𝓤 𝓛 𝓜 𝓡 wired X laws y =
    let E : El = record { row = X; laws = laws } in
    let 𝓣 : Tables 𝓤 𝓛.H = tables_of 𝓤 𝓛.H 𝓜 (tables 𝓤 𝓛.H 𝓜 𝓡 𝓡.env) in
    let k = key (args E) in let told = closing 𝓛 (ended E) (spec E 𝓛) in
    spared 𝓛 (ended E).signature (𝓡.run (𝓡.env k)) (run_framed 𝓤 𝓛.H 𝓜 𝓡 (𝓡.env k)) 1 (X.lives, tt)
    told
    (entered 𝓤 𝓛.H (triple_of 𝓛 (ended E).signature told) 𝓣.C 𝓣.Λ k (function E)
    (code.unfolded 𝓤 𝓛.H 𝓜 𝓡 wired (X, tt)) (meets E 𝓛 𝓣))
    ((y.0.0, y.0.1, tt, y.0.3, y.0.4), y.1)
