-- `get` lends what the row lends of one place.
use Rattle.sat_arena.proofs.Steps.{◌≡◌, refl, sym, subst, ◌∙◌, ℕ, ◌+◌, ◌*◌, ◌<◌, ◌^◌, arith, List, [], ◌∷◌, ◌++◌, length, get_or, Ura, full_share, SProp, ent, Lft, Share, ftrue, fat, flft, Fn, named, w64, inst_fn, Val, vptr, vint, Env, Calls, Loops, Tables, WpFn, Logic, fact, WpFn-mono, Item, ⋆, ‵, ◌⊛◌, at_ret, ◌$◌, ◌∵◌, !, qed, by, move, keep, drop, use1, split, join, rewrite, fsplit, fjoin, feq_i, feq_l, flt_l, suffices, frame, done, whole, sub, stop, fld, of_opd, addr, bin, first, blocks, exec, returns, enter, size_lit, alloc_all, pass_all, free_all, look_at, get, get_in, through, sets, sets_last, take_at, give_at, env, yes, no, owns, hidden_shr, layout, Ptr, in_a_block, Bor, ShrRef, RefOf, usize, plain, hide, unhide, nothing, spared, Clauses, Ended, closing, on_entry, Meets, triple_of, entered, run_framed, says, needs, Stays, stay_dropped, walk_of, ends_at, Goes-dropped, walk_Meets, Some, None, El, R, args, el_x, times_below, one_below, after, word, word-Good}
use contract.Running.{tables, tables_of}
use Rattle.sat_arena.specs.Places.{IsHeld}
use Rattle.sat_arena.specs.Ownership.{lends_place, lends_row}
use Rattle.sat_arena.proofs.RowMemory.{none_there, PlacesType, StartType, width, Slot, pointer_had, held_inside, place_lent}
use Rattle.sat_arena.specs.contracts.places.Places.get.Key.{name as key}
use Rattle.sat_arena.proofs.places.Places.get.Statement as stated
use Rattle.sat_arena.proofs.places.Places.get.Code as code

module _ (E : El) where
  abbrev function : Fn
  function = inst_fn (args E) code.function

  abbrev ended : Ended
  ended = record {
    signature = record {
      lifetimes = 1;
      outlives = [];
      params =
          RefOf (0 ∷ []) tt (plain (λ _. PlacesType E)) (λ _. tt) ∷ plain (λ _. StartType E)
          ∷ plain (λ _. usize) ∷ [];
      result = RefOf (0 ∷ []) tt (plain (λ _. R E)) (λ _. tt);
    };
    kept = (yes, (no, (no, tt)));
  }

  abbrev stayed : Stays ended.signature.params ended.kept
  stayed = (
    stay_dropped (RefOf (0 ∷ []) tt (plain (λ _. PlacesType E)) (λ _. tt)) yes,
    (stay_dropped (plain (λ _. StartType E)) no, (stay_dropped (plain (λ _. usize)) no, tt)),
  )

  -- the row begins where the pointer points, and the place holds a value
  abbrev Asks : (PlacesType E).Denot → (StartType E).Denot → ℕ → Type 0
  Asks places start index = (start.address ≡ places.start) × IsHeld places.slots index

  -- the reference is to that value
  abbrev Gives : (PlacesType E).Denot → ℕ → Bor (el_x E) → Type 0
  Gives places index r = get_or places.slots index None ≡ Some r.now

  abbrev spec : {M : Type 1} {𝓤 : Ura M} (𝓛 : Logic 𝓤) → Clauses 𝓤 ended
  spec {𝓤 = 𝓤} 𝓛 κs a = record {
    ghost = Unit {0};
    requires = λ _. fact 𝓤 (Asks a.0.now a.1.0 a.1.1.0);
    ensures = λ _ r ends. fact 𝓤 (Gives a.0.now a.1.1.0 r);
  }

module _ (E : El) {M : Type 1} {𝓤 : Ura M} (𝓛 : Logic 𝓤) (C : Calls 𝓤 𝓛.H) (Λ : Loops 𝓤 𝓛.H)
    (κ : Lft)
    (q : Share) (rb ro : ℕ) (places : (PlacesType E).Denot) (start : (StartType E).Denot)
    (index : ℕ)
    (us0 us1 us2 : List Val) where
  open 𝓛 use {H}

  abbrev self : Bor (PlacesType E).Denot
  self = record { ref_ptr = (rb, ro); now = places }

  abbrev bound : (walk_of 𝓛 (ended E) (stayed E) (spec E 𝓛)).Ghost
  bound = (((κ, tt), (q, tt), tt, (self, (start, (index, tt))), (us0, (us1, (us2, tt)))), tt)

  abbrev Post : Val → SProp 𝓤
  Post = (walk_of 𝓛 (ended E) (stayed E) (spec E 𝓛)).post bound

  -- the time for which the places are lent, and the reference to the value
  abbrev Left : Bor (el_x E) → Val → List (Item 𝓤)
  Left r v = ‵ (flft κ q) ∷ ‵ ((ShrRef (named 0) κ (R E)).own_val r (v ∷ [])) ∷ []

  exits : (r : Bor (el_x E)) (v : Val) → Gives E places index r → ent 𝓤 (⋆ 𝓛 (Left r v)) (Post v)
  exits r v given =
      qed 𝓛 (Left r v) ∵
      suffices ! _ (ends_at 𝓛 (ended E) (stayed E) (spec E 𝓛) bound v r (tt, (tt, (tt, tt)))
      (tt, (tt, (tt, tt)))) $
      says ! given $ nothing ! $ move ! (1 ∷ 0 ∷ []) $ join ! $ frame ! $ nothing ! $
      nothing ! $ fjoin ! $ nothing ! $ fjoin ! $ nothing ! $ fjoin ! $ done !

  abbrev Had : List (Item 𝓤)
  Had = ‵ (hidden_shr (PlacesType E) κ places rb ro) ∷ ‵ (flft κ q) ∷ []

  walk : Asks E places start index → index < 2 ^ 64 →
      ent 𝓤 (⋆ 𝓛 Had)
      (WpFn 𝓤 H C Λ (function E) (vptr rb ro ∷ word start.address ∷ vint w64 index ∷ []) Post)
  walk asked fits =
      let slots = places.slots in let x = asked.1.0 in let w = width E in
      let inside = held_inside slots index x asked.1.1 in
      qed 𝓛 Had ∵ enter ! C Λ (function E) (vptr rb ro ∷ word start.address ∷ vint w64 index ∷ []) _
      $
      alloc_all ! (λ l. pass_all ! refl
      ((tt, tt), (word-Good [] start.address, ((tt, record { fits = fits }), tt))) $
      let locals : Env 𝓤 H = env (function E).locals l in
      unhide ! $ fsplit ! $ drop ! $
      in_a_block ! places.start (λ p. lends_row (R E) p slots κ)
      (none_there 𝓛 (length slots) (omega (arith, inside))) (λ b o e.
      fsplit ! $ flt_l ! (λ small.
      let tiny : w < 2 ^ 64 =
      omega (arith, one_below (length slots) w (2 ^ 63) (omega arith) small) in
      let far : index * w < 2 ^ 64 =
      omega (arith, times_below index (length slots) w (2 ^ 63) (omega arith) small) in
      let at = index * w + o in
      take_at ! 2 $
      rewrite ! 0 (λ (p : Ptr). ‵ (fat full_share (layout (StartType E)) (l 2) 0 (word p)))
      (asked.0 ∙ e) refl $ give_at ! 2 $ first ! $ blocks ! $
      sets ! (bin ! (get ! refl) (size_lit ! (record { fits = tiny })) (record { fits = far })) refl
      (tt, record { fits = far }) $
      sets ! (bin ! (get_in ! (fld ! refl (stop !)) (sub ! 0 refl (whole !))) (get ! refl) tt) refl
      (tt, tt) $
      use1 𝓛 (‵ (lends_place (R E) b at (get_or slots index None) κ))
      (place_lent E 𝓛 b κ o slots index inside) $
      rewrite ! 0 (λ (slot : Slot E). ‵ (lends_place (R E) b at slot κ)) asked.1.1 refl $ hide ! $
      sets_last ! (addr ! (through ! refl (stop !))) refl (tt, tt) $
      exec ! C Λ locals (after 1 (function E).body) (at_ret locals Post) $
      sets ! (of_opd ! (get ! refl)) refl (tt, tt) $
      feq_i ! (List Val) (vptr b at ∷ []) (vptr b at ∷ []) refl $ fjoin ! $
      returns ! (look_at ! 0 refl) $ free_all ! refl $ keep ! (1 ∷ 0 ∷ []) $
      by ! (exits (record { ref_ptr = (b, at); now = x }) (vptr b at) asked.1.1))))

  entry : Asks E places start index →
      ent 𝓤 (on_entry 𝓛 (ended E).signature (κ, tt) (q, tt) (self, (start, (index, tt)))
      (us0, (us1, (us2, tt))))
      (WpFn 𝓤 H C Λ (function E) (us0 ++ (us1 ++ (us2 ++ []))) Post)
  entry asked =
      let types = ShrRef (named 0) κ (PlacesType E) ∷ StartType E ∷ usize ∷ [] in
      qed 𝓛 ((‵ (flft κ q) ⊛ ‵ ftrue)
      ∷ ‵ (owns types (self, (start, (index, tt))) (us0, (us1, (us2, tt)))) ∷ []) ∵
      split ! $ move ! (2 ∷ []) $ fsplit ! $ fsplit ! $ feq_l ! (λ e0. move ! (1 ∷ []) $ fsplit ! $
      pointer_had ! start.address us1 (λ e1. fsplit ! $ fsplit ! $ feq_l ! (λ e2. flt_l ! (λ fits.
      keep ! (1 ∷ 2 ∷ []) $
      by ! (subst (λ (us : List Val × List Val × List Val).
      ent 𝓤 (⋆ 𝓛 Had) (WpFn 𝓤 H C Λ (function E) (us.0 ++ (us.1 ++ (us.2 ++ []))) Post))
      (λ j. (sym e0 j, sym e1 j, sym e2 j)) (walk asked fits))))))

meets : (E : El) {M : Type 1} {𝓤 : Ura M} (𝓛 : Logic 𝓤) (𝓣 : Tables 𝓤 𝓛.H) →
    Meets 𝓛 (ended E).signature (WpFn 𝓤 𝓛.H 𝓣.C 𝓣.Λ (function E)) (closing 𝓛 (ended E) (spec E 𝓛))
meets E {𝓤 = 𝓤} 𝓛 𝓣 =
    walk_Meets 𝓛 (ended E) (stayed E) (
      Goes-dropped 𝓛 1 (RefOf (0 ∷ []) tt (plain (λ _. PlacesType E)) (λ _. tt)) yes
          (λ κs x f. refl),
      (
        Goes-dropped 𝓛 1 (plain (λ _. StartType E)) no (λ κs x f. refl),
        (Goes-dropped 𝓛 1 (plain (λ _. usize)) no (λ κs x f. refl), tt),
      ),
    )
    (spec E 𝓛) (WpFn 𝓤 𝓛.H 𝓣.C 𝓣.Λ (function E)) (WpFn-mono 𝓤 𝓛.H 𝓛.laws 𝓣 (function E))
    (λ z. let a = z.0.3 in let vs = z.0.4 in
    needs 𝓤 (Asks E a.0.now a.1.0 a.1.1.0) _
    (entry E 𝓛 𝓣.C 𝓣.Λ z.0.0.0 z.0.1.0 a.0.ref_ptr.0 a.0.ref_ptr.1 a.0.now a.1.0 a.1.1.0 vs.0 vs.1.0
    vs.1.1.0))

pub get_spec : {M : Type 1} → stated.statement M
unfolding tables_of
get_spec 𝓤 𝓛 𝓜 𝓡 wired X laws y =
    let E : El = record { row = X; laws = laws } in
    let 𝓣 : Tables 𝓤 𝓛.H = tables_of 𝓤 𝓛.H 𝓜 (tables 𝓤 𝓛.H 𝓜 𝓡 𝓡.env) in
    let k = key (args E) in let told = closing 𝓛 (ended E) (spec E 𝓛) in
    spared 𝓛 (ended E).signature (𝓡.run (𝓡.env k)) (run_framed 𝓤 𝓛.H 𝓜 𝓡 (𝓡.env k)) 1 (X.lives, tt)
    told
    (entered 𝓤 𝓛.H (triple_of 𝓛 (ended E).signature told) 𝓣.C 𝓣.Λ k (function E)
    (code.unfolded 𝓤 𝓛.H 𝓜 𝓡 wired (X, tt)) (meets E 𝓛 𝓣))
    ((y.0.0, y.0.1, tt, y.0.3, y.0.4), y.1)
