-- `slice` lends what the row lends of a run of places.
use Rattle.sat_arena.proofs.Steps.{◌≡◌, refl, sym, ap, subst, ◌∙◌, ℕ, ◌+◌, ◌*◌, ◌<◌, ◌^◌, arith, List, [], ◌∷◌, ◌++◌, map, length, take, length-take, length-drop, Ura, full_share, SProp, ent, Lft, Share, ftrue, fat, flft, Fn, named, w64, inst_fn, Val, vptr, vint, Env, Calls, Loops, Tables, WpFn, Logic, fact, WpFn-mono, Item, ⋆, ‵, ◌⊛◌, at_ret, ◌$◌, ◌∵◌, !, qed, by, move, keep, drop, use1, split, join, rewrite, fsplit, fjoin, feq_i, feq_l, flt_i, flt_l, suffices, frame, done, whole, sub, agg, stop, fld, of_opd, bin, and_then, no_more, first, blocks, exec, returns, enter, size_word, alloc_all, pass_all, free_all, look_at, get, get_in, sets, sets_last, take_at, give_at, is, env, yes, no, owns, hidden_shr, layout, Ptr, in_a_block, Bor, ShrRef, ShrSlice, slice_val, elements_shared, RefOf, SliceRefOf, usize, plain, hide, unhide, nothing, spared, Clauses, Ended, closing, on_entry, Meets, triple_of, entered, run_framed, says, needs, Stays, stay_dropped, walk_of, ends_at, Goes-dropped, walk_Meets, Some, El, R, args, el_x, times_below, uncapped, after, word, word-Good}
use lib.ListN.{drop as drop_first}
use Prim.Native.Nat.{◌≤◌}
use contract.Running.{tables, tables_of}
use Rattle.std.proofs.lemmas.List.{length-map}
use Rattle.sat_arena.specs.Places.{IsRun}
use Rattle.sat_arena.specs.Ownership.{lends_row}
use Rattle.sat_arena.proofs.RowMemory.{none_there, PlacesType, StartType, width, pointer_had, run_lent}
use Rattle.sat_arena.specs.contracts.places.Places.slice.Key.{name as key}
use Rattle.sat_arena.proofs.places.Places.slice.Statement as stated
use Rattle.sat_arena.proofs.places.Places.slice.Code as code

module _ (E : El) where
  abbrev function : Fn
  function = inst_fn (args E) code.function

  abbrev ended : Ended
  ended = record {
    signature = record {
      lifetimes = 1;
      outlives = [];
      params =
          RefOf (0 ∷ []) tt (plain (λ _. PlacesType E)) (λ _. tt) ∷ plain (λ _. StartType E)
          ∷ plain (λ _. usize) ∷ plain (λ _. usize) ∷ [];
      result = SliceRefOf (0 ∷ []) tt (plain (λ _. R E)) (λ _. tt);
    };
    kept = (yes, (no, (no, (no, tt))));
  }

  abbrev stayed : Stays ended.signature.params ended.kept
  stayed = (
    stay_dropped (RefOf (0 ∷ []) tt (plain (λ _. PlacesType E)) (λ _. tt)) yes,
    (
      stay_dropped (plain (λ _. StartType E)) no,
      (stay_dropped (plain (λ _. usize)) no, (stay_dropped (plain (λ _. usize)) no, tt)),
    ),
  )

  -- the row begins where the pointer points, and the places of the run hold values
  abbrev Asks : (PlacesType E).Denot → (StartType E).Denot → (from len : ℕ) → Type 0
  Asks places start from len =
      (start.address ≡ places.start) × (1 ≤ length places.slots) × IsRun places.slots from len

  -- the slice is of those values
  abbrev Gives : (PlacesType E).Denot → (from len : ℕ) → Bor (List (el_x E)) → Type 0
  Gives places from len r = take len (drop_first from places.slots) ≡ map Some r.now

  abbrev spec : {M : Type 1} {𝓤 : Ura M} (𝓛 : Logic 𝓤) → Clauses 𝓤 ended
  spec {𝓤 = 𝓤} 𝓛 κs a = record {
    ghost = Unit {0};
    requires = λ _. fact 𝓤 (Asks a.0.now a.1.0 a.1.1.0 a.1.1.1.0);
    ensures = λ _ r ends. fact 𝓤 (Gives a.0.now a.1.1.0 a.1.1.1.0 r);
  }

module _ (E : El) {M : Type 1} {𝓤 : Ura M} (𝓛 : Logic 𝓤) (C : Calls 𝓤 𝓛.H) (Λ : Loops 𝓤 𝓛.H)
    (κ : Lft)
    (q : Share) (rb ro : ℕ) (places : (PlacesType E).Denot) (start : (StartType E).Denot)
    (from len : ℕ)
    (us0 us1 us2 us3 : List Val) where
  open 𝓛 use {H}

  abbrev self : Bor (PlacesType E).Denot
  self = record { ref_ptr = (rb, ro); now = places }

  abbrev bound : (walk_of 𝓛 (ended E) (stayed E) (spec E 𝓛)).Ghost
  bound = (
    ((κ, tt), (q, tt), tt, (self, (start, (from, (len, tt)))), (us0, (us1, (us2, (us3, tt))))),
    tt,
  )

  abbrev Post : Val → SProp 𝓤
  Post = (walk_of 𝓛 (ended E) (stayed E) (spec E 𝓛)).post bound

  -- the time for which the places are lent, and the slice
  abbrev Left : Bor (List (el_x E)) → Val → List (Item 𝓤)
  Left r v = ‵ (flft κ q) ∷ ‵ ((ShrSlice (named 0) κ (R E)).own_val r (v ∷ [])) ∷ []

  exits : (r : Bor (List (el_x E))) (v : Val) → Gives E places from len r →
      ent 𝓤 (⋆ 𝓛 (Left r v)) (Post v)
  exits r v given =
      qed 𝓛 (Left r v) ∵
      suffices ! _ (ends_at 𝓛 (ended E) (stayed E) (spec E 𝓛) bound v r
      (tt, (tt, (tt, (tt, tt)))) (tt, (tt, (tt, (tt, tt))))) $ says ! given $
      nothing ! $ move ! (1 ∷ 0 ∷ []) $ join ! $ frame ! $ nothing ! $ nothing ! $ fjoin ! $
      nothing ! $ fjoin ! $ nothing ! $ fjoin ! $ nothing ! $ fjoin ! $ done !

  abbrev Had : List (Item 𝓤)
  Had = ‵ (hidden_shr (PlacesType E) κ places rb ro) ∷ ‵ (flft κ q) ∷ []

  abbrev Passed : List Val
  Passed = vptr rb ro ∷ word start.address ∷ vint w64 from ∷ vint w64 len ∷ []

  walk : Asks E places start from len → from < 2 ^ 64 → len < 2 ^ 64 →
      ent 𝓤 (⋆ 𝓛 Had) (WpFn 𝓤 H C Λ (function E) Passed Post)
  walk asked fits_from fits_len =
      let slots = places.slots in let inside = asked.2.0 in let w = width E in
      let xs = asked.2.1.0 in let held = asked.2.1.1 in
      let count : length xs ≡ len =
      omega (
        arith,
        ap length held,
        length-map xs Some,
        length-take len (drop_first from slots),
        length-drop from slots,
      ) in
      qed 𝓛 Had ∵ enter ! C Λ (function E) Passed _ $
      alloc_all ! (λ l. pass_all ! refl (
        (tt, tt),
        (
          word-Good [] start.address,
          ((tt, record { fits = fits_from }), ((tt, record { fits = fits_len }), tt)),
        ),
      ) $
      let locals : Env 𝓤 H = env (function E).locals l in
      unhide ! $ fsplit ! $ drop ! $
      in_a_block ! places.start (λ p. lends_row (R E) p slots κ)
      (none_there 𝓛 (length slots) asked.1) (λ b o e.
      fsplit ! $ flt_l ! (λ small.
      let far : from * w < 2 ^ 64 =
      omega (arith, times_below from (length slots) w (2 ^ 63) (omega arith) small) in
      take_at ! 2 $
      rewrite ! 0 (λ (p : Ptr). ‵ (fat full_share (layout (StartType E)) (l 2) 0 (word p)))
      (asked.0 ∙ e) refl $ give_at ! 2 $ first ! $ blocks ! $
      sets ! (is ! (bin ! (get ! refl) (size_word !)
      (record { fits = subst (λ (k : ℕ). k < 2 ^ 64) (sym (uncapped from w far)) far }))
      (ap (vint w64) (uncapped from w far))) refl (tt, record { fits = far }) $
      sets ! (bin ! (get_in ! (fld ! refl (stop !)) (sub ! 0 refl (whole !))) (get ! refl) tt) refl
      (tt, tt) $
      let at : ℕ × ℕ = (b, from * w + o) in
      use1 𝓛 (‵ (elements_shared (R E) xs b (from * w + o) κ))
      (run_lent E 𝓛 b κ o slots from len xs (omega arith) held) $ hide ! $
      sets_last ! (agg ! (and_then ! (get ! refl) (and_then ! (get ! refl) (no_more !)))) refl
      (tt, (tt, (record { fits = fits_len }, tt))) $
      exec ! C Λ locals (after 1 (function E).body) (at_ret locals Post) $
      sets ! (of_opd ! (get ! refl)) refl (tt, (tt, (record { fits = fits_len }, tt))) $
      flt_i ! (length xs * w) (2 ^ 63)
      (times_below (length xs) (length slots) w (2 ^ 63) (omega arith) small) $
      flt_i ! (length xs) (2 ^ 64) (omega arith) $ fjoin ! $
      feq_i ! (List Val) (slice_val at len ∷ []) (slice_val at (length xs) ∷ [])
      (ap (λ k. slice_val at k ∷ []) (sym count)) $ fjoin ! $ fjoin ! $
      returns ! (look_at ! 0 refl) $ free_all ! refl $ keep ! (1 ∷ 0 ∷ []) $
      by ! (exits (record { ref_ptr = at; now = xs }) (slice_val at len) held))))

  entry : Asks E places start from len →
      ent 𝓤 (on_entry 𝓛 (ended E).signature (κ, tt) (q, tt) (self, (start, (from, (len, tt))))
      (us0, (us1, (us2, (us3, tt)))))
      (WpFn 𝓤 H C Λ (function E) (us0 ++ (us1 ++ (us2 ++ (us3 ++ [])))) Post)
  entry asked =
      let types = ShrRef (named 0) κ (PlacesType E) ∷ StartType E ∷ usize ∷ usize ∷ [] in
      qed 𝓛 ((‵ (flft κ q) ⊛ ‵ ftrue)
      ∷ ‵ (owns types (self, (start, (from, (len, tt)))) (us0, (us1, (us2, (us3, tt))))) ∷ []) ∵
      split ! $ move ! (2 ∷ []) $ fsplit ! $ fsplit ! $ feq_l ! (λ e0. move ! (1 ∷ []) $ fsplit ! $
      pointer_had ! start.address us1
      (λ e1. fsplit ! $ fsplit ! $ feq_l ! (λ e2. flt_l ! (λ fits_from.
      fsplit ! $ fsplit ! $ feq_l ! (λ e3. flt_l ! (λ fits_len. keep ! (1 ∷ 2 ∷ []) $
      by ! (subst (λ (us : List Val × List Val × List Val × List Val).
      ent 𝓤 (⋆ 𝓛 Had) (WpFn 𝓤 H C Λ (function E) (us.0 ++ (us.1 ++ (us.2 ++ (us.3 ++ [])))) Post))
      (λ j. (sym e0 j, sym e1 j, sym e2 j, sym e3 j)) (walk asked fits_from fits_len))))))))

meets : (E : El) {M : Type 1} {𝓤 : Ura M} (𝓛 : Logic 𝓤) (𝓣 : Tables 𝓤 𝓛.H) →
    Meets 𝓛 (ended E).signature (WpFn 𝓤 𝓛.H 𝓣.C 𝓣.Λ (function E)) (closing 𝓛 (ended E) (spec E 𝓛))
meets E {𝓤 = 𝓤} 𝓛 𝓣 =
    walk_Meets 𝓛 (ended E) (stayed E) (
      Goes-dropped 𝓛 1 (RefOf (0 ∷ []) tt (plain (λ _. PlacesType E)) (λ _. tt)) yes
          (λ κs x f. refl),
      (
        Goes-dropped 𝓛 1 (plain (λ _. StartType E)) no (λ κs x f. refl),
        (
          Goes-dropped 𝓛 1 (plain (λ _. usize)) no (λ κs x f. refl),
          (Goes-dropped 𝓛 1 (plain (λ _. usize)) no (λ κs x f. refl), tt),
        ),
      ),
    )
    (spec E 𝓛) (WpFn 𝓤 𝓛.H 𝓣.C 𝓣.Λ (function E)) (WpFn-mono 𝓤 𝓛.H 𝓛.laws 𝓣 (function E))
    (λ z. let a = z.0.3 in let vs = z.0.4 in
    needs 𝓤 (Asks E a.0.now a.1.0 a.1.1.0 a.1.1.1.0) _
    (entry E 𝓛 𝓣.C 𝓣.Λ z.0.0.0 z.0.1.0 a.0.ref_ptr.0 a.0.ref_ptr.1 a.0.now a.1.0 a.1.1.0 a.1.1.1.0
    vs.0 vs.1.0 vs.1.1.0 vs.1.1.1.0))

pub slice_spec : {M : Type 1} → stated.statement M
unfolding tables_of
slice_spec 𝓤 𝓛 𝓜 𝓡 wired X laws y =
    let E : El = record { row = X; laws = laws } in
    let 𝓣 : Tables 𝓤 𝓛.H = tables_of 𝓤 𝓛.H 𝓜 (tables 𝓤 𝓛.H 𝓜 𝓡 𝓡.env) in
    let k = key (args E) in let told = closing 𝓛 (ended E) (spec E 𝓛) in
    spared 𝓛 (ended E).signature (𝓡.run (𝓡.env k)) (run_framed 𝓤 𝓛.H 𝓜 𝓡 (𝓡.env k)) 1 (X.lives, tt)
    told
    (entered 𝓤 𝓛.H (triple_of 𝓛 (ended E).signature told) 𝓣.C 𝓣.Λ k (function E)
    (code.unfolded 𝓤 𝓛.H 𝓜 𝓡 wired (X, tt)) (meets E 𝓛 𝓣))
    ((y.0.0, y.0.1, tt, y.0.3, y.0.4), y.1)
