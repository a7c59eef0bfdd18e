-- `deallocate` makes the row room again, and hands the room back with the right to do so.
use Rattle.sat_arena.proofs.Steps.{◌≡◌, refl, sym, ap, subst, ◌∙◌, ℕ, ◌*◌, ◌<◌, ◌^◌, arith, List, [], ◌∷◌, ◌++◌, T, length, Ura, SProp, ent, Lft, Share, Incl-trans, ftrue, froom, flft, Fn, named, w64, ty_unit, ty_array, inst_fn, Val, vptr, vint, vunit, has_ty, WT, Env, Calls, Loops, Tables, WpFn, Memory, align, capped, capped_fits, Routine, Logic, Fun, fact, ◌⊑◌, FmC, WpFn-mono, fm_of, Item, ⋆, ‵, raw, ◌⊛◌, given, later, await, learn, at_ret, ◌$◌, ◌∵◌, !, qed, by, move, keep, use1, split, join, group, rewrite, fsplit, fsplit3, fjoin, feq_i, feq_l, flt_l, suffices, done, whole, sub, stop, fld, unit_lit, of_opd, bin, and_then, no_more, first, blocks, exec, returns, enter, size_word, align_word, alloc_all, pass_all, free_all, look_at, get, get_in, sets, lands_last, is, env, yes, no, RattleType, owns, hidden_shr, Ptr, ptr_val, in_a_block, Bor, ShrRef, RefOf, usize, plain, nothing, calls_at_last, Clauses, Ended, closing, on_entry, Meets, triple_of, Triple, entered, needs, Stays, stay_dropped, walk_of, ends_at, Goes-dropped, walk_Meets, El, R, elτ, uncapped, after, word, word-Good, as_raw}
use Prim.Native.Nat.{◌≤◌}
use contract.Running.{tables, tables_of}
use Rattle.core.proofs.alloc.Calls.{Al, Goes-blank, second, token, gives_key, Gives, at_gives, Gives-goes, Gives-Gives}
use Rattle.core.proofs.slots.Leases.{block_ty, block_size, block_align, args, P}
use Rattle.sat_arena.specs.Ownership.{owns_claim, owns_row}
use Rattle.sat_arena.proofs.RowMemory.{none_there, PlacesType, StartType, width, owner, owner_had, pointer_had, room_of_row}
use Rattle.sat_arena.specs.contracts.places.Claim as claim
use Rattle.sat_arena.specs.contracts.places.deallocate as F
use Rattle.sat_arena.specs.contracts.places.deallocate.Key.{name as key}
use Rattle.sat_arena.proofs.places.deallocate.Statement as stated
use Rattle.sat_arena.proofs.places.deallocate.Code as code

-- E is the type of the values, and Z the allocator
module _ (E : El) (Z : Al) where
  abbrev function : Fn
  function = inst_fn (args E Z) code.function

  abbrev ended : Ended
  ended = F.ended E.row Z.row Z.g Z.d Z.drops

  abbrev clauses : {M : Type 1} {𝓤 : Ura M} (𝓛 : Logic 𝓤) → (Memory → SProp 𝓤) → (Routine → Fun 𝓤) →
      Clauses 𝓤 ended
  clauses 𝓛 = F.clauses E.row Z.row Z.g Z.d Z.drops 𝓛

  abbrev ClaimType : RattleType
  ClaimType = claim.the_row (R E) (P E Z) Z.g

  abbrev stayed : Stays ended.signature.params ended.kept
  stayed = (
    stay_dropped (RefOf (0 ∷ []) tt (plain (λ _. P E Z)) (λ _. tt)) yes,
    (
      stay_dropped (plain (λ _. StartType E)) no,
      (
        stay_dropped (plain (λ _. usize)) yes,
        (
          stay_dropped (plain (λ _. PlacesType E)) no,
          (stay_dropped (plain (λ _. ClaimType)) no, tt),
        ),
      ),
    ),
  )

  -- the parts are of one block, which is from this allocator
  abbrev Asks : Z.row.Denot → (StartType E).Denot → ℕ → (PlacesType E).Denot → ClaimType.Denot →
      Type 0
  Asks alloc start count places right =
      (places.start ≡ start.address) × (length places.slots ≡ count)
      × (right.start ≡ start.address) × (right.count ≡ count) × (right.alloc ≡ alloc) × (1 ≤ count)

module _ (E : El) (Z : Al) {M : Type 1} {𝓤 : Ura M} (𝓛 : Logic 𝓤) (at_mem : Memory → SProp 𝓤)
    (run : Routine → Fun 𝓤) (C : Calls 𝓤 𝓛.H) (Λ : Loops 𝓤 𝓛.H) (fm : FmC 𝓤 𝓛.H 𝓛.laws C)
    (callee : Triple 𝓤 (C (gives_key Z)) (Gives Z 𝓛 at_mem run))
    (κ κ₁ κ₂ : Lft) (q q₁ q₂ : Share) (short : κ ⊑ κ₂) (within : κ₂ ⊑ Z.row.lives)
    (rb ro : ℕ) (alloc : Z.row.Denot) (start : (StartType E).Denot) (count : ℕ)
    (places : (PlacesType E).Denot) (right : (ClaimType E Z).Denot)
    (us0 us1 us2 us3 us4 : List Val) where
  open 𝓛 use {H}

  abbrev self : Bor Z.row.Denot
  self = record { ref_ptr = (rb, ro); now = alloc }

  abbrev others : Item 𝓤
  others = ‵ (flft κ₁ q₁) ⊛ ‵ (flft κ₂ q₂) ⊛ ‵ ftrue

  abbrev bound : (walk_of 𝓛 (ended E Z) (stayed E Z) (clauses E Z 𝓛 at_mem run)).Ghost
  bound = (
    (
      (κ, (κ₁, (κ₂, tt))),
      (q, (q₁, (q₂, tt))),
      (short, tt),
      (self, (start, (count, (places, (right, tt))))),
      (us0, (us1, (us2, (us3, (us4, tt))))),
    ),
    tt,
  )

  abbrev Post : Val → SProp 𝓤
  Post = (walk_of 𝓛 (ended E Z) (stayed E Z) (clauses E Z 𝓛 at_mem run)).post bound

  exits : ent 𝓤 (⋆ 𝓛 (‵ (flft κ q) ∷ others ∷ [])) (Post vunit)
  exits =
      qed 𝓛 (‵ (flft κ q) ∷ others ∷ []) ∵
      suffices ! _ (ends_at 𝓛 (ended E Z) (stayed E Z) (clauses E Z 𝓛 at_mem run) bound vunit tt
      (tt, (tt, (tt, (tt, (tt, tt))))) (tt, (tt, (tt, (tt, (tt, tt)))))) $
      join ! $ feq_i ! (List Val) (vunit ∷ []) (vunit ∷ []) refl $ nothing ! $
      nothing ! $ fjoin ! $ nothing ! $ fjoin ! $ nothing ! $ fjoin ! $ nothing ! $ fjoin ! $
      nothing ! $ fjoin ! $ join ! $ move ! (1 ∷ 0 ∷ []) $ join ! $ nothing ! $
      move ! (1 ∷ 0 ∷ []) $ done !

  abbrev Had : List (Item 𝓤)
  Had =
      ‵ (owns_row (R E) places.start places.slots)
      ∷ ‵ (owns_claim (R E) (token Z right.alloc) right.start right.count)
      ∷ ‵ (hidden_shr (P E Z) κ alloc rb ro) ∷ ‵ (flft κ q) ∷ others ∷ []

  abbrev Passed : List Val
  Passed = vptr rb ro ∷ word start.address ∷ vint w64 count ∷ owner ∷ owner ∷ []

  walk : Asks E Z alloc start count places right → count < 2 ^ 64 →
      ent 𝓤 (⋆ 𝓛 Had) (WpFn 𝓤 H C Λ (function E Z) Passed Post)
  walk asked fits =
      let slots = places.slots in let w = width E in let al : ℕ = capped (align (elτ E)) in
      qed 𝓛 Had ∵ enter ! C Λ (function E Z) Passed _ $
      alloc_all ! (λ l. pass_all ! refl (
        (tt, tt),
        (
          word-Good [] start.address,
          ((tt, record { fits = fits }), ((tt, (tt, tt)), ((tt, (tt, tt)), tt))),
        ),
      ) $
      let locals : Env 𝓤 H = env (function E Z).locals l in
      rewrite ! 0 (λ (p : Ptr). ‵ (owns_row (R E) p slots)) asked.0 refl $
      in_a_block ! start.address (λ p. owns_row (R E) p slots)
      (none_there 𝓛 (length slots) (omega (arith, asked.1, asked.5))) (λ b o e.
      fsplit ! $ flt_l ! (λ fit.
      let small : count * w < 2 ^ 63 = subst (λ k. k * w < 2 ^ 63) asked.1 fit in
      let bytes : count * w < 2 ^ 64 = omega arith in let row = block_ty E count in
      let y : (Gives Z 𝓛 at_mem run).Ghost =
      at_gives Z 𝓛 at_mem run κ q (rb, ro) alloc b o (count * w) al row in
      rewrite ! 1 (λ (r : Z.row.Denot × Ptr × ℕ). ‵ (owns_claim (R E) (token Z r.0) r.1 r.2))
      (λ i. (asked.4 i, (asked.2 ∙ e) i, asked.3 i)) refl $
      use1 𝓛 (‵ (froom (ty_array (elτ E) (length slots)) b o)) (room_of_row E 𝓛 b slots o) $
      rewrite ! 0 (λ (k : ℕ). ‵ (froom (ty_array (elτ E) k) b o)) asked.1 refl $
      as_raw ! (ty_array (elτ E) count) b o $ first ! $ blocks ! $
      sets ! (is ! (of_opd ! (get_in ! (fld ! refl (stop !)) (sub ! 0 refl (whole !))))
      (ap ptr_val e)) refl
      (tt, tt) $
      sets ! (is ! (bin ! (get ! refl) (size_word !)
      (record { fits = subst (λ (k : ℕ). k < 2 ^ 64) (sym (uncapped count w bytes)) bytes }))
      (ap (vint w64) (uncapped count w bytes))) refl (tt, record { fits = bytes }) $
      group ! 4 $
      use1 𝓛 (raw ((Gives Z 𝓛 at_mem run).pre y))
      (Gives-goes Z 𝓛 at_mem run κ q (rb, ro) alloc (Incl-trans short within) b o (count * w) al row
      (block_size E count bytes) (block_align E count) bytes (capped_fits (align (elτ E)))) $
      calls_at_last ! fm (Gives Z 𝓛 at_mem run) callee y
      (and_then ! (get ! refl) (and_then ! (get ! refl) (and_then ! (get ! refl)
      (and_then ! (align_word !) (no_more !))))) (λ v.
      use1 𝓛 (later (given (v ≡ vunit) (‵ (flft κ q))))
      (Gives-Gives Z 𝓛 at_mem run κ q (rb, ro) alloc b o (count * w) al row v) $ await ! tt $
      learn ! (λ is_unit.
      lands_last ! refl (subst (λ (u : Val). T (has_ty ty_unit u) × WT u) (sym is_unit) (tt, tt)) $
      exec ! C Λ locals (after 1 (function E Z).body) (at_ret locals Post) $
      sets ! (of_opd ! (unit_lit !)) refl (tt, tt) $
      returns ! (look_at ! 0 refl) $ free_all ! refl $ keep ! (0 ∷ 1 ∷ []) $ by ! exits)))))

  entry : Asks E Z alloc start count places right →
      ent 𝓤 (on_entry 𝓛 (ended E Z).signature (κ, (κ₁, (κ₂, tt))) (q, (q₁, (q₂, tt)))
      (self, (start, (count, (places, (right, tt))))) (us0, (us1, (us2, (us3, (us4, tt))))))
      (WpFn 𝓤 H C Λ (function E Z) (us0 ++ (us1 ++ (us2 ++ (us3 ++ (us4 ++ []))))) Post)
  entry asked =
      let types = ShrRef (named 0) κ (P E Z) ∷ StartType E ∷ usize ∷ PlacesType E ∷ ClaimType E Z
      ∷ [] in
      qed 𝓛 ((‵ (flft κ q) ⊛ others)
      ∷ ‵ (owns types (self, (start, (count, (places, (right, tt)))))
      (us0, (us1, (us2, (us3, (us4, tt))))))
      ∷ []) ∵ split ! $ move ! (2 ∷ []) $ fsplit3 ! $ fsplit ! $ feq_l ! (λ e0. move ! (1 ∷ []) $
      pointer_had ! start.address us1 (λ e1. move ! (1 ∷ []) $ fsplit3 ! $ fsplit ! $
      feq_l ! (λ e2. flt_l ! (λ fits. fsplit ! $ owner_had ! E us3 (λ e3. move ! (1 ∷ []) $
      fsplit ! $ fsplit ! $ owner_had ! E us4 (λ e4. keep ! (2 ∷ 0 ∷ 3 ∷ 4 ∷ 5 ∷ []) $
      by ! (subst (λ (us : List Val × List Val × List Val × List Val × List Val).
      ent 𝓤 (⋆ 𝓛 Had)
      (WpFn 𝓤 H C Λ (function E Z) (us.0 ++ (us.1 ++ (us.2 ++ (us.3 ++ (us.4 ++ []))))) Post))
      (λ j. (sym e0 j, sym e1 j, sym e2 j, sym e3 j, sym e4 j)) (walk asked fits))))))))

meets : (E : El) (Z : Al) {M : Type 1} {𝓤 : Ura M} (𝓛 : Logic 𝓤) (at_mem : Memory → SProp 𝓤)
    (run : Routine → Fun 𝓤) (𝓣 : Tables 𝓤 𝓛.H) →
    Triple 𝓤 (𝓣.C (gives_key Z)) (Gives Z 𝓛 at_mem run) →
    Meets 𝓛 (ended E Z).signature (WpFn 𝓤 𝓛.H 𝓣.C 𝓣.Λ (function E Z))
    (closing 𝓛 (ended E Z) (clauses E Z 𝓛 at_mem run))
meets E Z {𝓤 = 𝓤} 𝓛 at_mem run 𝓣 callee =
    walk_Meets 𝓛 (ended E Z) (stayed E Z) (
      Goes-dropped 𝓛 3 (RefOf (0 ∷ []) tt (plain (λ _. P E Z)) (λ _. tt)) yes (λ κs x f. refl),
      (
        Goes-dropped 𝓛 3 (plain (λ _. StartType E)) no (λ κs x f. refl),
        (
          Goes-dropped 𝓛 3 (plain (λ _. usize)) yes (λ κs x f. refl),
          (
            Goes-blank 𝓛 3 (plain (λ _. PlacesType E)) no (λ κs x f. tt),
            (Goes-blank 𝓛 3 (plain (λ _. ClaimType E Z)) no (λ κs x f. tt), tt),
          ),
        ),
      ),
    )
    (clauses E Z 𝓛 at_mem run) (WpFn 𝓤 𝓛.H 𝓣.C 𝓣.Λ (function E Z))
    (WpFn-mono 𝓤 𝓛.H 𝓛.laws 𝓣 (function E Z))
    (λ z. let κs = z.0.0 in let qs = z.0.1 in let a = z.0.3 in let vs = z.0.4 in
    let On : SProp 𝓤 = on_entry 𝓛 (ended E Z).signature κs qs a vs in
    let asks = Asks E Z a.0.now a.1.0 a.1.1.0 a.1.1.1.0 a.1.1.1.1.0 in
    second 𝓤 (κs.1.0 ⊑ E.row.lives) (κs.1.1.0 ⊑ Z.row.lives) On (fact 𝓤 asks)
    (λ within. needs 𝓤 asks On
    (entry E Z 𝓛 at_mem run 𝓣.C 𝓣.Λ (fm_of 𝓤 𝓛.H 𝓛.laws 𝓣) callee κs.0 κs.1.0 κs.1.1.0 qs.0 qs.1.0
    qs.1.1.0
    z.0.2.0 within a.0.ref_ptr.0 a.0.ref_ptr.1 a.0.now a.1.0 a.1.1.0 a.1.1.1.0 a.1.1.1.1.0
    vs.0 vs.1.0 vs.1.1.0 vs.1.1.1.0 vs.1.1.1.1.0)))

pub deallocate_spec : {M : Type 1} → stated.statement M
unfolding tables_of
deallocate_spec 𝓤 𝓛 𝓜 𝓡 wired X W laws alloc_laws g d dd met md =
    let E : El = record { row = X; laws = laws } in
    let Z : Al = record { row = W; laws = alloc_laws; g = g; d = d; drops = dd } in
    let 𝓣 : Tables 𝓤 𝓛.H = tables_of 𝓤 𝓛.H 𝓜 (tables 𝓤 𝓛.H 𝓜 𝓡 𝓡.env) in
    entered 𝓤 𝓛.H (triple_of 𝓛 (ended E Z).signature (F.spec X W g d dd 𝓛 𝓜.mem 𝓡.returns)) 𝓣.C 𝓣.Λ
    (key (args E Z)) (function E Z) (code.unfolded 𝓤 𝓛.H 𝓜 𝓡 wired (X, (W, tt)) d dd)
    (meets E Z 𝓛 𝓜.mem 𝓡.returns 𝓣 (met.deallocate dd))
