-- `allocate` asks for the block and makes its room a row of empty places.
use Rattle.sat_arena.proofs.Steps.{◌≡◌, refl, sym, ap, subst, true, false, ℕ, ◌*◌, ◌<◌, ◌^◌, arith, List, [], ◌∷◌, ◌++◌, lit<, length, replicate, length-replicate, Ura, SProp, ent, Lft, Share, Incl-trans, ftrue, flft, Fn, Body, named, w64, ty_array, inst_fn, Val, vptr, vint, vstruct, vcons, vnil, Env, Calls, Loops, Tables, Wp, WpFn, after_seq, at_return, Memory, align, capped, capped_fits, Routine, Logic, Fun, fact, ◌⊑◌, FmC, WpFn-mono, fm_of, Item, After, ⋆, ‵, raw, ◌⊛◌, later, await, at_ret, any_q, ◌$◌, ◌∵◌, !, qed, by, move, keep, use0, use1, use2, use3, split, join, fsplit, fsplit3, fjoin, feq_l, flt_i, flt_l, suffices, frame, done, whole, agg, live, vrt, in_variant, stop, fld, lit, of_opd, bin, and_then, no_more, first, switches_on, exec, returns, enter, size_word, align_word, alloc_all, pass_all, free_all, look_at, get, get_in, get_tag, sets, sets_last, lands_as, is, env, yes, RattleType, owns, Is, hidden_shr, layout, Ptr, block_ptr, Bor, ShrRef, RefOf, usize, plain, nothing, owned, Struct, Struct-Makes, Tuple, calls_at, Clauses, Ended, closing, on_entry, Meets, triple_of, Triple, entered, says, needs, Stays, stay_dropped, walk_of, ends_at, Goes-dropped, walk_Meets, None, IfOk, Ok, Err, El, R, elτ, uncapped, after, Good, word, word-Good, as_written}
use contract.Running.{tables, tables_of}
use denote.Struct.Declared as Declared
use Rattle.std.specs.Vec.Ownership.{FitsInBlock}
use Rattle.core.specs.contracts.result.Result as Res
use Rattle.core.specs.contracts.alloc.AllocError as Refused
use Rattle.core.proofs.alloc.Calls.{Al, second, Answer-typed, takes_key, Takes, at_takes, Answered, Takes-goes, Takes-gives, answers}
use Rattle.core.proofs.slots.Leases.{block_ty, block_size, block_align, args, P}
use Rattle.std_alloc.proofs.VecSteps.Shapes.{head, arm_body}
use Rattle.std_alloc.proofs.ResultValues.{ok_of, err_of}
use Rattle.std_alloc.proofs.RcSteps.{first_Good}
use Rattle.sat_arena.specs.Ownership.{owns_places}
use Rattle.sat_arena.proofs.RowMemory.{PlacesType, StartType, OwnerType, width, owner, owner_made, pointer_made, triple_val, triple_made, row_of_room}
use Rattle.sat_arena.specs.contracts.places.Claim as claim
use Rattle.sat_arena.specs.contracts.places.allocate as F
use Rattle.sat_arena.specs.contracts.places.allocate.Key.{name as key}
use Rattle.sat_arena.proofs.places.allocate.Statement as stated
use Rattle.sat_arena.proofs.places.allocate.Code as code

-- E is the type of the values, and Z the allocator
module _ (E : El) (Z : Al) where
  abbrev function : Fn
  function = inst_fn (args E Z) code.function

  abbrev ended : Ended
  ended = F.ended E.row Z.row Z.g Z.d Z.drops

  abbrev clauses : {M : Type 1} {𝓤 : Ura M} (𝓛 : Logic 𝓤) → (Memory → SProp 𝓤) → (Routine → Fun 𝓤) →
      Clauses 𝓤 ended
  clauses 𝓛 = F.clauses E.row Z.row Z.g Z.d Z.drops 𝓛

  abbrev ClaimType : RattleType
  ClaimType = claim.the_row (R E) (P E Z) Z.g

  abbrev stayed : Stays ended.signature.params ended.kept
  stayed = (
    stay_dropped (RefOf (0 ∷ []) tt (plain (λ _. P E Z)) (λ _. tt)) yes,
    (stay_dropped (plain (λ _. usize)) yes, tt),
  )

  abbrev Made : RattleType
  Made = Tuple (StartType E ∷ PlacesType E ∷ ClaimType ∷ [])

  abbrev Answer : RattleType
  Answer = Res.the_row Made Refused.the_row

  -- the parts that are made belong together, and each place is empty
  abbrev Gives : Z.row.Denot → ℕ → Answer.Denot → Type 0
  Gives alloc count r =
      IfOk r (λ t. (t.1.start ≡ t.0.address) × (t.1.slots ≡ replicate count None)
      × (t.2.start ≡ t.0.address) × (t.2.count ≡ count) × (t.2.alloc ≡ alloc))

module _ (E : El) (Z : Al) {M : Type 1} {𝓤 : Ura M} (𝓛 : Logic 𝓤) (at_mem : Memory → SProp 𝓤)
    (run : Routine → Fun 𝓤) (C : Calls 𝓤 𝓛.H) (Λ : Loops 𝓤 𝓛.H) (fm : FmC 𝓤 𝓛.H 𝓛.laws C)
    (callee : Triple 𝓤 (C (takes_key Z)) (Takes Z 𝓛 at_mem run))
    (κ κ₁ κ₂ : Lft) (q q₁ q₂ : Share) (short : κ ⊑ κ₂) (within : κ₂ ⊑ Z.row.lives)
    (rb ro : ℕ) (alloc : Z.row.Denot) (count : ℕ) (us0 us1 : List Val) where
  open 𝓛 use {H}

  abbrev self : Bor Z.row.Denot
  self = record { ref_ptr = (rb, ro); now = alloc }

  abbrev others : Item 𝓤
  others = ‵ (flft κ₁ q₁) ⊛ ‵ (flft κ₂ q₂) ⊛ ‵ ftrue

  abbrev bound : (walk_of 𝓛 (ended E Z) (stayed E Z) (clauses E Z 𝓛 at_mem run)).Ghost
  bound = (
    (
      (κ, (κ₁, (κ₂, tt))),
      (q, (q₁, (q₂, tt))),
      (short, tt),
      (self, (count, tt)),
      (us0, (us1, tt)),
    ),
    tt,
  )

  abbrev Post : Val → SProp 𝓤
  Post = (walk_of 𝓛 (ended E Z) (stayed E Z) (clauses E Z 𝓛 at_mem run)).post bound

  abbrev Left : (Answer E Z).Denot → Val → List (Item 𝓤)
  Left r v = ‵ ((Answer E Z).own_val r (v ∷ [])) ∷ ‵ (flft κ q) ∷ others ∷ []

  exits : (r : (Answer E Z).Denot) (v : Val) → Gives E Z alloc count r →
      ent 𝓤 (⋆ 𝓛 (Left r v)) (Post v)
  exits r v given =
      qed 𝓛 (Left r v) ∵
      suffices ! _ (ends_at 𝓛 (ended E Z) (stayed E Z) (clauses E Z 𝓛 at_mem run) bound v r
      (tt, (tt, tt)) (tt, (tt, tt))) $ says ! given $
      move ! (1 ∷ 2 ∷ []) $ join ! $ frame ! $ nothing ! $ nothing ! $ fjoin ! $ nothing ! $
      fjoin ! $ done !

  abbrev Had : List (Item 𝓤)
  Had = ‵ (hidden_shr (P E Z) κ alloc rb ro) ∷ ‵ (flft κ q) ∷ others ∷ []

  walk : FitsInBlock (R E) count → count < 2 ^ 64 →
      ent 𝓤 (⋆ 𝓛 Had) (WpFn 𝓤 H C Λ (function E Z) (vptr rb ro ∷ vint w64 count ∷ []) Post)
  walk asked fits =
      let w = width E in let small : count * w < 2 ^ 63 = asked.0 in
      let bytes : count * w < 2 ^ 64 = omega arith in
      qed 𝓛 Had ∵ enter ! C Λ (function E Z) (vptr rb ro ∷ vint w64 count ∷ []) _ $
      alloc_all ! (λ l. pass_all ! refl ((tt, tt), ((tt, record { fits = fits }), tt)) $
      let locals : Env 𝓤 H = env (function E Z).locals l in
      let arms : Body = head (after 2 (function E Z).body) in
      let then : After 𝓤 H =
      any_q (after_seq 𝓤 H
      (Wp 𝓤 H C Λ locals (after 3 (function E Z).body) (at_return 𝓤 H locals Post))
      (at_return 𝓤 H locals Post)) in
      let al : ℕ = capped (align (elτ E)) in let row = block_ty E count in
      let y : (Takes Z 𝓛 at_mem run).Ghost =
      at_takes Z 𝓛 at_mem run κ q (rb, ro) alloc (count * w) al row in
      sets ! (is ! (bin ! (get ! refl) (size_word !)
      (record { fits = subst (λ (k : ℕ). k < 2 ^ 64) (sym (uncapped count w bytes)) bytes }))
      (ap (vint w64) (uncapped count w bytes))) refl (tt, record { fits = bytes }) $
      use2 𝓛 (raw ((Takes Z 𝓛 at_mem run).pre y))
      (Takes-goes Z 𝓛 at_mem run κ q (rb, ro) alloc (Incl-trans short within) (count * w) al row
      (block_size E count bytes) (block_align E count) bytes (capped_fits (align (elτ E)))) $
      calls_at ! fm (Takes Z 𝓛 at_mem run) callee y
      (and_then ! (get ! refl) (and_then ! (get ! refl) (and_then ! (align_word !) (no_more !))))
      (λ v.
      use1 𝓛 (later (raw (Answered Z 𝓛 at_mem run alloc row v) ⊛ ‵ (flft κ q)))
      (Takes-gives Z 𝓛 at_mem run κ q (rb, ro) alloc (count * w) al row v) $ await ! tt $ split ! $
      answers Z ! at_mem run alloc row v
      -- there is a block
      (λ b o e.
      let p : Ptr = block_ptr b o in
      let start : (StartType E).Denot = record { address = p } in
      let places : (PlacesType E).Denot =
      record { owner = record {}; start = p; slots = replicate count None } in
      let right : (ClaimType E Z).Denot =
      record { owner = record {}; start = p; count = count; alloc = alloc } in
      let all : (Made E Z).Denot = (start, places, right) in
      let made : Val = triple_val (word p) owner owner in
      let typed : Good (layout (Made E Z)) made = (tt, ((tt, tt), ((tt, tt), ((tt, tt), tt)))) in
      let ok = first_Good (layout (Made E Z)) made typed in
      lands_as ! e refl (Answer-typed true b o) $
      first ! $ switches_on ! (get_tag ! (vrt ! refl (fld ! refl (stop !))) (whole !)) $
      exec ! C Λ locals (arm_body 0 arms) then $
      sets ! (of_opd ! (get_in ! (vrt ! refl (fld ! refl (stop !)))
      (in_variant ! 0 0 refl refl (whole !))))
      refl (tt, tt) $ sets ! (of_opd ! (get ! refl)) refl (tt, tt) $
      sets ! (agg ! (and_then ! (get ! refl) (no_more !))) refl (word-Good [] p) $
      sets ! (agg ! (no_more !)) refl (tt, tt) $
      sets ! (agg ! (and_then ! (get ! refl) (no_more !))) refl (tt, (tt, tt)) $
      sets ! (agg ! (no_more !)) refl (tt, tt) $
      sets ! (agg ! (and_then ! (get ! refl) (no_more !))) refl (tt, (tt, tt)) $
      sets ! (agg ! (and_then ! (get ! refl)
      (and_then ! (get ! refl) (and_then ! (get ! refl) (no_more !)))))
      refl typed $
      sets_last ! (agg ! (and_then ! (lit ! tt) (and_then ! (get ! refl) (no_more !)))) refl ok $
      exec ! C Λ locals (after 3 (function E Z).body) (at_ret locals Post) $
      sets ! (of_opd ! (get ! refl)) refl ok $ move ! (1 ∷ []) $
      use0 𝓛 (‵ ((OwnerType E).own_val (tt, tt) (owner ∷ []))) (owner_made E 𝓛) $ fjoin ! $
      move ! (1 ∷ []) $
      as_written ! (ty_array (elτ E) count) b o $
      use1 𝓛 (‵ (owns_places (R E) b o places.slots)) (row_of_room E 𝓛 b count o) $
      flt_i ! (length places.slots * w) (2 ^ 63)
      (subst (λ k. k * w < 2 ^ 63) (sym (length-replicate count None)) small) $ fjoin ! $
      use0 𝓛 (‵ ((OwnerType E).own_val (tt, tt) (owner ∷ []))) (owner_made E 𝓛) $ fjoin ! $
      pointer_made ! p $
      use3 𝓛 (‵ ((Made E Z).own_val all (made ∷ [])))
      (triple_made 𝓛 (StartType E) (PlacesType E) (ClaimType E Z) start places right (word p) owner
      owner) $
      use1 𝓛 (‵ ((Answer E Z).own_val (Ok all) (live 0 (vcons made vnil) ∷ [])))
      (ok_of 𝓛 (Made E Z) Refused.the_row all made) $
      returns ! (look_at ! 0 refl) $ free_all ! refl $ keep ! (0 ∷ 1 ∷ 2 ∷ []) $
      by ! (exits (Ok all) (live 0 (vcons made vnil)) (refl, refl, refl, refl, refl)))
      -- memory is short
      (λ e.
      let Short : RattleType = Struct (Declared.shape Refused.the_type) in
      let made : Val = live 1 (vcons (vstruct vnil) vnil) in
      lands_as ! e refl (Answer-typed false 0 0) $
      first ! $ switches_on ! (get_tag ! (vrt ! refl (fld ! refl (stop !))) (whole !)) $
      exec ! C Λ locals (arm_body 1 arms) then $
      sets ! (of_opd ! (get_in ! (vrt ! refl (fld ! refl (stop !)))
      (in_variant ! 1 0 refl refl (whole !))))
      refl (tt, tt) $
      sets_last ! (agg ! (and_then ! (lit ! tt) (and_then ! (get ! refl) (no_more !)))) refl
      (tt, (record { fits = lit< tt }, (tt, tt))) $
      exec ! C Λ locals (after 3 (function E Z).body) (at_ret locals Post) $
      sets ! (of_opd ! (get ! refl)) refl (tt, (record { fits = lit< tt }, (tt, tt))) $
      owned ! Short (Is Short) (Struct-Makes 𝓛 (Declared.shape Refused.the_type) tt) tt
      (vstruct vnil ∷ [])
      (tt, (refl, tt)) $
      use1 𝓛 (‵ ((Answer E Z).own_val (Err (record {})) (made ∷ [])))
      (err_of 𝓛 (Made E Z) Refused.the_row (record {}) (vstruct vnil)) $
      returns ! (look_at ! 0 refl) $ free_all ! refl $ keep ! (0 ∷ 1 ∷ 2 ∷ []) $
      by ! (exits (Err (record {})) made tt))))

  entry : FitsInBlock (R E) count →
      ent 𝓤 (on_entry 𝓛 (ended E Z).signature (κ, (κ₁, (κ₂, tt))) (q, (q₁, (q₂, tt)))
      (self, (count, tt))
      (us0, (us1, tt))) (WpFn 𝓤 H C Λ (function E Z) (us0 ++ (us1 ++ [])) Post)
  entry asked =
      let types = ShrRef (named 0) κ (P E Z) ∷ usize ∷ [] in
      qed 𝓛 ((‵ (flft κ q) ⊛ others) ∷ ‵ (owns types (self, (count, tt)) (us0, (us1, tt))) ∷ []) ∵
      split ! $ move ! (2 ∷ []) $ fsplit3 ! $ fsplit ! $ feq_l ! (λ e0. move ! (1 ∷ []) $
      fsplit ! $ feq_l ! (λ e1. flt_l ! (λ fits. keep ! (0 ∷ 2 ∷ 3 ∷ []) $
      by ! (subst (λ (us : List Val × List Val).
      ent 𝓤 (⋆ 𝓛 Had) (WpFn 𝓤 H C Λ (function E Z) (us.0 ++ (us.1 ++ [])) Post))
      (λ j. (sym e0 j, sym e1 j)) (walk asked fits)))))

meets : (E : El) (Z : Al) {M : Type 1} {𝓤 : Ura M} (𝓛 : Logic 𝓤) (at_mem : Memory → SProp 𝓤)
    (run : Routine → Fun 𝓤) (𝓣 : Tables 𝓤 𝓛.H) →
    Triple 𝓤 (𝓣.C (takes_key Z)) (Takes Z 𝓛 at_mem run) →
    Meets 𝓛 (ended E Z).signature (WpFn 𝓤 𝓛.H 𝓣.C 𝓣.Λ (function E Z))
    (closing 𝓛 (ended E Z) (clauses E Z 𝓛 at_mem run))
meets E Z {𝓤 = 𝓤} 𝓛 at_mem run 𝓣 callee =
    walk_Meets 𝓛 (ended E Z) (stayed E Z) (
      Goes-dropped 𝓛 3 (RefOf (0 ∷ []) tt (plain (λ _. P E Z)) (λ _. tt)) yes (λ κs x f. refl),
      (Goes-dropped 𝓛 3 (plain (λ _. usize)) yes (λ κs x f. refl), tt),
    )
    (clauses E Z 𝓛 at_mem run) (WpFn 𝓤 𝓛.H 𝓣.C 𝓣.Λ (function E Z))
    (WpFn-mono 𝓤 𝓛.H 𝓛.laws 𝓣 (function E Z))
    (λ z. let κs = z.0.0 in let qs = z.0.1 in let a = z.0.3 in let vs = z.0.4 in
    let On : SProp 𝓤 = on_entry 𝓛 (ended E Z).signature κs qs a vs in
    let asks = FitsInBlock (R E) a.1.0 in
    second 𝓤 (κs.1.0 ⊑ E.row.lives) (κs.1.1.0 ⊑ Z.row.lives) On (fact 𝓤 asks)
    (λ within. needs 𝓤 asks On
    (entry E Z 𝓛 at_mem run 𝓣.C 𝓣.Λ (fm_of 𝓤 𝓛.H 𝓛.laws 𝓣) callee κs.0 κs.1.0 κs.1.1.0 qs.0 qs.1.0
    qs.1.1.0
    z.0.2.0 within a.0.ref_ptr.0 a.0.ref_ptr.1 a.0.now a.1.0 vs.0 vs.1.0)))

pub allocate_spec : {M : Type 1} → stated.statement M
unfolding tables_of
allocate_spec 𝓤 𝓛 𝓜 𝓡 wired X W laws alloc_laws g d dd met md =
    let E : El = record { row = X; laws = laws } in
    let Z : Al = record { row = W; laws = alloc_laws; g = g; d = d; drops = dd } in
    let 𝓣 : Tables 𝓤 𝓛.H = tables_of 𝓤 𝓛.H 𝓜 (tables 𝓤 𝓛.H 𝓜 𝓡 𝓡.env) in
    entered 𝓤 𝓛.H (triple_of 𝓛 (ended E Z).signature (F.spec X W g d dd 𝓛 𝓜.mem 𝓡.returns)) 𝓣.C 𝓣.Λ
    (key (args E Z)) (function E Z) (code.unfolded 𝓤 𝓛.H 𝓜 𝓡 wired (X, (W, tt)) d dd)
    (meets E Z 𝓛 𝓜.mem 𝓡.returns 𝓣 (met.allocate dd))
