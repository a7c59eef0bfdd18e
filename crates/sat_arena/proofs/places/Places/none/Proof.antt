-- `none` needs no memory: the row has no place.
use Rattle.sat_arena.proofs.Steps.{◌≡◌, refl, sym, subst, arith, List, [], ◌∷◌, ◌++◌, Ura, SProp, ent, ftrue, Fn, inst_fn, Val, Calls, Loops, Tables, WpFn, Logic, fact, WpFn-mono, ⋆, ‵, ◌$◌, ◌∵◌, !, qed, by, move, keep, use0, rewrite, fsplit, fjoin, flt_i, suffices, frame, done, agg, no_more, returns, enter, alloc_all, pass_all, free_all, look_at, get, and_then, sets, no, owns, Ptr, plain, nothing, Clauses, Ended, closing, on_entry, Meets, triple_of, entered, run_framed, spared, says, needs, Stays, stay_dropped, walk_of, ends_at, Goes-dropped, walk_Meets, El, R, args, word, word-Good}
use contract.Running.{tables, tables_of}
use denote.RawPtr.{null_ptr}
use Rattle.sat_arena.specs.Ownership.{owns_row}
use Rattle.sat_arena.proofs.RowMemory.{PlacesType, StartType, OwnerType, owner, owner_made, pointer_had}
use Rattle.sat_arena.specs.contracts.places.Places.none.Key.{name as key}
use Rattle.sat_arena.proofs.places.Places.none.Statement as stated
use Rattle.sat_arena.proofs.places.Places.none.Code as code

module _ (E : El) where
  abbrev function : Fn
  function = inst_fn (args E) code.function

  abbrev ended : Ended
  ended = record {
    signature = record {
      lifetimes = 0;
      outlives = [];
      params = plain (λ _. StartType E) ∷ [];
      result = plain (λ _. PlacesType E);
    };
    kept = (no, tt);
  }

  abbrev stayed : Stays ended.signature.params ended.kept
  stayed = (stay_dropped (plain (λ _. StartType E)) no, tt)

  -- the row begins at no address
  abbrev Asks : (StartType E).Denot → Type 0
  Asks start = start.address ≡ null_ptr

  -- these are its places
  abbrev Gives : (StartType E).Denot → (PlacesType E).Denot → Type 0
  Gives start r = (r.start ≡ start.address) × (r.slots ≡ [])

  abbrev spec : {M : Type 1} {𝓤 : Ura M} (𝓛 : Logic 𝓤) → Clauses 𝓤 ended
  spec {𝓤 = 𝓤} 𝓛 κs a = record {
    ghost = Unit {0};
    requires = λ _. fact 𝓤 (Asks a.0);
    ensures = λ _ r ends. fact 𝓤 (Gives a.0 r);
  }

module _ (E : El) {M : Type 1} {𝓤 : Ura M} (𝓛 : Logic 𝓤) (C : Calls 𝓤 𝓛.H) (Λ : Loops 𝓤 𝓛.H)
    (start : (StartType E).Denot) (us0 : List Val) where
  open 𝓛 use {H}

  abbrev bound : (walk_of 𝓛 (ended E) (stayed E) (spec E 𝓛)).Ghost
  bound = ((tt, tt, tt, (start, tt), (us0, tt)), tt)

  abbrev Post : Val → SProp 𝓤
  Post = (walk_of 𝓛 (ended E) (stayed E) (spec E 𝓛)).post bound

  abbrev places : (PlacesType E).Denot
  places = record { owner = record {}; start = start.address; slots = [] }

  exits : ent 𝓤 (⋆ 𝓛 (‵ ((PlacesType E).own_val places (owner ∷ [])) ∷ [])) (Post owner)
  exits =
      qed 𝓛 (‵ ((PlacesType E).own_val places (owner ∷ [])) ∷ []) ∵
      suffices ! _ (ends_at 𝓛 (ended E) (stayed E) (spec E 𝓛) bound owner places
      (tt, tt) (tt, tt)) $ says ! (refl, refl) $
      nothing ! $ frame ! $ nothing ! $ nothing ! $ fjoin ! $ done !

  walk : Asks E start →
      ent 𝓤 (⋆ 𝓛 []) (WpFn 𝓤 H C Λ (function E) (word start.address ∷ []) Post)
  walk asked =
      qed 𝓛 [] ∵ enter ! C Λ (function E) (word start.address ∷ []) _ $
      alloc_all ! (λ l. pass_all ! refl (word-Good [] start.address, tt) $
      sets ! (agg ! (no_more !)) refl (tt, tt) $
      sets ! (agg ! (and_then ! (get ! refl) (no_more !))) refl (tt, (tt, tt)) $
      flt_i ! 0 1 (omega arith) $
      rewrite ! 0 (λ (p : Ptr). ‵ (owns_row (R E) p [])) (sym asked) refl $
      use0 𝓛 (‵ ((OwnerType E).own_val (tt, tt) (owner ∷ []))) (owner_made E 𝓛) $ fjoin ! $
      returns ! (look_at ! 0 refl) $ free_all ! refl $ keep ! (0 ∷ []) $ by ! exits)

  entry : Asks E start →
      ent 𝓤 (on_entry 𝓛 (ended E).signature tt tt (start, tt) (us0, tt))
      (WpFn 𝓤 H C Λ (function E) (us0 ++ []) Post)
  entry asked =
      let types = StartType E ∷ [] in
      qed 𝓛 (‵ ftrue ∷ ‵ (owns types (start, tt) (us0, tt)) ∷ []) ∵
      move ! (1 ∷ []) $ fsplit ! $
      pointer_had ! start.address us0 (λ e0. keep ! [] $
      by ! (subst (λ (us : List Val). ent 𝓤 (⋆ 𝓛 []) (WpFn 𝓤 H C Λ (function E) (us ++ []) Post))
      (sym e0) (walk asked)))

meets : (E : El) {M : Type 1} {𝓤 : Ura M} (𝓛 : Logic 𝓤) (𝓣 : Tables 𝓤 𝓛.H) →
    Meets 𝓛 (ended E).signature (WpFn 𝓤 𝓛.H 𝓣.C 𝓣.Λ (function E)) (closing 𝓛 (ended E) (spec E 𝓛))
meets E {𝓤 = 𝓤} 𝓛 𝓣 =
    walk_Meets 𝓛 (ended E) (stayed E)
    (Goes-dropped 𝓛 0 (plain (λ _. StartType E)) no (λ κs x f. refl), tt)
    (spec E 𝓛) (WpFn 𝓤 𝓛.H 𝓣.C 𝓣.Λ (function E)) (WpFn-mono 𝓤 𝓛.H 𝓛.laws 𝓣 (function E))
    (λ z. let a = z.0.3 in let vs = z.0.4 in
    needs 𝓤 (Asks E a.0) _ (entry E 𝓛 𝓣.C 𝓣.Λ a.0 vs.0))

pub none_spec : {M : Type 1} → stated.statement M
unfolding tables_of
none_spec 𝓤 𝓛 𝓜 𝓡 wired X laws y =
    let E : El = record { row = X; laws = laws } in
    let 𝓣 : Tables 𝓤 𝓛.H = tables_of 𝓤 𝓛.H 𝓜 (tables 𝓤 𝓛.H 𝓜 𝓡 𝓡.env) in
    let k = key (args E) in let told = closing 𝓛 (ended E) (spec E 𝓛) in
    spared 𝓛 (ended E).signature (𝓡.run (𝓡.env k)) (run_framed 𝓤 𝓛.H 𝓜 𝓡 (𝓡.env k)) 1 (X.lives, tt)
    told
    (entered 𝓤 𝓛.H (triple_of 𝓛 (ended E).signature told) 𝓣.C 𝓣.Λ k (function E)
    (code.unfolded 𝓤 𝓛.H 𝓜 𝓡 wired (X, tt)) (meets E 𝓛 𝓣))
    ((y.0.0, y.0.1, tt, y.0.3, y.0.4), y.1)
