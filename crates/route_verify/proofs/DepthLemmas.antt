-- The lines of a net with their depths, line by line.
use Rattle.std.proofs.Common.{◌≡◌, ℕ, ◌+◌, ◌<◌, suc, Bool, true, false, Option, Some, None, List, [], ◌∷◌, ◌++◌, length, refl, sym, ap, subst, ◌∙◌, inl, inr, arith, append_assoc, add-zero}
use Rattle.std.specs.Prelude.{find, map, option_map, option_and_then, if◌then◌else◌}
use Rattle.std.specs.List.{last_or}
use Rattle.std.proofs.lemmas.List.{append-nil, map-append}
use Rattle.list_laws.proofs.Members.{In, In-append_cases, find-In}
use Rattle.list_laws.proofs.Places.{some_is}
use Rattle.fpga_types.specs.Kinds.{is_channel, is_opin, is_sink}
use Rattle.fpga_types.specs.declared.route.Elem.{Elem}
use Rattle.route_verify.specs.Depths.{DeepLine, deep_line, deep_lines, deep_lines_behind, depth_after, depth_behind}

-- one line more is put behind the others
deep-append : (same : Elem → Elem → Bool) (before : List DeepLine) (xs : List Elem) (e : Elem)
    → deep_lines_behind same before (xs ++ e ∷ [])
    ≡ deep_lines_behind same before xs
    ++ deep_line same (deep_lines_behind same before xs) e ∷ []
deep-append same before [] e = refl
deep-append same before (x ∷ xs) e =
    deep-append same (before ++ deep_line same before x ∷ []) xs e

pub deep-push : (same : Elem → Elem → Bool) (xs : List Elem) (e : Elem)
    → deep_lines same (xs ++ e ∷ [])
    ≡ deep_lines same xs ++ deep_line same (deep_lines same xs) e ∷ []
deep-push same xs e = deep-append same [] xs e

-- the lines are those of the net
deep-elems : (same : Elem → Elem → Bool) (before : List DeepLine) (xs : List Elem)
    → map (λ (line : DeepLine). line.elem) (deep_lines_behind same before xs)
    ≡ map (λ (line : DeepLine). line.elem) before ++ xs
deep-elems same before [] = sym (append-nil (map (λ (line : DeepLine). line.elem) before))
deep-elems same before (x ∷ xs) =
    deep-elems same (before ++ deep_line same before x ∷ []) xs
    ∙ ap (λ (zs : List Elem). zs ++ xs)
    (map-append (λ (line : DeepLine). line.elem) before (deep_line same before x ∷ []))
    ∙ append_assoc (map (λ (line : DeepLine). line.elem) before) (x ∷ []) xs

pub deep-are : (same : Elem → Elem → Bool) (xs : List Elem)
    → map (λ (line : DeepLine). line.elem) (deep_lines same xs) ≡ xs
deep-are same xs = deep-elems same [] xs

pub last-In : {A : Type 0} (xs : List A) (x : A) → last_or None xs ≡ Some x → In xs x
last-In [] x h = cc
last-In (x ∷ []) y h = inl (some_is h)
last-In (x ∷ z ∷ zs) y h = inr (last-In (z ∷ zs) y h)

-- the depths are below this number
abbrev pub AreBelow : ℕ → List DeepLine → Type 0
AreBelow n lines = (line : DeepLine) → In lines line → (d : ℕ) → line.depth ≡ Some d → d < n

module _ (same : Elem → Elem → Bool) where
  -- what a look-up or a line says of its depth is below it too
  pub found-below : (n : ℕ) (o : Option DeepLine) (d : ℕ)
      → ((line : DeepLine) → o ≡ Some line → (c : ℕ) → line.depth ≡ Some c → c < n)
      → option_and_then (λ (line : DeepLine). line.depth) o ≡ Some d → d < n
  found-below n None d each is = cc
  found-below n (Some line) d each is = each line refl d is

  pub one-more : (n : ℕ) (o : Option ℕ) (d : ℕ) → ((c : ℕ) → o ≡ Some c → c < n)
      → option_map (λ c. c + 1) o ≡ Some d → d < n + 1
  one-more n None d below is = cc
  one-more n (Some c) d below is =
      let less : c < n = below c refl in let one : c + 1 ≡ d = some_is is in omega arith

  after-below : (n : ℕ) (before : List DeepLine) → AreBelow n before → (previous : DeepLine)
      → In before previous → (e : Elem) (d : ℕ) → depth_after same before previous e ≡ Some d
      → d < n + 1
  after-below n before below previous among e d is =
      go (is_sink previous.elem.kind) (is_opin previous.elem.kind) is
    where
      go : (sink opin : Bool)
          → (if sink
          then option_and_then (λ (line : DeepLine). line.depth)
          (find (λ (line : DeepLine). same e line.elem) before)
          else if opin then Some 0 else option_map (λ d. d + 1) previous.depth) ≡ Some d
          → d < n + 1
      go true second found =
          let less : d < n = found-below n (find (λ (line : DeepLine). same e line.elem) before) d
          (λ line there. below line
          (find-In (λ (line : DeepLine). same e line.elem) before line there).0) found in
          omega arith
      go false true none = let first : 0 ≡ d = some_is none in omega arith
      go false false more = one-more n previous.depth d (below previous among) more

  behind-below : (n : ℕ) (before : List DeepLine) → AreBelow n before → (e : Elem) (d : ℕ)
      → depth_behind same before e ≡ Some d → d < n + 1
  behind-below n before below e d is = go (is_channel e.kind) (last_or None before) refl is
    where
      go : (channel : Bool) (o : Option DeepLine) → last_or None before ≡ o
          → (if channel then option_and_then (λ previous. depth_after same before previous e) o
          else None) ≡ Some d
          → d < n + 1
      go true (Some previous) last after =
          after-below n before below previous (last-In before previous last) e d after
      go true None last after = cc
      go false o last after = cc

  below-more : (n : ℕ) (before : List DeepLine) → AreBelow n before → (xs : List Elem)
      → AreBelow (n + length xs) (deep_lines_behind same before xs)
  below-more n before below [] = subst (λ m. AreBelow m before) (sym (add-zero n)) below
  below-more n before below (x ∷ xs) =
      let next : AreBelow (n + 1) (before ++ deep_line same before x ∷ []) =
      (λ line among d is. elim (In-append_cases before (deep_line same before x ∷ []) line among) [
        | inl old ↦ (let less : d < n = below line old d is in omega arith)
        | inr new ↦ elim new [
          | inl here ↦ behind-below n before below x d
              (ap (λ (l : DeepLine). l.depth) here ∙ is)
          | inr none ↦ absurd none
        ]
      ]) in
      let one : n + 1 + length xs ≡ n + suc (length xs) = omega arith in
      subst (λ m. AreBelow m (deep_lines_behind same (before ++ deep_line same before x ∷ []) xs))
      one (below-more (n + 1) (before ++ deep_line same before x ∷ []) next xs)

  -- no more joins lead to a line than there are lines before it
  pub deep-below : (xs : List Elem) → AreBelow (length xs) (deep_lines same xs)
  deep-below xs =
      let none : 0 + length xs ≡ length xs = omega arith in
      subst (λ m. AreBelow m (deep_lines same xs)) none
      (below-more 0 [] (λ line among. absurd among) xs)
