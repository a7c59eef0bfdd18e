-- Hints that are followed one after another, and those of the steps of a count.
use Rattle.std.proofs.Common.{◌≡◌, ◌≢◌, ℕ, suc, ℤ, pos, negsuc, true, false, Option, Some, None, List, [], ◌∷◌, refl, sym, ap, subst, ◌∙◌, inl, inr, arith}
use Rattle.std.proofs.lemmas.List.Elements.{All-cons, All-nil}
use Rattle.sat_clause.specs.declared.cause.Cause.{Cause}
use Rattle.sat_clause.specs.declared.literal.Lit.{Lit}
use Rattle.sat_clause.specs.declared.reading.Reading.TheVariants.{Conflict, Unit}
use Rattle.sat_clause.specs.Literal.{Clause, is_among, negation}
use Rattle.sat_clause.specs.Live.{Live, named}
use Rattle.sat_clause.specs.Rup.{Reads}
use Rattle.sat_clause.proofs.LiteralLaws.{among_other}
use Rattle.sat_clause.proofs.ReadingLaws.{AllFalse, HasOneOpen, IsFalseOr, all_conflict, follow_conflict, follow_unit, open_is_unit}
use Rattle.sat_rat.specs.FullRup.{lead}
use Rattle.sat_count.specs.Names.{no, yes}

-- ---- one hint

pub lead-unit : (live : Live) (set : List Lit) (id : ℕ) (hints : List ℤ)
    (end : List Lit → Option Cause) (c : Clause) (l : Lit) → named live (pos id) ≡ Some c
    → HasOneOpen set l c → is_among set (negation l) ≡ false
    → lead live set (pos id ∷ hints) end ≡ lead live (negation l ∷ set) hints end
lead-unit live set id hints end c l there one free =
    follow_unit set (named live (pos id)) l hints
    (λ m. lead live (negation m ∷ set) hints end)
    (subst (λ (o : Option Clause). Reads set o (Unit l)) (sym there)
    (open_is_unit set l c one free))

pub lead-conflict : (live : Live) (set : List Lit) (id : ℕ) (end : List Lit → Option Cause)
    (c : Clause) → named live (pos id) ≡ Some c → AllFalse set c
    → lead live set (pos id ∷ []) end ≡ None
lead-conflict live set id end c there all =
    follow_conflict set (named live (pos id)) (λ m. lead live (negation m ∷ set) [] end)
    (subst (λ (o : Option Clause). Reads set o Conflict) (sym there) (all_conflict set c all))

-- ---- clauses of two and three literals

module _ (set : List Lit) where
  pub false-two : (a b : Lit) → is_among set a ≡ true → is_among set b ≡ true
      → AllFalse set (a ∷ b ∷ [])
  false-two a b fa fb =
      let P : Lit → Type 0 = λ m. is_among set m ≡ true in
      All-cons P a (b ∷ []) fa (All-cons P b [] fb (All-nil P))

  pub false-three : (a b c : Lit) → is_among set a ≡ true → is_among set b ≡ true
      → is_among set c ≡ true → AllFalse set (a ∷ b ∷ c ∷ [])
  false-three a b c fa fb fc =
      let P : Lit → Type 0 = λ m. is_among set m ≡ true in
      All-cons P a (b ∷ c ∷ []) fa (All-cons P b (c ∷ []) fb (All-cons P c [] fc (All-nil P)))

  -- the second of two is open
  pub open-second : (a l : Lit) → is_among set a ≡ true → is_among set l ≡ false
      → HasOneOpen set l (a ∷ l ∷ [])
  open-second a l fa free-l = record {
    has = (1, omega arith, refl);
    free = free-l;
    rest =
        let P : Lit → Type 0 = λ m. IsFalseOr set l m in
        All-cons P a (l ∷ []) (inl fa) (All-cons P l [] (inr refl) (All-nil P));
  }

  -- the first of two is
  pub open-first : (l b : Lit) → is_among set b ≡ true → is_among set l ≡ false
      → HasOneOpen set l (l ∷ b ∷ [])
  open-first l b fb free-l = record {
    has = (0, omega arith, refl);
    free = free-l;
    rest =
        let P : Lit → Type 0 = λ m. IsFalseOr set l m in
        All-cons P l (b ∷ []) (inr refl) (All-cons P b [] (inl fb) (All-nil P));
  }

  -- the last of three is
  pub open-third : (a b l : Lit) → is_among set a ≡ true → is_among set b ≡ true
      → is_among set l ≡ false → HasOneOpen set l (a ∷ b ∷ l ∷ [])
  open-third a b l fa fb free-l = record {
    has = (2, omega arith, refl);
    free = free-l;
    rest =
        let P : Lit → Type 0 = λ m. IsFalseOr set l m in
        All-cons P a (b ∷ l ∷ []) (inl fa)
        (All-cons P b (l ∷ []) (inl fb) (All-cons P l [] (inr refl) (All-nil P)));
  }

-- ---- which literals are among others

yes-differ : (a b : ℕ) → a ≢ b → yes a ≢ yes b
yes-differ a b other e = other (of_codes (ap (λ (l : Lit). l.code) e))
  where
    of_codes : pos (suc a) ≡ pos (suc b) → a ≡ b
    of_codes f = cc

no-differ : (a b : ℕ) → a ≢ b → no a ≢ no b
no-differ a b other e = other (of_codes (ap (λ (l : Lit). l.code) e))
  where
    of_codes : negsuc a ≡ negsuc b → a ≡ b
    of_codes f = cc

signs-differ : (a b : ℕ) → yes a ≢ no b
signs-differ a b e = of_codes (ap (λ (l : Lit). l.code) e)
  where
    of_codes : pos (suc a) ≡ negsuc b → ⊥
    of_codes f = cc

pub past-yes : (s : List Lit) (a b : ℕ) → a ≢ b → is_among s (yes b) ≡ false
    → is_among (yes a ∷ s) (yes b) ≡ false
past-yes s a b other h = among_other s (yes a) (yes b) (yes-differ a b other) ∙ h

pub past-no : (s : List Lit) (a b : ℕ) → a ≢ b → is_among s (no b) ≡ false
    → is_among (no a ∷ s) (no b) ≡ false
past-no s a b other h = among_other s (no a) (no b) (no-differ a b other) ∙ h

pub over-no : (s : List Lit) (a b : ℕ) → is_among s (yes b) ≡ false
    → is_among (no a ∷ s) (yes b) ≡ false
over-no s a b h = among_other s (no a) (yes b) (λ e. signs-differ b a (sym e)) ∙ h

pub over-yes : (s : List Lit) (a b : ℕ) → is_among s (no b) ≡ false
    → is_among (yes a ∷ s) (no b) ≡ false
over-yes s a b h = among_other s (yes a) (no b) (signs-differ a b) ∙ h
