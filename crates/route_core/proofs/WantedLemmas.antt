-- What the table of what is wanted tells.
use Rattle.std.proofs.Common.{◌≡◌, ◌≢◌, ◌<◌, ◌≤◌, ◌+◌, ℕ, zero, suc, pos, Bool, true, false, ◌==◌, List, [], ◌∷◌, ◌++◌, length, get_or, take, refl, sym, ap, subst, ◌∙◌, inl, inr, arith}
use Rattle.std.specs.Prelude.{not, ◌&&◌, ◌||◌, nat_lt, if◌then◌else◌}
use Rattle.std.specs.List.{list_any}
use Rattle.std.specs.Ordering.{int_eq}
use Rattle.std.proofs.lemmas.Bool.{both_ways, cases_lt}
use Rattle.std.proofs.lemmas.Bool.Decides.{Decides-eqb, Decides-int_eq, nat_tests}
use Rattle.std.proofs.lemmas.List.Folds.{list_any_more}
use Rattle.sat_clause.specs.declared.literal.Lit.{Lit}
use Rattle.sat_clause.specs.Literal.{Clause, is_among, lit, negation}
use Rattle.route_core.specs.Walking.{serves}
use Rattle.route_core.specs.Wanting.{Tells, WantedState, is_wanted, own_by, told, wanted_by}
use Rattle.route_core.proofs.WalkLemmas.{among-append}

-- ---- a step begins

-- where each place has 0, so has each literal
pub all-zero : (table : List ℕ) → ((k : ℕ) → k < length table → get_or table k 0 ≡ 0) → (k : ℕ)
    → get_or table k 0 ≡ 0
all-zero [] each k = refl
all-zero (n ∷ table) each zero = each 0 (omega arith)
all-zero (n ∷ table) each (suc k) =
    all-zero table (λ j low. each (suc j) (omega (arith, low))) k

-- ---- one literal after another

-- the literal with this number is the next, or is not
same-code : (a b : Lit) → int_eq a.code b.code ≡ true → a ≡ b
same-code a b e = ap lit ((Decides-int_eq a.code b.code).0 e)

among-next : (c : Clause) (i : ℕ) (m : Lit) → i < length c
    → is_among (take (i + 1) c) m
    ≡ (is_among (take i c) m || int_eq (get_or c i (lit (pos 0))).code m.code)
among-next c i m low = list_any_more (λ (x : Lit). int_eq x.code m.code) c i (lit (pos 0)) low

or-true : (a : Bool) → (a || true) ≡ true
or-true true = refl
or-true false = refl

or-false : (a : Bool) → (a || false) ≡ a
or-false true = refl
or-false false = refl

-- one literal more of a step's own clause has its number
pub own-next : (c : Clause) (i : ℕ) → i < length c → (stamp : ℕ) (before now after : List ℕ)
    → told after (get_or c i (lit (pos 0))) ≡ stamp
    → ((m : Lit) → m ≢ get_or c i (lit (pos 0)) → told after m ≡ told now m)
    → ((m : Lit) → told now m ≡ own_by stamp (is_among (take i c) m) (told before m)) → (m : Lit)
    → told after m ≡ own_by stamp (is_among (take (i + 1) c) m) (told before m)
own-next c i low stamp before now after here others so_far m = go (int_eq l.code m.code) refl
  where
    l : Lit
    l = get_or c i (lit (pos 0))

    go : (b : Bool) → int_eq l.code m.code ≡ b
        → told after m ≡ own_by stamp (is_among (take (i + 1) c) m) (told before m)
    go true e =
        ap (told after) (sym (same-code l m e)) ∙ here
        ∙ sym (ap (λ (x : Bool). own_by stamp x (told before m))
        (among-next c i m low ∙ ap (λ (x : Bool). is_among (take i c) m || x) e
        ∙ or-true (is_among (take i c) m)))
    go false e =
        others m (λ same. both_ways _ e ((Decides-int_eq l.code m.code).1
        (ap (λ (x : Lit). x.code) (sym same))))
        ∙ so_far m
        ∙ sym (ap (λ (x : Bool). own_by stamp x (told before m))
        (among-next c i m low ∙ ap (λ (x : Bool). is_among (take i c) m || x) e
        ∙ or-false (is_among (take i c) m)))

wanted-twice : (stamp n : ℕ) (a : Bool) → stamp ≤ wanted_by stamp a n
    → wanted_by stamp true n ≡ wanted_by stamp a n
wanted-twice stamp n true h = refl
wanted-twice stamp n false h =
    ap (λ (x : Bool). if x then stamp + 1 else n) (high n stamp h)
  where
    high : (x y : ℕ) → y ≤ x → nat_lt x y ≡ false
    high x y above = grind (arith, nat_tests)

wanted-first : (stamp n : ℕ) (a : Bool) → wanted_by stamp a n < stamp
    → wanted_by stamp true n ≡ stamp + 1
wanted-first stamp n true h = go (nat_lt n stamp) refl
  where
    go : (b : Bool) → nat_lt n stamp ≡ b → (if b then stamp + 1 else n) ≡ stamp + 1
    go true e = refl
    go false e =
        absurd (let less : (if nat_lt n stamp then stamp + 1 else n) < stamp = h in
        let same = ap (λ (x : Bool). if x then stamp + 1 else n) e in
        let lower : n < stamp = subst (λ (k : ℕ). k < stamp) same less in
        let yes : nat_lt n stamp ≡ true = grind (arith, nat_tests, lower) in both_ways _ e yes)
wanted-first stamp n false h =
    ap (λ (x : Bool). if x then stamp + 1 else n) (low n stamp h)
  where
    low : (x y : ℕ) → x < y → nat_lt x y ≡ true
    low x y below = grind (arith, nat_tests)

-- one literal more of a clause that has a lower number than the step is wanted
pub wanted-next : (c : Clause) (i : ℕ) → i < length c → (stamp : ℕ) (before now after : List ℕ)
    → told now (get_or c i (lit (pos 0))) < stamp
    → told after (get_or c i (lit (pos 0))) ≡ stamp + 1
    → ((m : Lit) → m ≢ get_or c i (lit (pos 0)) → told after m ≡ told now m)
    → ((m : Lit) → told now m ≡ wanted_by stamp (is_among (take i c) m) (told before m)) → (m : Lit)
    → told after m ≡ wanted_by stamp (is_among (take (i + 1) c) m) (told before m)
wanted-next c i low stamp before now after less here others so_far m =
    go (int_eq l.code m.code) refl
  where
    l : Lit
    l = get_or c i (lit (pos 0))

    go : (b : Bool) → int_eq l.code m.code ≡ b
        → told after m ≡ wanted_by stamp (is_among (take (i + 1) c) m) (told before m)
    go true e =
        ap (told after) (sym (same-code l m e)) ∙ here
        ∙ sym (ap (λ (x : Bool). wanted_by stamp x (told before m))
        (among-next c i m low ∙ ap (λ (x : Bool). is_among (take i c) m || x) e
        ∙ or-true (is_among (take i c) m))
        ∙ wanted-first stamp (told before m) (is_among (take i c) m)
        (subst (λ (k : ℕ). k < stamp)
        (ap (told now) (same-code l m e) ∙ so_far m) less))
    go false e =
        others m (λ same. both_ways _ e ((Decides-int_eq l.code m.code).1
        (ap (λ (x : Lit). x.code) (sym same))))
        ∙ so_far m
        ∙ sym (ap (λ (x : Bool). wanted_by stamp x (told before m))
        (among-next c i m low ∙ ap (λ (x : Bool). is_among (take i c) m || x) e
        ∙ or-false (is_among (take i c) m)))

-- one that has no lower one stays as it is
pub wanted-left : (c : Clause) (i : ℕ) → i < length c → (stamp : ℕ) (before now : List ℕ)
    → stamp ≤ told now (get_or c i (lit (pos 0)))
    → ((m : Lit) → told now m ≡ wanted_by stamp (is_among (take i c) m) (told before m)) → (m : Lit)
    → told now m ≡ wanted_by stamp (is_among (take (i + 1) c) m) (told before m)
wanted-left c i low stamp before now high so_far m = go (int_eq l.code m.code) refl
  where
    l : Lit
    l = get_or c i (lit (pos 0))

    go : (b : Bool) → int_eq l.code m.code ≡ b
        → told now m ≡ wanted_by stamp (is_among (take (i + 1) c) m) (told before m)
    go true e =
        so_far m
        ∙ sym (ap (λ (x : Bool). wanted_by stamp x (told before m))
        (among-next c i m low ∙ ap (λ (x : Bool). is_among (take i c) m || x) e
        ∙ or-true (is_among (take i c) m))
        ∙ wanted-twice stamp (told before m) (is_among (take i c) m)
        (subst (λ (k : ℕ). stamp ≤ k) (ap (told now) (same-code l m e) ∙ so_far m) high))
    go false e =
        so_far m
        ∙ sym (ap (λ (x : Bool). wanted_by stamp x (told before m))
        (among-next c i m low ∙ ap (λ (x : Bool). is_among (take i c) m || x) e
        ∙ or-false (is_among (take i c) m)))

not-equal : (a b : ℕ) → (a ≡ b → ⊥) → (a == b) ≡ false
not-equal a b h = go (a == b) refl
  where
    go : (x : Bool) → (a == b) ≡ x → x ≡ false
    go false e = refl
    go true e = absurd (h ((Decides-eqb a b).0 e))

equal : (a b : ℕ) → a ≡ b → (a == b) ≡ true
equal a b h = (Decides-eqb a b).1 h

-- ---- the literals of a clause are wanted

wanted-most : (stamp : ℕ) (a : Bool) (n : ℕ) → n ≤ stamp + 1 → wanted_by stamp a n ≤ stamp + 1
wanted-most stamp false n h = h
wanted-most stamp true n h = go (nat_lt n stamp)
  where
    go : (b : Bool) → (if b then stamp + 1 else n) ≤ stamp + 1
    go true = omega arith
    go false = h

-- no number is above that of what is wanted
pub low : (stamp : ℕ) (before after : List ℕ) (clause : Clause)
    → ((m : Lit) → told before m ≤ stamp + 1)
    → ((m : Lit) → told after m ≡ wanted_by stamp (is_among clause m) (told before m)) → (m : Lit)
    → told after m ≤ stamp + 1
low stamp before after clause most is m =
    subst (λ (k : ℕ). k ≤ stamp + 1) (sym (is m))
    (wanted-most stamp (is_among clause m) (told before m) (most m))

-- a number says the same of its own and, with the literals of the clause, of what is wanted
record Says (stamp n : ℕ) (own wanted : Bool) : Type 0 where
  of_own : (n == stamp) ≡ own
  of_wanted : (n == stamp + 1) ≡ (wanted && not own)

says-more : (stamp n : ℕ) (a own wanted : Bool) → n ≤ stamp + 1 → Says stamp n own wanted
    → Says stamp (wanted_by stamp a n) own (a || wanted)
says-more stamp n false own wanted most says = says
says-more stamp n true own wanted most says = go (nat_lt n stamp) refl
  where
    go : (b : Bool) → nat_lt n stamp ≡ b
        → Says stamp (if b then stamp + 1 else n) own (true || wanted)
    go true e =
        let lower : n < stamp = grind (arith, nat_tests, e) in
        let no : own ≡ false =
        sym says.of_own ∙ not-equal n stamp (λ same. omega (arith, lower, same)) in
        record {
          of_own = not-equal (stamp + 1) stamp (λ same. omega (arith, same)) ∙ sym no;
          of_wanted = equal (stamp + 1) (stamp + 1) refl ∙ ap (λ (x : Bool). not x) (sym no);
        }
    go false e = elim (cases_lt stamp n) [
      | inl above ↦ (let same : n ≡ stamp + 1 = omega (arith, above, most) in
          let no : own ≡ false =
          sym says.of_own ∙ not-equal n stamp (λ here. omega (arith, here, above)) in
          record {
            of_own = says.of_own;
            of_wanted = equal n (stamp + 1) same ∙ ap (λ (x : Bool). not x) (sym no);
          })
      | inr not_above ↦ (let lower : stamp ≤ n = grind (arith, nat_tests, e) in
          let same : n ≡ stamp = omega (arith, not_above, lower) in
          let yes : own ≡ true = sym says.of_own ∙ equal n stamp same in
          record {
            of_own = says.of_own;
            of_wanted = not-equal n (stamp + 1) (λ here. omega (arith, here, same))
                ∙ ap (λ (x : Bool). not x) (sym yes);
          })
    ]

-- the literals of a clause are wanted too
pub told_more : (size stamp : ℕ) (before after : List ℕ) (clause own : Clause)
    (wanted : List Lit) → ((m : Lit) → told before m ≤ stamp + 1)
    → ((m : Lit) → told after m ≡ wanted_by stamp (is_among clause m) (told before m))
    → Tells own wanted (record { size = size; stamp = stamp; table = before })
    → Tells own (clause ++ wanted) (record { size = size; stamp = stamp; table = after })
told_more size stamp before after clause own wanted most is tells = record {
  own_told = λ m. ap (λ n. n == stamp) (is m) ∙ (said m).of_own;
  wanted_told = λ m. ap (λ n. n == stamp + 1) (is m) ∙ (said m).of_wanted
      ∙ ap (λ (x : Bool). x && not (is_among own m)) (sym (among-append clause wanted m));
}
  where
    said : (m : Lit) → Says stamp (wanted_by stamp (is_among clause m) (told before m))
        (is_among own m) (is_among clause m || is_among wanted m)
    said m = says-more stamp (told before m) (is_among clause m) (is_among own m)
        (is_among wanted m) (most m)
        (record { of_own = tells.own_told m; of_wanted = tells.wanted_told m })

-- so it shows whether a clause serves
pub serves-told : (own : Clause) (wanted : List Lit) (w : WantedState) (clause : Clause)
    → Tells own wanted w
    → list_any (λ m. is_wanted w (negation m)) clause ≡ serves own wanted clause
serves-told own wanted w clause tells =
    ap (λ (test : Lit → Bool). list_any test clause) (λ i m. tells.wanted_told (negation m) i)
