-- What a draft becomes, one number at a time.
use Rattle.std.proofs.Common.{◌≡◌, ◌<◌, ◌≤◌, ℕ, zero, suc, ℤ, pos, negsuc, Bool, true, false, List, [], ◌∷◌, ◌++◌, append-nil, append_assoc, Some, drop, slice_get, subst, refl, sym, ap, ◌∙◌, arith}
use Rattle.std.specs.Prelude.{◌||◌, not, nat_abs, nat_lt, map, option_and_then}
use Rattle.std.specs.List.{list_any}
use Rattle.std.specs.Ordering.{int_eq}
use Rattle.std.proofs.lemmas.Bool.Decides.{Decides-int_eq}
use Rattle.std.proofs.lemmas.Bool.{false_from_ne_true, le-ltb, lt-ltb}
use Rattle.std.proofs.lemmas.List.{map-append}
use Rattle.std.proofs.lemmas.List.Folds.{list_any-append}
use Rattle.fpga_text.specs.Bytes.{is_empty}
use Rattle.fpga_text.specs.Numbers.{signed_number_of}
use Rattle.fpga_text.specs.Words.{Words}
use Rattle.sat_clause.specs.declared.literal.Lit.{Lit}
use Rattle.sat_clause.specs.Literal.{IsWithin, is_among, lit, negation, variable}
use Rattle.sat_clause.proofs.LiteralLaws.{negation_differs, variable_negation}
use Rattle.sat_text.specs.Numbers.{is_zero, numbers_of}
use Rattle.sat_text.proofs.FrontLemmas.{front_more, front_none}
use Rattle.model_text.specs.declared.assignment.Assignment.{Assignment}
use Rattle.model_text.specs.declared.draft.Draft.{Draft}
use Rattle.model_text.specs.Assignments.{gives, vars_in}
use Rattle.model_text.specs.Drafts.{IsDraftOf, TakesValues}
use Rattle.model_text.specs.Models.{before_zero, gives_both, goes_on, has_strange_variable, literals_in}
use Rattle.model_text.proofs.MarkLemmas.{int_eq-other, negation-turns, or-no, or-yes}

-- ---- numbers up to a 0

-- behind a 0 nothing more is said
pub before_zero-ended : (xs ys : List ℤ) → list_any is_zero xs ≡ true
    → before_zero (xs ++ ys) ≡ before_zero xs
before_zero-ended [] ys ended = absurd (let clash : false ≡ true = ended in cc)
before_zero-ended (x ∷ xs) ys ended = go (is_zero x) refl (before_zero-ended xs ys) where
  go : (b : Bool) → is_zero x ≡ b
      → (list_any is_zero xs ≡ true → before_zero (xs ++ ys) ≡ before_zero xs)
      → before_zero ((x ∷ xs) ++ ys) ≡ before_zero (x ∷ xs)
  go true e later = rw e refl
  go false e later = rw e (ap (λ (l : List ℤ). x ∷ l) (later (rw e at ended)))

-- without a 0 all is said
pub before_zero-open : (xs ys : List ℤ) → list_any is_zero xs ≡ false
    → before_zero (xs ++ ys) ≡ xs ++ before_zero ys
before_zero-open [] ys none = refl
before_zero-open (x ∷ xs) ys none = go (is_zero x) refl (before_zero-open xs ys) where
  go : (b : Bool) → is_zero x ≡ b
      → (list_any is_zero xs ≡ false → before_zero (xs ++ ys) ≡ xs ++ before_zero ys)
      → before_zero ((x ∷ xs) ++ ys) ≡ (x ∷ xs) ++ before_zero ys
  go true e later = absurd (let clash : true ≡ false = (rw e at none) in cc)
  go false e later = rw e (ap (λ (l : List ℤ). x ∷ l) (later (rw e at none)))

alone : (n : ℤ) → goes_on (n ∷ []) ≡ false
alone n = go (is_zero n) refl where
  go : (b : Bool) → is_zero n ≡ b → goes_on (n ∷ []) ≡ false
  go true e = rw e refl
  go false e = rw e refl

some_more : (xs : List ℤ) (n : ℤ) → is_empty (xs ++ n ∷ []) ≡ false
some_more [] n = refl
some_more (x ∷ xs) n = refl

-- one more number stands behind a 0 where there was one
pub goes_on-more : (xs : List ℤ) (n : ℤ) → goes_on (xs ++ n ∷ []) ≡ list_any is_zero xs
goes_on-more [] n = alone n
goes_on-more (x ∷ xs) n = go (is_zero x) refl (goes_on-more xs n) where
  go : (b : Bool) → is_zero x ≡ b → goes_on (xs ++ n ∷ []) ≡ list_any is_zero xs
      → goes_on ((x ∷ xs) ++ n ∷ []) ≡ list_any is_zero (x ∷ xs)
  go true e later = rw e (ap not (some_more xs n))
  go false e later = rw e later

pub goes_on-open : (xs : List ℤ) → list_any is_zero xs ≡ false → goes_on xs ≡ false
goes_on-open [] none = refl
goes_on-open (x ∷ xs) none = go (is_zero x) refl (goes_on-open xs) where
  go : (b : Bool) → is_zero x ≡ b → (list_any is_zero xs ≡ false → goes_on xs ≡ false)
      → goes_on (x ∷ xs) ≡ false
  go true e later = absurd (let clash : true ≡ false = (rw e at none) in cc)
  go false e later = rw e (later (rw e at none))

-- whether there is a 0, with one number more
pub zero-more : (xs : List ℤ) (n : ℤ)
    → list_any is_zero (xs ++ n ∷ []) ≡ (list_any is_zero xs || is_zero n)
zero-more xs n = list_any-append is_zero xs (n ∷ [])
    ∙ ap (λ b. list_any is_zero xs || b) (or-no (is_zero n) false refl)

-- ---- literals

-- a literal more is among them
pub is_among-more : (ls : List Lit) (l m : Lit)
    → is_among (ls ++ l ∷ []) m ≡ (is_among ls m || int_eq l.code m.code)
is_among-more ls l m = list_any-append (λ (k : Lit). int_eq k.code m.code) ls (l ∷ [])
    ∙ ap (λ b. is_among ls m || b) (or-no (int_eq l.code m.code) false refl)

pub strange-more : (vars : ℕ) (ls : List Lit) (l : Lit)
    → has_strange_variable vars (ls ++ l ∷ [])
    ≡ (has_strange_variable vars ls || nat_lt vars (variable l))
strange-more vars ls l = list_any-append (λ (k : Lit). nat_lt vars (variable k)) ls (l ∷ [])
    ∙ ap (λ b. has_strange_variable vars ls || b) (or-no (nat_lt vars (variable l)) false refl)

or_middle : (a b x y : Bool) → ((a || b) || (x || y)) ≡ ((a || x) || (b || y))
or_middle true b x y = refl
or_middle false true true y = refl
or_middle false true false y = refl
or_middle false false x y = refl

or_again : (g x : Bool) → ((g || x) || ((x || false) || false)) ≡ (g || x)
or_again true x = refl
or_again false true = refl
or_again false false = refl

-- of some literals a negation is among these and one more, or that one's is among them
both_among : (ls : List Lit) (l : Lit) (some : List Lit)
    → list_any (λ m. is_among (ls ++ l ∷ []) (negation m)) some
    ≡ (list_any (λ m. is_among ls (negation m)) some || is_among some (negation l))
both_among ls l [] = refl
both_among ls l (m ∷ some) =
    (λ i. is_among-more ls l (negation m) i || both_among ls l some i)
    ∙ or_middle (is_among ls (negation m)) (int_eq l.code (negation m).code)
    (list_any (λ k. is_among ls (negation k)) some) (is_among some (negation l))
    ∙ ap (λ b. (is_among ls (negation m) || list_any (λ k. is_among ls (negation k)) some)
    || (b || is_among some (negation l))) (negation-turns l m)

-- one literal more is said both ways where its negation was among them
pub both-more : (ls : List Lit) (l : Lit) → 1 ≤ variable l
    → gives_both (ls ++ l ∷ []) ≡ (gives_both ls || is_among ls (negation l))
both-more ls l some =
    list_any-append (λ m. is_among (ls ++ l ∷ []) (negation m)) ls (l ∷ [])
    ∙ (λ i. both_among ls l ls i || (is_among-more ls l (negation l) i || false))
    ∙ ap (λ b. (gives_both ls || is_among ls (negation l))
    || ((is_among ls (negation l) || b) || false))
    (int_eq-other l.code (negation l).code
    (λ e. negation_differs l some (ap lit (sym e))))
    ∙ or_again (gives_both ls) (is_among ls (negation l))

-- ---- one number more

-- a number that is not 0 is no 0
pub no_zero : (n : ℤ) → (n ≡ pos 0 → ⊥) → is_zero n ≡ false
no_zero n other = false_from_ne_true (is_zero n) (λ is. other ((Decides-int_eq n (pos 0)).0 is))

pub nonzero_size : (n : ℤ) → is_zero n ≡ false → 1 ≤ nat_abs n
nonzero_size (pos zero) some = absurd (let clash : true ≡ false = some in cc)
nonzero_size (pos (suc n)) some = omega arith
nonzero_size (negsuc n) some = omega arith

-- a number that is no 0 says a literal where none came before
pub literals-more : (before : List ℤ) (n : ℤ) → list_any is_zero before ≡ false
    → is_zero n ≡ false → literals_in (before ++ n ∷ []) ≡ literals_in before ++ lit n ∷ []
literals-more before n none some =
    ap (map lit) (before_zero-open before (n ∷ []) none ∙ ap (λ (l : List ℤ). before ++ l) one)
    ∙ map-append lit before (n ∷ [])
    ∙ ap (λ (l : List Lit). l ++ lit n ∷ []) (ap (map lit) (sym all))
  where
    one : before_zero (n ∷ []) ≡ n ∷ []
    one = rw some refl

    all : before_zero before ≡ before
    all = ap before_zero (sym (append-nil before)) ∙ before_zero-open before [] none
        ∙ append-nil before

module _ (old : Draft) (before : List ℤ) (n : ℤ) (is : IsDraftOf before old) where
  -- behind a 0
  pub take-behind : old.ended ≡ true
      → IsDraftOf (before ++ n ∷ []) (record old { behind = true })
  take-behind ended =
      let zero : list_any is_zero before ≡ true = sym is.ended ∙ ended in
      let same : literals_in (before ++ n ∷ []) ≡ literals_in before =
      ap (map lit) (before_zero-ended before (n ∷ []) zero) in
      record {
        ended = ended ∙ sym (zero-more before n ∙ rw zero refl);
        behind = sym (goes_on-more before n ∙ zero);
        strange = is.strange ∙ ap (has_strange_variable (vars_in old.assignment)) (sym same);
        both = λ there. is.both there ∙ ap gives_both (sym same);
        each = λ l within. is.each l within ∙ ap (λ ls. is_among ls l) (sym same);
      }

  -- a 0
  pub take-zero : old.ended ≡ false → n ≡ pos 0
      → IsDraftOf (before ++ n ∷ []) (record old { ended = true })
  take-zero going e =
      let none : list_any is_zero before ≡ false = sym is.ended ∙ going in
      let here : is_zero n ≡ true = ap is_zero e in
      let same : literals_in (before ++ n ∷ []) ≡ literals_in before =
      ap (map lit) (before_zero-open before (n ∷ []) none
      ∙ ap (λ (l : List ℤ). before ++ l) (rw here refl)
      ∙ sym (ap before_zero (sym (append-nil before)) ∙ before_zero-open before [] none)) in
      record {
        ended = sym (zero-more before n ∙ or-yes (list_any is_zero before) (is_zero n) here);
        behind = is.behind ∙ goes_on-open before none ∙ sym (goes_on-more before n ∙ none);
        strange = is.strange ∙ ap (has_strange_variable (vars_in old.assignment)) (sym same);
        both = λ there. is.both there ∙ ap gives_both (sym same);
        each = λ l within. is.each l within ∙ ap (λ ls. is_among ls l) (sym same);
      }

  module _ (going : old.ended ≡ false) (some : is_zero n ≡ false) where
    none : list_any is_zero before ≡ false
    none = sym is.ended ∙ going

    more : literals_in (before ++ n ∷ []) ≡ literals_in before ++ lit n ∷ []
    more = literals-more before n none some

    still : old.ended ≡ list_any is_zero (before ++ n ∷ [])
    still = is.ended ∙ sym (zero-more before n ∙ or-no (list_any is_zero before) (is_zero n) some)

    silent : old.behind ≡ goes_on (before ++ n ∷ [])
    silent = is.behind ∙ goes_on-open before none ∙ sym (goes_on-more before n ∙ none)

    -- a literal of a variable that is not there
    pub take-strange : vars_in old.assignment < nat_abs n
        → IsDraftOf (before ++ n ∷ []) (record old { strange = true })
    take-strange above = record {
      ended = still;
      behind = silent;
      strange = sym (ap (has_strange_variable (vars_in old.assignment)) more
          ∙ strange-more (vars_in old.assignment) (literals_in before) (lit n)
          ∙ or-yes (has_strange_variable (vars_in old.assignment) (literals_in before))
          (nat_lt (vars_in old.assignment) (nat_abs n))
          (lt-ltb (vars_in old.assignment) (nat_abs n) above));
      both = λ clash. absurd (let e : true ≡ false = clash in cc);
      each = λ l within. is.each l within
          ∙ sym (ap (λ ls. is_among ls l) more ∙ is_among-more (literals_in before) (lit n) l
          ∙ or-no (is_among (literals_in before) l) (int_eq n l.code)
          (int_eq-other n l.code (λ e. let size : nat_abs n ≡ variable l = ap nat_abs e in
          omega (arith, above, size, within.1))));
    }

    -- a literal
    pub take-literal : (a : Assignment) (given : Bool) → nat_abs n ≤ vars_in old.assignment
        → vars_in a ≡ vars_in old.assignment
        → ((l : Lit) → IsWithin (vars_in old.assignment) l
        → gives a l ≡ (gives old.assignment l || int_eq n l.code))
        → given ≡ gives old.assignment (negation (lit n))
        → IsDraftOf (before ++ n ∷ []) (record old { both = old.both || given; assignment = a })
    take-literal a given inside vars marks there =
        let size = nonzero_size n some in
        let turned : IsWithin (vars_in old.assignment) (negation (lit n)) =
        (rw (variable_negation (lit n)) (size, inside)) in
        record {
          ended = still;
          behind = silent;
          strange = is.strange
              ∙ sym (ap (has_strange_variable (vars_in a)) more
              ∙ strange-more (vars_in a) (literals_in before) (lit n)
              ∙ ap (λ v. has_strange_variable v (literals_in before) || nat_lt v (nat_abs n)) vars
              ∙ or-no (has_strange_variable (vars_in old.assignment) (literals_in before))
              (nat_lt (vars_in old.assignment) (nat_abs n))
              (le-ltb (vars_in old.assignment) (nat_abs n) inside));
          both = λ known. (λ i. is.both known i || (there ∙ is.each (negation (lit n)) turned) i)
              ∙ sym (ap gives_both more ∙ both-more (literals_in before) (lit n) size);
          each = λ l within. let inside_old : IsWithin (vars_in old.assignment) l =
              (rw vars at within) in
              marks l inside_old ∙ ap (λ b. b || int_eq n l.code) (is.each l inside_old)
              ∙ sym (ap (λ ls. is_among ls l) more
              ∙ is_among-more (literals_in before) (lit n) l);
        }

-- ---- the numbers of a line

-- no number was taken yet
pub values-none : (draft : Draft) (words : Words) → TakesValues draft draft words words
values-none draft words = record {
  numbers = [];
  front = front_none words;
  vars = refl;
  taken = λ before is. subst (λ (ns : List ℤ). IsDraftOf ns draft) (sym (append-nil before)) is;
}

-- one more number is taken
pub values-more : (old now new : Draft) (words ahead rest : Words) (n : ℤ)
    → TakesValues old now words ahead
    → Some n ≡ option_and_then signed_number_of (slice_get ahead 0) → rest ≡ drop 1 ahead
    → vars_in new.assignment ≡ vars_in now.assignment
    → ((before : List ℤ) → IsDraftOf before now → IsDraftOf (before ++ n ∷ []) new)
    → TakesValues old new words rest
values-more old now new words ahead rest n so_far said more vars taken = record {
  numbers = so_far.numbers ++ n ∷ [];
  front = front_more words ahead rest so_far.numbers n so_far.front said more;
  vars = vars ∙ so_far.vars;
  taken = λ before is. subst (λ (ns : List ℤ). IsDraftOf ns new)
      (append_assoc before so_far.numbers (n ∷ []))
      (taken (before ++ so_far.numbers) (so_far.taken before is));
}

no_words : (words : Words) → is_empty words ≡ true → words ≡ []
no_words [] none = refl
no_words (word ∷ more) none = absurd (let clash : false ≡ true = none in cc)

-- all numbers of the words were taken
pub values-all : (old new : Draft) (words rest : Words) → TakesValues old new words rest
    → is_empty rest ≡ true → (before : List ℤ) → IsDraftOf before old
    → IsDraftOf (before ++ numbers_of words) new
values-all old new words rest h none before is =
    subst (λ (ns : List ℤ). IsDraftOf (before ++ ns) new)
    (sym (h.front.said ∙ ap (λ (ws : Words). h.numbers ++ numbers_of ws) (no_words rest none)
    ∙ append-nil h.numbers)) (h.taken before is)
