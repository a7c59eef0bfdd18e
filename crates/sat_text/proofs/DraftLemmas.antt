-- What a draft becomes, one number at a time.
use Rattle.std.proofs.Common.{◌≡◌, ◌<◌, ◌≤◌, ◌+◌, ℕ, zero, suc, ℤ, pos, Bool, false, true, List, [], ◌∷◌, ◌++◌, ◌⊎◌, inl, inr, length, None, Some, refl, sym, ap, ◌∙◌, arith, append_assoc, append-nil, length-append}
use Rattle.std.specs.Prelude.{All, map, nat_abs, is_some, ◌==◌, ◌&&◌, ◌||◌, slice_get, drop, option_and_then, if◌then◌else◌}
use Rattle.std.specs.List.{slice_split, onto_first}
use Rattle.std.proofs.lemmas.Bool.{ne_eqb}
use Rattle.std.proofs.lemmas.Bool.Decides.{Decides-int_eq}
use Rattle.std.proofs.lemmas.List.{map-append}
use Rattle.std.proofs.lemmas.List.Folds.{list_any-append}
use Rattle.std.proofs.lemmas.List.Splits.{slice_split_at, slice_split_none, length-slice_split}
use Rattle.fpga_text.specs.Bytes.{is_empty}
use Rattle.fpga_text.specs.Numbers.{signed_number_of}
use Rattle.fpga_text.specs.Words.{Words}
use Rattle.sat_clause.specs.declared.literal.Lit.{Lit}
use Rattle.sat_clause.specs.Literal.{Clause, IsWithin, lit}
use Rattle.sat_text.specs.declared.draft.Draft.{Draft}
use Rattle.sat_text.specs.declared.head.Head.{Head}
use Rattle.sat_text.specs.CnfText.{but_last, clause_parts, has_strange_variable, last_part, whole_clauses}
use Rattle.sat_text.specs.Drafts.{TakesLineFront, TakesNumbers, clauses_with, head_in, parts_with}
use Rattle.sat_text.specs.Numbers.{is_zero}
use Rattle.sat_text.proofs.FrontLemmas.{front_more}

-- more numbers are taken
pub takes_more : {first now new : Draft} (done more : List ℤ) → TakesNumbers first now done
    → TakesNumbers now new more → TakesNumbers first new (done ++ more)
takes_more {first} {now} {new} done more before after = record {
  head = after.head ∙ before.head;
  clauses = λ ahead. after.clauses ahead ∙ before.clauses (more ++ ahead)
      ∙ ap (clauses_with first) (sym (append_assoc done more ahead));
}

-- the numbers are found in the parts of the text
takes_parts : (old new : Draft) (numbers : List ℤ) → head_in new ≡ head_in old → new.excess
    ≡ old.excess → ((ahead : List ℤ) → parts_with new ahead ≡ parts_with old (numbers ++ ahead))
    → TakesNumbers old new numbers
takes_parts old new numbers head excess parts = record {
  head = head;
  clauses = λ ahead. λ i. if excess i then None else whole_clauses (head i).clauses (parts ahead i);
}

-- the literals with the numbers of literals are these literals
pub lits_of_codes : (open_clause : Clause) → map lit (map (λ (l : Lit). l.code) open_clause)
    ≡ open_clause
lits_of_codes [] = refl
lits_of_codes (l ∷ ls) = ap (λ (rest : Clause). l ∷ rest) (lits_of_codes ls)

pub not_zero : (z : ℤ) → 1 ≤ nat_abs z → is_zero z ≡ false
not_zero z some = go (is_zero z) refl where
  go : (b : Bool) → is_zero z ≡ b → is_zero z ≡ false
  go false e = e
  go true e = absurd (let is : z ≡ pos 0 =
      (Decides-int_eq z (pos 0)).0 e in let size : nat_abs z ≡ 0 =
      ap nat_abs is in omega (arith, some, size))

-- no literal is a 0
pub no_zeros : (vars : ℕ) (open_clause : Clause) → All (IsWithin vars) open_clause
    → All (λ z. is_zero z ≡ false) (map (λ (l : Lit). l.code) open_clause)
no_zeros vars [] within k d inside = absurd (omega arith)
no_zeros vars (l ∷ ls) within zero d inside = not_zero l.code (within 0 l (omega arith)).0
no_zeros vars (l ∷ ls) within (suc k) d inside =
    no_zeros vars ls (λ j e h. within (suc j) e (omega arith)) k d (omega arith)

-- a 0 ends the open clause
clause_parts-zero : (vars : ℕ) (open_clause : Clause) (ahead : List ℤ)
    → All (IsWithin vars) open_clause
    → clause_parts (map (λ (l : Lit). l.code) open_clause ++ pos 0 ∷ ahead)
    ≡ open_clause ∷ clause_parts ahead
clause_parts-zero vars open_clause ahead within =
    ap (map (map lit)) (slice_split_at is_zero (map (λ (l : Lit). l.code) open_clause) (pos 0) ahead
    (no_zeros vars open_clause within) refl)
    ∙ ap (λ (c : Clause). c ∷ clause_parts ahead) (lits_of_codes open_clause)

-- the open clause was added to the formula
pub takes_zero : (old new : Draft) → head_in new ≡ head_in old → new.excess ≡ old.excess
    → new.formula.cnf.clauses ≡ old.formula.cnf.clauses ++ old.open_clause.items ∷ []
    → new.open_clause.items ≡ [] → TakesNumbers old new (pos 0 ∷ [])
takes_zero old new head excess clauses none = takes_parts old new (pos 0 ∷ []) head excess
    (λ ahead. rw (clauses, none) (append_assoc old.formula.cnf.clauses (old.open_clause.items ∷ [])
    (clause_parts ahead)
    ∙ ap (λ (cs : List Clause). old.formula.cnf.clauses ++ cs)
    (sym (clause_parts-zero old.formula.cnf.vars old.open_clause.items ahead old.within))))

-- a literal was put behind the open clause
pub takes_literal : (old new : Draft) (z : ℤ) → head_in new ≡ head_in old → new.excess ≡ old.excess
    → new.formula.cnf.clauses ≡ old.formula.cnf.clauses → new.open_clause.items
    ≡ old.open_clause.items ++ lit z ∷ []
    → TakesNumbers old new (z ∷ [])
takes_literal old new z head excess same items = takes_parts old new (z ∷ []) head excess
    (λ ahead. rw (same, items, map-append (λ (l : Lit). l.code) old.open_clause.items (lit z ∷ []))
    (ap (λ (l : List ℤ). old.formula.cnf.clauses ++ clause_parts l)
    (append_assoc (map (λ (l : Lit). l.code) old.open_clause.items) (z ∷ []) ahead)))

length-but_last : (parts : List Clause) → 0 < length parts → length (but_last parts) + 1
    ≡ length parts
length-but_last [] some = absurd (omega arith)
length-but_last (x ∷ []) some = refl
length-but_last (x ∷ y ∷ more) some =
    let later = length-but_last (y ∷ more) (omega arith) in omega (arith, later)

pub last_part-append : (xs ys : List Clause) → 0 < length ys → last_part (xs ++ ys) ≡ last_part ys
last_part-append [] ys some = refl
last_part-append (x ∷ []) [] some = absurd (omega arith)
last_part-append (x ∷ []) (y ∷ ys) some = refl
last_part-append (x ∷ y ∷ more) ys some = last_part-append (y ∷ more) ys some

-- there are two parts, or the last is not empty
abbrev IsMore : List Clause → Type 0
IsMore parts = (2 ≤ length parts) ⊎ (is_empty (last_part parts) ≡ false)

-- a number makes such parts
number_is_more : (n : ℤ) (ns : List ℤ) → IsMore (clause_parts (n ∷ ns))
number_is_more n ns =
    go (is_zero n) (slice_split is_zero ns) (omega (arith, length-slice_split is_zero ns))
  where
    go : (b : Bool) (parts : List (List ℤ)) → 0 < length parts
        → IsMore (map (map lit) (if b then [] ∷ parts else onto_first n parts))
    go b [] some = absurd (omega (arith, some))
    go true (part ∷ more) some = inl (omega arith)
    go false (part ∷ []) some = inr refl
    go false (part ∷ next ∷ more) some = inl (omega arith)

-- behind so many clauses such parts are too many
too_many : (count : ℕ) (clauses parts : List Clause) → count ≤ length clauses → IsMore parts
    → whole_clauses count (clauses ++ parts) ≡ None
too_many count clauses parts few (inl two) =
    rw (ne_eqb (length (but_last (clauses ++ parts))) count other) refl
  where
    other : length (but_last (clauses ++ parts)) ≡ count → ⊥
    other e =
        let size = length-append clauses parts in
        omega (
          arith,
          e,
          few,
          two,
          size,
          length-but_last (clauses ++ parts) (omega (arith, two, size)),
        )
too_many count clauses [] few (inr behind) = absurd (let clash : true ≡ false = behind in cc)
too_many count clauses (part ∷ more) few (inr behind) =
    rw (last_part-append clauses (part ∷ more) (omega arith), behind)
    (go (length (but_last (clauses ++ part ∷ more)) == count))
  where
    go : (b : Bool) → (if b && false then Some (but_last (clauses ++ part ∷ more)) else None) ≡ None
    go true = refl
    go false = refl

-- a number came behind so many clauses
pub takes_excess : (old new : Draft) (n : ℤ) → head_in new ≡ head_in old → new.excess ≡ true
    → old.most ≤ length old.formula.cnf.clauses → TakesNumbers old new (n ∷ [])
takes_excess old new n head excess many = record {
  head = head;
  clauses = λ ahead. rw excess (sym
      (go old.excess (map (λ (l : Lit). l.code) old.open_clause.items) ahead));
}
  where
    go : (b : Bool) (open_codes ahead : List ℤ)
        → (if b then None else whole_clauses old.most
        (old.formula.cnf.clauses ++ clause_parts (open_codes ++ n ∷ ahead))) ≡ None
    go true open_codes ahead = refl
    go false [] ahead =
        too_many old.most old.formula.cnf.clauses (clause_parts (n ∷ ahead)) many
        (number_is_more n ahead)
    go false (c ∷ more) ahead =
        too_many old.most old.formula.cnf.clauses (clause_parts (c ∷ (more ++ n ∷ ahead))) many
        (number_is_more c (more ++ n ∷ ahead))

pub but_last-push : {X : Type 0} (xs : List X) (x : X) → but_last (xs ++ x ∷ []) ≡ xs
but_last-push [] x = refl
but_last-push (y ∷ []) x = refl
but_last-push (y ∷ z ∷ more) x = ap (λ (l : List _). y ∷ l) (but_last-push (z ∷ more) x)

-- nothing is to come any more
pub clauses_now : (draft : Draft) → clauses_with draft []
    ≡ (if draft.excess then None else if
    (length draft.formula.cnf.clauses == draft.most) && is_empty draft.open_clause.items then Some
    draft.formula.cnf.clauses else None)
clauses_now draft =
    rw (
      append-nil (map (λ (l : Lit). l.code) draft.open_clause.items),
      parts,
      lits_of_codes draft.open_clause.items,
      but_last-push draft.formula.cnf.clauses draft.open_clause.items,
      last_part-append draft.formula.cnf.clauses (draft.open_clause.items ∷ []) (omega arith),
    ) refl
  where
    parts : slice_split is_zero (map (λ (l : Lit). l.code) draft.open_clause.items)
        ≡ map (λ (l : Lit). l.code) draft.open_clause.items ∷ []
    parts = slice_split_none is_zero (map (λ (l : Lit). l.code) draft.open_clause.items)
        (no_zeros draft.formula.cnf.vars draft.open_clause.items draft.within)

-- whether they are so many is known
clauses_known : (draft : Draft) (whole : Bool) → whole ≡ is_some (clauses_with draft [])
    → clauses_with draft [] ≡ (if whole then Some draft.formula.cnf.clauses else None)
clauses_known draft whole is =
    clauses_now draft ∙ go draft.excess
    ((length draft.formula.cnf.clauses == draft.most) && is_empty draft.open_clause.items) whole
    (is ∙ ap is_some (clauses_now draft))
  where
    go : (excess good w : Bool) → w
        ≡ is_some (if excess then None else if good then Some draft.formula.cnf.clauses else None)
        → (if excess then None else if good then Some draft.formula.cnf.clauses else None)
        ≡ (if w then Some draft.formula.cnf.clauses else None)
    go true good w e = rw e refl
    go false true w e = rw e refl
    go false false w e = rw e refl

-- all numbers were taken into an empty draft
pub clauses_read : (old new : Draft) (head : Head) (numbers : List ℤ) (whole : Bool) → head_in old
    ≡ head → old.formula.cnf.clauses ≡ [] → old.open_clause.items ≡ [] → old.excess ≡ false
    → TakesNumbers old new numbers
    → whole ≡ is_some (clauses_with new []) → whole_clauses head.clauses (clause_parts numbers)
    ≡ (if whole then Some new.formula.cnf.clauses else None)
clauses_read old new head numbers whole same none none_open excess taken known =
    sym (taken.clauses [] ∙ rw (excess, none, none_open, append-nil numbers)
    (ap (λ h. whole_clauses h.clauses (clause_parts numbers)) same))
    ∙ clauses_known new whole known

neither : (a b : Bool) → (a || b) ≡ false → (a ≡ false) × (b ≡ false)
neither true b clash = absurd (let no : true ≡ false = clash in cc)
neither false b clean = (refl, clean)

-- one more was taken
pub line_more : (old now new : Draft) (line rest after : Words) (strange found : Bool) (n : ℤ)
    → TakesLineFront old now line rest strange
    → Some n ≡ option_and_then signed_number_of (slice_get rest 0) → after ≡ drop 1 rest
    → found ≡ has_strange_variable now.formula.cnf.vars (n ∷ []) → head_in new ≡ head_in now
    → (found ≡ false → TakesNumbers now new (n ∷ []))
    → TakesLineFront old new line after (strange || found)
line_more old now new line rest after strange found n so_far said behind is head taken = record {
  numbers = so_far.numbers ++ n ∷ [];
  front = front_more line rest after so_far.numbers n so_far.front said behind;
  found = (λ i. so_far.found i || is i)
      ∙ ap (λ h. has_strange_variable old.formula.cnf.vars so_far.numbers || has_strange_variable
      h.vars (n ∷ [])) so_far.head ∙ sym (list_any-append _ so_far.numbers (n ∷ []));
  head = head ∙ so_far.head;
  taken = λ clean. let both =
      neither strange found clean in
      takes_more so_far.numbers (n ∷ []) (so_far.taken both.0) (taken both.1);
}
