-- A trail by levels: cut back, over more clauses, and with one entry more.
use Rattle.std.specs.Prelude.{nat_le}
use Rattle.std.proofs.Common.{inl, inr, ◌≡◌, ◌≢◌, ◌<◌, ◌≤◌, ℕ, zero, suc, Bool, true, false, List, [], ◌∷◌, Option, None, Some, Contains, All, refl, sym, ap, ◌∙◌, subst, arith}
use Rattle.std.proofs.lemmas.Bool.{cases_lt, leb-true, le-leb}
use Rattle.std.proofs.lemmas.List.Elements.{All-cons, All-head, All-nil, All-tail, All-weaker}
use Rattle.sat_clause.specs.declared.literal.Lit.{Lit}
use Rattle.sat_clause.specs.Literal.{is_among, negation, variable}
use Rattle.sat_clause.specs.Trail.{IsOnce, IsOpen}
use Rattle.sat_clause.proofs.LiteralLaws.{among_here, among_more, among_other}
use Rattle.sat_core.specs.Levels.{AreLevels, Assigned, after_entry, level_of, lits_of, made_false, up_to}

-- ONE ENTRY OF A VARIABLE

-- a literal of an open variable is of another one than each entry
pub open_entry : (trail : List Assigned) (l : Lit) → IsOpen (lits_of trail) l → (e : Assigned) →
    Contains trail e →
    variable e.lit ≢ variable l
open_entry [] l free e (k, within, is) = absurd (omega (arith, within))
open_entry (x ∷ older) l free e (zero, within, is) =
    let one : x ≡ e = is in
    subst (λ (y : Assigned). variable y.lit ≢ variable l) one
    (All-head (λ (m : Lit). variable m ≢ variable l) x.lit (lits_of older) free)
open_entry (x ∷ older) l free e (suc k, within, is) =
    open_entry older l (All-tail (λ (m : Lit). variable m ≢ variable l) x.lit (lits_of older) free)
    e (k, omega (arith, within), is)

-- where each entry is of another variable, the literal's is open
pub open_from_entries : (trail : List Assigned) (l : Lit) →
    ((e : Assigned) → Contains trail e → variable e.lit ≢ variable l) →
    IsOpen (lits_of trail) l
open_from_entries [] l other = All-nil (λ (m : Lit). variable m ≢ variable l)
open_from_entries (x ∷ older) l other =
    All-cons (λ (m : Lit). variable m ≢ variable l) x.lit (lits_of older)
    (other x (zero, omega arith, refl))
    (open_from_entries older l (λ e has. other e (suc has.0, omega (arith, has.1), has.2)))

-- of a variable there is one entry
pub only_entry : (trail : List Assigned) → IsOnce (lits_of trail) → (e f : Assigned) → Contains
    trail e → Contains trail f →
    variable e.lit ≡ variable f.lit → e ≡ f
only_entry [] once e f (k, within, is) other same = absurd (omega (arith, within))
only_entry (x ∷ older) once e f (zero, within, is) (zero, within_too, is_too) same =
    let one : x ≡ e = is in
    let two : x ≡ f = is_too in
    sym one ∙ two
only_entry (x ∷ older) once e f (zero, within, is) (suc k, within_too, is_too) same =
    let one : x ≡ e = is in
    absurd (open_entry older x.lit once.0 f (k, omega (arith, within_too), is_too)
    (sym same ∙ ap (λ (g : Assigned). variable g.lit) (sym one)))
only_entry (x ∷ older) once e f (suc k, within, is) (zero, within_too, is_too) same =
    let one : x ≡ f = is_too in
    absurd (open_entry older x.lit once.0 e (k, omega (arith, within), is)
    (same ∙ ap (λ (g : Assigned). variable g.lit) (sym one)))
only_entry (x ∷ older) once e f (suc j, within, is) (suc k, within_too, is_too) same =
    only_entry older once.1 e f (j, omega (arith, within), is)
    (k, omega (arith, within_too), is_too) same

-- WHAT IS FALSE AT A LEVEL

pub in_made_false : (j : ℕ) (trail : List Assigned) (e : Assigned) → Contains trail e → nat_le
    e.level j ≡ true →
    is_among (made_false (up_to j trail)) (negation e.lit) ≡ true
in_made_false j [] e (k, within, is) low = absurd (omega (arith, within))
in_made_false j (x ∷ xs) e (zero, within, is) low =
    let same : x ≡ e = is in
    let x_low : nat_le x.level j ≡ true = subst (λ (y : Assigned). nat_le y.level j ≡ true)
    (sym same) low in
    rw x_low (subst (λ (y : Assigned). is_among (negation x.lit ∷ made_false (up_to j xs))
    (negation y.lit) ≡ true) same (among_here (made_false (up_to j xs)) (negation x.lit)))
in_made_false j (x ∷ xs) e (suc k, within, is) low =
    by (nat_le x.level j) refl (in_made_false j xs e (k, omega (arith, within), is) low)
  where
    by : (b : Bool) → nat_le x.level j ≡ b → is_among (made_false (up_to j xs)) (negation e.lit) ≡
        true →
        is_among (made_false (up_to j (x ∷ xs))) (negation e.lit) ≡ true
    by true is rest = rw is (among_more (made_false (up_to j xs)) (negation x.lit) (negation e.lit)
        rest)
    by false is rest = rw is rest

pub not_in_made_false : (j : ℕ) (trail : List Assigned) (l : Lit) →
    ((e : Assigned) → Contains trail e → nat_le e.level j ≡ true → negation e.lit ≢ l) →
    is_among (made_false (up_to j trail)) l ≡ false
not_in_made_false j [] l other = refl
not_in_made_false j (x ∷ xs) l other =
    by (nat_le x.level j) refl (not_in_made_false j xs l
    (λ e has low. other e (suc has.0, omega (arith, has.1), has.2) low))
  where
    by : (b : Bool) → nat_le x.level j ≡ b → is_among (made_false (up_to j xs)) l ≡ false →
        is_among (made_false (up_to j (x ∷ xs))) l ≡ false
    by true is rest = rw is (among_other (made_false (up_to j xs)) (negation x.lit) l
        (other x (zero, omega arith, refl) is) ∙ rest)
    by false is rest = rw is rest

-- an entry of a higher level changes nothing below it
pub up_to_below : (j : ℕ) (e : Assigned) (trail : List Assigned) → j < e.level → up_to j (e ∷ trail)
    ≡ up_to j trail
up_to_below j e trail below = by (nat_le e.level j) refl
  where
    by : (b : Bool) → nat_le e.level j ≡ b → up_to j (e ∷ trail) ≡ up_to j trail
    by true is = let under = leb-true e.level j is in absurd (omega (arith, under, below))
    by false is = rw is refl

-- MORE CLAUSES

-- ONE MORE ENTRY

-- CUT BACK

higher : (reason : Option ℕ) (level : ℕ) → level ≤ after_entry reason level
higher None level = omega arith
higher (Some id) level = omega arith

-- no entry is above the level
pub none_above : (trail : List Assigned) → AreLevels trail
    → All (λ e. e.level ≤ level_of trail) trail
none_above [] levels = All-nil (λ (e : Assigned). e.level ≤ 0)
none_above (e ∷ older) levels =
    let up : level_of older ≤ after_entry e.reason (level_of older) = higher e.reason
    (level_of older) in
    All-cons (λ (f : Assigned). f.level ≤ after_entry e.reason (level_of older)) e older
    (omega (arith, levels.0))
    (All-weaker (λ (f : Assigned). f.level ≤ level_of older)
    (λ (f : Assigned). f.level ≤ after_entry e.reason (level_of older))
    (λ f low. omega (arith, low, up)) older (none_above older levels.1))

up_to_all : (j : ℕ) (trail : List Assigned) → All (λ e. e.level ≤ j) trail → up_to j trail ≡ trail
up_to_all j [] low = refl
up_to_all j (e ∷ older) low =
    let here : nat_le e.level j ≡ true = le-leb e.level j
    (All-head (λ (f : Assigned). f.level ≤ j) e older low) in
    rw here (ap (λ (r : List Assigned). e ∷ r)
    (up_to_all j older (All-tail (λ (f : Assigned). f.level ≤ j) e older low)))

-- at a level from the current one on all entries are read
pub up_to_current : (j : ℕ) (trail : List Assigned) → AreLevels trail → level_of trail ≤ j → up_to j
    trail ≡ trail
up_to_current j trail levels most =
    up_to_all j trail (All-weaker (λ (f : Assigned). f.level ≤ level_of trail)
    (λ (f : Assigned). f.level ≤ j)
    (λ f under. omega (arith, under, most)) trail (none_above trail levels))

cut : (P : List Assigned → Type 0) (j : ℕ) (e : Assigned) (older : List Assigned) → AreLevels
    (e ∷ older) → P (e ∷ older) →
    (j < e.level → P (up_to j older)) → P (up_to j (e ∷ older))
cut P j e older levels whole less =
    elim (cases_lt j e.level) [
      | inl below ↦ subst P (sym (up_to_below j e older below)) (less below)
      | inr low ↦ subst P (sym (up_to_current j (e ∷ older) levels (omega (arith, low, levels.0))))
          whole
    ]

pub levels_back : (j : ℕ) (trail : List Assigned) → AreLevels trail → AreLevels (up_to j trail)
levels_back j [] levels = tt
levels_back j (e ∷ older) levels =
    let rest = levels_back j older levels.1 in cut AreLevels j e older levels levels (λ below. rest)

lower : (j level : ℕ) (reason : Option ℕ) → j < after_entry reason level → j ≤ level
lower j level None below = omega (arith, below)
lower j level (Some id) below = omega (arith, below)

-- the level is the one that the way back leads to
pub level_back : (j : ℕ) (trail : List Assigned) → AreLevels trail → j ≤ level_of trail → level_of
    (up_to j trail) ≡ j
level_back j [] levels most = omega (arith, most)
level_back j (e ∷ older) levels most =
    elim (cases_lt j e.level) [
      | inl below ↦
          let under : j < after_entry e.reason (level_of older) = omega (arith, below, levels.0) in
          let rest : level_of (up_to j older) ≡ j = level_back j older levels.1
          (lower j (level_of older) e.reason under) in
          ap level_of (up_to_below j e older below) ∙ rest
      | inr low ↦
          let top : e.level ≡ level_of (e ∷ older) = levels.0 in
          ap level_of (up_to_current j (e ∷ older) levels (omega (arith, low, top))) ∙ omega
          (arith, top, low, most)
    ]

-- STEPS OF A SEARCH
