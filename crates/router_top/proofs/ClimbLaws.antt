-- What a climb comes to at the width where it ends, and what it has shown of the lower ones.
use Rattle.std.specs.Prelude.{Result, Ok, Err, flat_map}
use Rattle.std.specs.List.{range_with_len}
use Rattle.std.proofs.Common.{◌≡◌, ◌∙◌, ◌⊎◌, ℕ, zero, suc, ◌+◌, ◌≤◌, ◌<◌, List, [], ◌∷◌, ◌++◌, Option, refl, sym, ap, subst, inl, inr, arith}
use Rattle.std.proofs.lemmas.Grind.{flat_map-append}
use Rattle.fpga_types.specs.Fits.{Fits}
use Rattle.fpga_types.specs.Given.{IsGiven}
use Rattle.route_sweep.specs.Climb.{AreRefuted, IsRefuted, climbed}
use Rattle.route_sweep.specs.Written.{after_proof}
use Rattle.route_sweep.specs.declared.found.Found.{Found}
use Rattle.route_sweep.specs.declared.found.Found.TheVariants.{Routed as IsRouted, Refuted, Spent}
use Rattle.route_sweep.specs.declared.found.Stop.{Stop}
use Rattle.route_ways.specs.Way.{copies_by, opens_by, refutes_by}
use Rattle.router_top.specs.Comes.{IsRefutedAt}
use Rattle.run_clauses.specs.Method.{IsRoutingBy}
use Rattle.run_outcome.specs.Report.{climbed_outcome, found_outcome}
use Rattle.router_top.specs.Search.{HasCrowd, Search, sweep_search, proof_files, clauses_at}
use Rattle.router_top.specs.Work.{Finds}
use Rattle.run_outcome.specs.Written.{JobFile, with_files}
use Rattle.run_outcome.specs.Subject.{FileMap, ShelfState, RoutingProblem, Step, SweepAsked}
use Rattle.router_top.proofs.EndLaws.{refuted-at}
use Rattle.run_outcome.proofs.WrittenLaws.{with_files-append}

-- ---- numbers and lists

-- a number up to the next is the next, or is up to this one
next-or-below : (k n : ℕ) → k ≤ suc n → (k ≡ suc n) ⊎ (k ≤ n)
next-or-below zero n h = inr (omega arith)
next-or-below (suc zero) zero h = inl refl
next-or-below (suc (suc k)) zero h = absurd (omega (arith, h))
next-or-below (suc k) (suc n) h = elim (next-or-below k n (omega (arith, h))) [
  | inl same ↦ inl (ap suc same)
  | inr below ↦ inr (omega (arith, below))
]

-- one value above the number, and another up to it
abbrev later : {T : Type 0} → (n k : ℕ) → (above upto : T) → T
later n zero above upto = upto
later zero (suc k) above upto = above
later (suc n) (suc k) above upto = later n k above upto

later-above : {T : Type 0} (n : ℕ) (above upto : T) → later n (suc n) above upto ≡ above
later-above zero above upto = refl
later-above (suc n) above upto = later-above n above upto

later-upto : {T : Type 0} (n k : ℕ) (above upto : T) → k ≤ n → later n k above upto ≡ upto
later-upto n zero above upto low = refl
later-upto zero (suc k) above upto low = absurd (omega (arith, low))
later-upto (suc n) (suc k) above upto low = later-upto n k above upto (omega (arith, low))

-- rows over numbers from one on are alike where they are at each of them
rows-alike : {T : Type 0} (f g : ℕ → List T) (first count : ℕ)
    → ((k : ℕ) → first ≤ k → k < first + count → f k ≡ g k)
    → flat_map f (range_with_len first count) ≡ flat_map g (range_with_len first count)
rows-alike f g first zero same = refl
rows-alike f g first (suc count) same =
    let here = same first (omega arith) (omega arith) in
    let rest = rows-alike f g (first + 1) count
    (λ k low high. same k (omega (arith, low)) (omega (arith, high))) in
    λ i. here i ++ rest i

-- one number more
range-more : (first count : ℕ)
    → range_with_len first (suc count) ≡ range_with_len first count ++ (first + count) ∷ []
range-more first zero = ap (λ (n : ℕ). n ∷ []) (omega arith)
range-more first (suc count) =
    ap (λ (ns : List ℕ). first ∷ ns) (range-more (first + 1) count
    ∙ ap (λ (n : ℕ). range_with_len (first + 1) count ++ n ∷ []) (omega arith))

rows-more : {T : Type 0} (f : ℕ → List T) (count : ℕ)
    → flat_map f (range_with_len 1 (suc count))
    ≡ flat_map f (range_with_len 1 count) ++ f (suc count)
rows-more {T} f count =
    ap (flat_map f) (range-more 1 count)
    ∙ flat_map-append f (range_with_len 1 count) ((1 + count) ∷ [])
    ∙ ap (λ (rows : List T). flat_map f (range_with_len 1 count) ++ rows)
    (one-row (f (1 + count)) ∙ ap f (omega arith))
  where
    one-row : (xs : List T) → xs ++ [] ≡ xs
    one-row [] = refl
    one-row (x ∷ xs) = ap (λ (ys : List T). x ∷ ys) (one-row xs)

-- ---- where a climb ends

-- what a climb comes to is what was found at the width where it ends
pub climbed-outcome : (width : ℕ) (found : Result Found Stop)
    → climbed_outcome (climbed width found) ≡ found_outcome width found
climbed-outcome width (Ok IsRouted) = refl
climbed-outcome width (Ok (Refuted lead)) = refl
climbed-outcome width (Ok (Spent learned)) = refl
climbed-outcome width (Err stop) = refl

-- ---- what a climb has shown of lower widths

module _ (job : SweepAsked) (p : RoutingProblem) (given : IsGiven p) (fits : Fits p)
    (crowd : List ℕ) (known : HasCrowd (sweep_search job crowd) p) where
  abbrev search : Search
  search = sweep_search job crowd

  -- the widths up to this one were refuted
  abbrev HasClimbed : ℕ → ShelfState → ShelfState → Type 0
  HasClimbed = AreRefuted (copies_by search.way)
      (λ width. refutes_by search.way p width (clauses_at search width p))
      (λ width. opens_by search.way p width (clauses_at search width p)) search.ask
      (λ width. clauses_at search width p) (λ width. IsRoutingBy search.method width p)

  -- a width was refuted, and its clauses and a log were written
  record HasRefuted (width : ℕ) (between now : ShelfState) : Type 0 where
    log : List Step
    at : IsRefutedAt search p width log
    written : now ≡ after_proof between search.ask width (clauses_at search width p) log

  has-refuted : (width : ℕ) (between now : ShelfState) (came : Result Found Stop)
      → IsRefuted came → Finds search p width between now came → HasRefuted width between now
  has-refuted width between now (Ok (Refuted lead)) is found = record {
    log = found.1.log;
    at = refuted-at search width p found.1.log lead.items given fits known found.1.ends
        found.0 found.1.clauses_back;
    written = found.1.written;
  }
  has-refuted width between now (Ok IsRouted) is found = absurd is
  has-refuted width between now (Ok (Spent learned)) is found = absurd is
  has-refuted width between now (Err stop) is found = absurd is

  -- the shelf has not failed meanwhile
  pub climbed-calm : (below : ℕ) (before now : ShelfState) → HasClimbed below before now
      → now.faults ≡ before.faults
  climbed-calm zero before now h = ap (λ (s : ShelfState). s.faults) h
  climbed-calm (suc below) before now (between, lower, came, is, found) =
      ap (λ (s : ShelfState). s.faults)
      (has-refuted (suc below) between now came is found).written
      ∙ climbed-calm below before between lower

  -- nothing was said meanwhile
  pub climbed-said : (below : ℕ) (before now : ShelfState) → HasClimbed below before now
      → now.said ≡ before.said
  climbed-said zero before now h = ap (λ (s : ShelfState). s.said) h
  climbed-said (suc below) before now (between, lower, came, is, found) =
      ap (λ (s : ShelfState). s.said)
      (has-refuted (suc below) between now came is found).written
      ∙ climbed-said below before between lower

  -- there are the clauses and a log of each
  pub record HasLogs (below : ℕ) (before now : Option FileMap) : Type 0 where
    pub logs : ℕ → List Step
    pub refuted : (k : ℕ) → 1 ≤ k → k ≤ below → IsRefutedAt search p k (logs k)
    pub files : now ≡ with_files
        (flat_map (λ k. proof_files search p k (logs k)) (range_with_len 1 below)) before

  -- so with one width more
  one-more : (below : ℕ) (before between now : Option FileMap) (log : List Step)
      → IsRefutedAt search p (suc below) log
      → now ≡ with_files (proof_files search p (suc below) log) between
      → HasLogs below before between → HasLogs (suc below) before now
  one-more below before between now log refuted written h =
      let logs : ℕ → List Step = (λ k. later below k log (h.logs k)) in
      let at : logs (suc below) ≡ log = later-above below log (h.logs (suc below)) in
      let old : (k : ℕ) → k ≤ below → logs k ≡ h.logs k =
      (λ k low. later-upto below k log (h.logs k) low) in
      let files_of : (ℕ → List Step) → ℕ → List JobFile =
      (λ of k. proof_files search p k (of k)) in
      let lower = rows-alike (files_of logs) (files_of h.logs) 1 below
      (λ k low high. ap (proof_files search p k) (old k (omega (arith, high)))) in
      let all : flat_map (files_of logs) (range_with_len 1 (suc below))
      ≡ flat_map (files_of h.logs) (range_with_len 1 below)
      ++ proof_files search p (suc below) log =
      rows-more (files_of logs) below
      ∙ (λ i. lower i ++ proof_files search p (suc below) (at i)) in
      record {
        logs = logs;
        refuted = λ k low high. elim (next-or-below k below high) [
          | inl same ↦ subst (λ (n : ℕ). IsRefutedAt search p n (logs n)) (sym same)
              (subst (IsRefutedAt search p (suc below)) (sym at) refuted)
          | inr lower ↦ subst (IsRefutedAt search p k) (sym (old k lower)) (h.refuted k low lower)
        ];
        files = written
            ∙ ap (with_files (proof_files search p (suc below) log)) h.files
            ∙ sym (with_files-append
            (flat_map (files_of h.logs) (range_with_len 1 below))
            (proof_files search p (suc below) log) before)
            ∙ ap (λ (fs : List JobFile). with_files fs before) (sym all);
      }

  pub climbed-logs : (below : ℕ) (before now : ShelfState) → HasClimbed below before now
      → HasLogs below before.files now.files
  climbed-logs zero before now h = record {
    logs = λ k. [];
    refuted = λ k low high. absurd (omega (arith, low, high));
    files = ap (λ (s : ShelfState). s.files) h;
  }
  climbed-logs (suc below) before now (between, lower, came, is, found) =
      let here = has-refuted (suc below) between now came is found in
      one-more below before.files between.files now.files here.log here.at
      (ap (λ (s : ShelfState). s.files) here.written)
      (climbed-logs below before between lower)
