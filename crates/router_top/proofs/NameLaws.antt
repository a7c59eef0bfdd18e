-- No two files of a search have one name.
use Rattle.std.specs.Prelude.{flat_map}
use Rattle.std.specs.List.{range_with_len}
use Rattle.std.proofs.Common.{◌≡◌, ◌≢◌, ℕ, zero, suc, ◌+◌, ◌<◌, ◌≤◌, true, List, [], ◌∷◌, ◌++◌, codes, sym, arith}
use Rattle.route_sweep.specs.Names.{cnf_name, lrat_name, proof_prefix}
use Rattle.router_top.specs.Search.{Search, proof_files, route_file}
use Rattle.run_outcome.specs.Written.{JobFile}
use Rattle.run_outcome.specs.Subject.{Bytes, RoutingProblem, RouteText, Step}
use Rattle.run_outcome.proofs.WrittenLaws.{AreApart, NoneHas}
use Rattle.run_outcome.proofs.NameLaws.{clauses-log, clauses-route, log-route, width-told}

-- ---- the files of a search

module _ (search : Search) (p : RoutingProblem) where
  -- a routing alone
  pub route-apart : (found : RouteText) → AreApart (route_file search found ∷ [])
  route-apart found = (tt, tt)

  -- the clauses and the log of one width
  pub proof-apart : (width : ℕ) (log : List Step) → AreApart (proof_files search p width log)
  proof-apart width log = ((clauses-log search.ask width width, tt), (tt, tt))

  module _ (numbered : search.ask.numbered ≡ true) (logs : ℕ → List Step) where
    -- the files of so many widths from this one on
    abbrev proofs : (first count : ℕ) → List JobFile
    proofs first count =
        flat_map (λ k. proof_files search p k (logs k)) (range_with_len first count)

    -- a name that is none of a width is not among them
    none-has : (name : Bytes) (first count : ℕ) (tail : List JobFile) →
        ((k : ℕ) → first ≤ k → k < first + count →
        (name ≢ cnf_name search.ask k) × (name ≢ lrat_name search.ask k)) →
        NoneHas name tail → NoneHas name (proofs first count ++ tail)
    none-has name first zero tail other none = none
    none-has name first (suc count) tail other none =
        let here = other first (omega arith) (omega arith) in
        let behind = none-has name (first + 1) count tail
        (λ k low high. other k (omega (arith, low)) (omega (arith, high))) none in
        (here.0, (here.1, behind))

    -- files of different widths are apart, and from what is apart from each of them
    pub proofs-apart : (first count : ℕ) (tail : List JobFile) → first + count ≤ 65 →
        ((k : ℕ) → first ≤ k → k < first + count →
        NoneHas (cnf_name search.ask k) tail × NoneHas (lrat_name search.ask k) tail) →
        AreApart tail → AreApart (proofs first count ++ tail)
    proofs-apart first zero tail few other apart = apart
    proofs-apart first (suc count) tail few other apart =
        let here = other first (omega arith) (omega arith) in
        let low : first ≤ 64 = omega (arith, few) in
        let clauses = none-has (cnf_name search.ask first) (first + 1) count tail
        (λ k lower upper. (
          (λ same. let is = width-told search.ask numbered (codes ".cnf") first k low
              (omega (arith, upper, few)) same in absurd (omega (arith, is, lower))),
          clauses-log search.ask first k,
        )) here.0 in
        let log = none-has (lrat_name search.ask first) (first + 1) count tail
        (λ k lower upper. (
          (λ same. clauses-log search.ask k first (sym same)),
          (λ same. let is = width-told search.ask numbered (codes ".lrat") first k low
              (omega (arith, upper, few)) same in absurd (omega (arith, is, lower))),
        )) here.1 in
        let behind = proofs-apart (first + 1) count tail (omega (arith, few))
        (λ k lower upper. other k (omega (arith, lower)) (omega (arith, upper))) apart in
        ((clauses-log search.ask first first, clauses), (log, behind))

    -- behind the files of lower widths a routing
    pub proofs-then-route : (first count : ℕ) (found : RouteText) → first + count ≤ 65 →
        AreApart (proofs first count ++ route_file search found ∷ [])
    proofs-then-route first count found few =
        proofs-apart first count (route_file search found ∷ []) few
        (λ k low high. (
          (clauses-route search.ask k, tt),
          (log-route search.ask k, tt),
        )) (route-apart found)

    -- or the clauses and the log of a higher one
    pub proofs-then-proof : (first count width : ℕ) (log : List Step) → first + count ≤ width →
        width ≤ 64 → AreApart (proofs first count ++ proof_files search p width log)
    proofs-then-proof first count width log higher narrow =
        proofs-apart first count (proof_files search p width log) (omega (arith, higher, narrow))
        (λ k low high.
        let told : (ending : Bytes) →
        proof_prefix search.ask k ++ ending ≢ proof_prefix search.ask width ++ ending =
        (λ ending same. let is = width-told search.ask numbered ending k width
        (omega (arith, high, higher, narrow)) narrow same in
        absurd (omega (arith, is, high, higher))) in (
          (told (codes ".cnf"), (clauses-log search.ask k width, tt)),
          ((λ same. clauses-log search.ask width k (sym same)), (told (codes ".lrat"), tt)),
        )) (proof-apart width log)
