-- The names of the files of a search differ: those of clauses, logs and routings, and those of
-- different widths.
use Rattle.std.specs.Prelude.{decimal, if◌then◌else◌}
use Rattle.std.specs.List.{last_or}
use Rattle.std.proofs.Common.{◌≡◌, ◌≢◌, ◌∙◌, ℕ, ◌≤◌, Bool, true, [], ◌∷◌, ◌++◌, codes, Option, Some, None, refl, sym, ap, arith}
use Rattle.std.proofs.lemmas.Fmt.{decimal_injective}
use Rattle.std.proofs.lemmas.List.{append_cancel_left, append_cancel_right}
use Rattle.list_laws.proofs.Places.{some_is}
use Rattle.route_sweep.specs.Asked.{Asked}
use Rattle.route_sweep.specs.Names.{cnf_name, lrat_name, numbered_prefix, proof_prefix, route_name}
use Rattle.run_outcome.specs.Subject.{Bytes}

-- ---- the last byte of a name

-- the last byte of a text is that of what stands behind
last-behind : (o : Option ℕ) (xs : Bytes) (y : ℕ) (ys : Bytes) →
    last_or o (xs ++ y ∷ ys) ≡ last_or (Some y) ys
last-behind o [] y ys = refl
last-behind o (x ∷ xs) y ys = last-behind (Some x) xs y ys

-- texts that end otherwise differ
ends-differ : (xs ys : Bytes) (p : ℕ) (ps : Bytes) (q : ℕ) (qs : Bytes) →
    last_or (Some p) ps ≢ last_or (Some q) qs → xs ++ p ∷ ps ≢ ys ++ q ∷ qs
ends-differ xs ys p ps q qs differ same = differ (
    sym (last-behind None xs p ps) ∙ ap (last_or None) same ∙ last-behind None ys q qs
    )

-- ---- the names of a search

module _ (ask : Asked) where
  pub clauses-log : (k j : ℕ) → cnf_name ask k ≢ lrat_name ask j
  clauses-log k j = ends-differ (proof_prefix ask k) (proof_prefix ask j) 46 (codes "cnf") 46
      (codes "lrat") (λ (same : Some 102 ≡ Some 116). omega (arith, some_is same))

  pub clauses-route : (k : ℕ) → cnf_name ask k ≢ route_name ask
  clauses-route k = ends-differ (proof_prefix ask k) ask.prefix 46 (codes "cnf") 46
      (codes "route") (λ (same : Some 102 ≡ Some 101). omega (arith, some_is same))

  pub log-route : (k : ℕ) → lrat_name ask k ≢ route_name ask
  log-route k = ends-differ (proof_prefix ask k) ask.prefix 46 (codes "lrat") 46
      (codes "route") (λ (same : Some 116 ≡ Some 101). omega (arith, some_is same))

  -- a width can be told from a name that has it
  pub width-told : ask.numbered ≡ true → (ending : Bytes) (k j : ℕ) → k ≤ 64 → j ≤ 64 →
      proof_prefix ask k ++ ending ≡ proof_prefix ask j ++ ending → k ≡ j
  width-told numbered ending k j low_k low_j same =
      let has : (n : ℕ) → proof_prefix ask n ≡ numbered_prefix ask.prefix n = (λ n.
      ap (λ (b : Bool). if b then numbered_prefix ask.prefix n else ask.prefix) numbered) in
      let front = ask.prefix ++ codes ".w" in
      let alike : front ++ decimal k ≡ front ++ decimal j =
      sym (has k) ∙ append_cancel_right _ _ ending same ∙ has j in
      decimal_injective k j (omega (arith, low_k)) (omega (arith, low_j))
      (append_cancel_left front (decimal k) (decimal j) alike)
