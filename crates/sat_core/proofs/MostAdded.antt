-- A search with room for all the clauses that it may learn comes to an end.
use Rattle.std.proofs.Common.{◌≡◌, ◌≢◌, ℕ, suc, ◌+◌, ◌*◌, ◌/◌, ◌^◌, ◌<◌, ◌≤◌, Bool, true, false, List, length, All, refl, subst, arith}
use Rattle.std.specs.Prelude.{Err, IfOk, Ok, Result}
use Rattle.std.specs.declared.alloc.AllocError.{AllocError}
use Rattle.std.proofs.Math.Nat.{mul-le-mul_left}
use Rattle.std.proofs.lemmas.Nat.{le-div}
use Rattle.sat_clause.specs.Formula.{Cnf}
use Rattle.sat_clause.specs.Step.{Step}
use Rattle.sat_clause.specs.Judge.{is_empty_clause}
use Rattle.sat_clause.proofs.LearnedFew.{learned_few}
use Rattle.sat_clause.specs.Learned.{AreAddedFrom, LearnedNew, Sparse, added_count, deletions}
use Rattle.sat_core.specs.declared.answer.Answer.{Answer}
use Rattle.sat_core.specs.declared.answer.Answer.TheVariants.{Model, Refuted, Spent, Stopped}
use Rattle.sat_core.specs.Answer.{IsDecided, SpendsAll, most_added}
use Rattle.sat_core.specs.SearchLog.{IsSearchLog}
use Rattle.sat_core.specs.Underway.{HasSearched}
use Rattle.sat_core.proofs.LogLemmas.{added_from, sparse_without}

-- the step adds no empty clause
abbrev AddsSome : Step → Type 0
AddsSome step = is_empty_clause step ≡ false

-- a log that deletes seldom adds few clauses, none empty
fewer_sparse : (formula : Cnf) (log : List Step) (id : ℕ) → AreAddedFrom id log →
    All AddsSome log → LearnedNew formula log → Sparse log →
    added_count log < most_added false formula.vars
fewer_sparse formula log id numbered some new sparse =
    let p : ℕ = 3 ^ formula.vars in
    let few = learned_few formula log id new numbered some sparse in
    let cuts : deletions log ≤ p / 1000 =
    le-div (deletions log) p 1000 (omega arith) (omega (arith, few.1)) in
    let most : p * suc (deletions log) ≤ p * (p / 1000 + 1) =
    mul-le-mul_left {m = suc (deletions log)} {n = p / 1000 + 1} p (omega (arith, cuts)) in
    omega (arith, few.0, most)

-- and fewer than 3 to the number of variables where it deletes nothing
fewer_kept : (formula : Cnf) (log : List Step) (id : ℕ) → AreAddedFrom id log →
    All AddsSome log → LearnedNew formula log → deletions log ≡ 0 →
    added_count log < most_added true formula.vars
fewer_kept formula log id numbered some new none =
    let few = learned_few formula log id new numbered some (sparse_without log none) in
    let all : added_count log < 3 ^ formula.vars * suc 0 =
    subst (λ (d : ℕ). added_count log < 3 ^ formula.vars * suc d) none few.0 in
    omega (arith, all)

-- so a search with room for so many clauses does not spend it all
pub never_spent : (formula : Cnf) (log : List Step) (budget : ℕ) (keep : Bool) →
    IsSearchLog formula log → SpendsAll budget log → (keep ≡ true → deletions log ≡ 0) →
    most_added keep formula.vars ≤ budget → ⊥
never_spent formula log budget true search spends none room =
    let few = fewer_kept formula log (suc (length formula.clauses))
    (added_from (suc (length formula.clauses)) log search.numbered) spends.none_empty search.new
    (none refl) in
    omega (arith, few, spends.all, room)
never_spent formula log budget false search spends none room =
    let few = fewer_sparse formula log (suc (length formula.clauses))
    (added_from (suc (length formula.clauses)) log search.numbered) spends.none_empty search.new
    search.sparse in
    omega (arith, few, spends.all, room)

pub decided : (formula : Cnf) (budget : ℕ) (log : List Step) (keep : Bool)
    (result : Result Answer AllocError) → HasSearched formula budget keep log result →
    most_added keep formula.vars ≤ budget → IfOk result (λ answer. answer ≢ Stopped → IsDecided answer)
decided formula budget log keep (Ok (Model values)) searched room = λ apart. tt
decided formula budget log keep (Ok Refuted) searched room = λ apart. tt
decided formula budget log keep (Ok Stopped) searched room = λ apart. absurd (apart refl)
decided formula budget log keep (Ok Spent) searched room = λ apart.
    never_spent formula log budget keep searched.logged searched.answer searched.kept room
decided formula budget log keep (Err e) searched room = tt
