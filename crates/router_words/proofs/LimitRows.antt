-- The limits of the numbers among the words, each as its number.
use Rattle.std.proofs.Common.{◌≡◌, refl}
use Rattle.router_words.specs.declared.limits.TheConstants.{BUDGET_DEFAULT, BUDGET_LIMIT, GENERATED_NETS_LIMIT, MEMBER_LIMIT, ROUND_DEFAULT, ROUND_LIMIT, SECOND_LIMIT, SEED_DEFAULT, SEED_LIMIT}

pub budget : BUDGET_LIMIT ≡ 100000000
budget = refl

pub budget_unsaid : BUDGET_DEFAULT ≡ 1000000
budget_unsaid = refl

pub seconds : SECOND_LIMIT ≡ 1000000
seconds = refl

pub seeds : SEED_LIMIT ≡ 2147483647
seeds = refl

pub seed_unsaid : SEED_DEFAULT ≡ 1
seed_unsaid = refl

pub members : MEMBER_LIMIT ≡ 8
members = refl

pub rounds : ROUND_LIMIT ≡ 100000
rounds = refl

pub rounds_unsaid : ROUND_DEFAULT ≡ 500
rounds_unsaid = refl

pub generated_nets : GENERATED_NETS_LIMIT ≡ 10000
generated_nets = refl
