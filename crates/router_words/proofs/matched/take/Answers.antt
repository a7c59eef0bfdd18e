use Rattle.std.proofs.Common.{◌≡◌, ◌⊎◌, ◌∙◌, false, [], ◌∷◌, ap, inl, inr, refl, arith, subst, sym}
use Rattle.std.proofs.lemmas.Bool.Decides.{nat_tests}
use denote.Enum.Bare.{sameb}
use Rattle.clap.specs.Kinds.{IsAmong, Kinds}
use Rattle.clap.specs.Walk.{is_empty}
use Rattle.clap.specs.Words.{app_of, is_simple, is_simple_and_free}
use Rattle.clap.specs.contracts.error.kind.ErrorKind.{the_type}
use Rattle.clap.specs.declared.error.kind.ErrorKind.{ErrorKind}
use Rattle.clap.specs.declared.error.kind.ErrorKind.TheVariants.{OutOfMemory}
use Rattle.clap.proofs.WalkLemmas.{both}
use Rattle.router_words.proofs.RequiredWords.{required_is_there}
use Rattle.router_words.proofs.matched.take.Goals as goal

-- an error of another kind than want of memory is a fault of the words
refused : (k : ErrorKind) (kinds : Kinds) → sameb the_type k OutOfMemory ≡ false
    → (k ≡ OutOfMemory) ⊎ IsAmong k kinds → is_empty kinds ≡ false
refused k [] differ (inl is) =
    let bad : sameb the_type OutOfMemory OutOfMemory ≡ false =
    subst (λ (x : ErrorKind). sameb the_type x OutOfMemory ≡ false) is differ in
    cc
refused k [] differ (inr among) = absurd among
refused k (x ∷ xs) differ either = grind (arith, nat_tests)

pub returns-in-Ok : goal.returns-in-Ok
returns-in-Ok c =
    let parse = c.in-Ok.ensures in
    let free = (both (is_simple_and_free (app_of c.args.command)) _ c.requires).0 in
    let simple = (both (is_simple (app_of c.args.command)) _ free).0 in
    record {
      taken = ap is_empty (parse.kinds free);
      found = (parse.matches simple).0;
      there = required_is_there c.args.command c.in-Ok.matches parse.parsed c.requires;
    }

pub returns : goal.returns
returns c =
    let parse = c.in-Err.ensures in
    let free = (both (is_simple_and_free (app_of c.args.command)) _ c.requires).0 in
    let other = sym (ap (λ (k : ErrorKind). sameb the_type k OutOfMemory) c.kind.ensures)
    ∙ (sym c.eq.ensures ∙ c.if-eq.false) in
    (refl, refused _ _ other (parse.kinds free))
