-- A word that a form requires is there where clap has parsed the words.
use Rattle.std.proofs.Common.{◌≡◌, ◌<◌, ◌≤◌, ◌∙◌, nat_le, ◌&&◌, ℕ, Bool, zero, suc, true, false, not, List, [], ◌∷◌, map, length, Option, Some, None, is_some, refl, sym, ap, subst, inl, inr, arith, codes}
use Rattle.std.specs.List.{All, list_any, slice_index_or}
use Rattle.std.specs.Str.{bytes_eq}
use Rattle.std.proofs.lemmas.Slice.Eq.{bytes_eq-Decides}
use Rattle.std.proofs.lemmas.List.Folds.{list_any_at}
use Rattle.std.proofs.lemmas.Bool.Decides.{nat_tests}
use Rattle.clap.specs.Facts.{args_of, least_values}
use Rattle.clap.specs.Built.{IsParsedFrom, IsPlain, IsPlainArg}
use Rattle.clap.specs.Simple.{has_simple_rules, is_buildable}
use Rattle.clap.specs.Walk.{is_empty, is_simple_arg, is_free_arg}
use Rattle.clap.specs.Words.{Rule, app_of, first_of, found_of, rows_of, is_simple, rule_of, shape_of}
use Rattle.clap.specs.declared.builder.action.ArgAction.{ArgAction}
use Rattle.clap.specs.declared.builder.action.ArgAction.TheVariants.{Set}
use Rattle.clap.specs.declared.builder.arg.Arg.{Arg}
use Rattle.clap.specs.declared.builder.command.Command.{Command}
use Rattle.clap.specs.declared.builder.command.Command.TheViews.{out-Command}
use Rattle.clap.specs.declared.parser.matches.ArgMatches.{ArgMatches}
use Rattle.clap.proofs.CallerLemmas.{required_has_value}
use Rattle.clap.proofs.SimpleLemmas.{is_false, is_nil, plain_fields}
use Rattle.clap.proofs.TakesLemmas.{each_rule}
use Rattle.clap.proofs.WalkLemmas.{both, first_value-rows, list_any-map}
use Rattle.router_words.specs.Form.{is_form, is_own_name, is_set, wants, wants_value}
use Rattle.router_words.specs.Taken.{HasRequired}
use Rattle.router_words.specs.Word.{Word}

-- the argument at this place has the name, wants a value, and no other has the name
record StandsAt (name : Word) (args : List Arg) (place : ℕ) : Type 0 where
  arg : Arg
  within : place < length args
  named : (d : Arg) → (slice_index_or args place d).id.now ≡ name
  wanted : (d : Arg) → wants_value (rule_of (slice_index_or args place d)) ≡ true
  alone : (j : ℕ) (e : Arg) → j < length args
      → bytes_eq (slice_index_or args j e).id.now name ≡ true → j ≡ place

-- where no rule has the name, no argument has it
none_named : (name : Word) (args : List Arg) → list_any (λ (other : Rule). bytes_eq other.id name)
    (map rule_of args) ≡ false
    → (j : ℕ) (e : Arg) → j < length args → bytes_eq (slice_index_or args j e).id.now name ≡ true
    → ⊥
none_named name args none j e lt same =
    let some = list_any_at (λ (a : Arg). bytes_eq a.id.now name) args j e lt same in
    let rules = list_any-map (λ (other : Rule). bytes_eq other.id name) rule_of args in
    cc

-- the first argument has the name alone
first_stands : (name : Word) (x : Arg) (xs : List Arg) → bytes_eq x.id.now name ≡ true
    → (wants_value (rule_of x)
    && not (list_any (λ (other : Rule). bytes_eq other.id name) (map rule_of xs))) ≡ true
    → StandsAt name (x ∷ xs) 0
first_stands name x xs same wanted = record {
  arg = x;
  within = omega arith;
  named = λ d. (bytes_eq-Decides _ _).0 same;
  wanted = λ d. (both _ _ wanted).0;
  alone = first;
}
  where
    first : (j : ℕ) (e : Arg) → j < length (x ∷ xs)
        → bytes_eq (slice_index_or (x ∷ xs) j e).id.now name ≡ true → j ≡ 0
    first zero e lt is = refl
    first (suc j) e lt is =
        absurd (none_named name xs (is_false _ (both _ _ wanted).1) j e (omega arith) is)

-- the first argument has another name
later_stands : (name : Word) (x : Arg) (xs : List Arg) (place : ℕ) → bytes_eq x.id.now name ≡ false
    → StandsAt name xs place
    → StandsAt name (x ∷ xs) (suc place)
later_stands name x xs place other at = record {
  arg = at.arg;
  within = omega arith;
  named = λ d. at.named d;
  wanted = λ d. at.wanted d;
  alone = later;
}
  where
    later : (j : ℕ) (e : Arg) → j < length (x ∷ xs)
        → bytes_eq (slice_index_or (x ∷ xs) j e).id.now name ≡ true → j ≡ suc place
    later zero e lt is = cc
    later (suc j) e lt is = ap suc (at.alone j e (omega arith) is)

-- an argument that the rules want has a place
stands : (name : Word) (args : List Arg) → wants name (map rule_of args) ≡ true
    → (place : ℕ) × StandsAt name args place
stands name [] wanted = cc
stands name (x ∷ xs) wanted = go (bytes_eq x.id.now name) refl (stands name xs)
  where
    go : (t : Bool) → bytes_eq x.id.now name ≡ t
        → (wants name (map rule_of xs) ≡ true → (place : ℕ) × StandsAt name xs place)
        → (place : ℕ) × StandsAt name (x ∷ xs) place
    go true t rest = (0, first_stands name x xs t (rw t at wanted))
    go false t rest =
        let later = rest (rw t at wanted) in
        (suc later.0, later_stands name x xs later.0 t later.1)

action_is : (action : Option ArgAction) → is_set action ≡ true → action ≡ Some Set
action_is None e = cc
action_is (Some Set) e = refl
action_is (Some _) e = cc

is_none : {X : Type 0} (o : Option X) → not (is_some o) ≡ true → o ≡ None
is_none None e = refl
is_none (Some x) e = cc

least_at : (n : ℕ) → nat_le 1 n ≡ true → 1 ≤ n
least_at n e = grind (arith, nat_tests)

-- what a simple argument without rules on others leaves out
plain_arg : (a : Arg) → is_simple_arg a ≡ true → is_free_arg a ≡ true
    → IsPlainArg a × (a.val_delim ≡ None)
plain_arg a simple free =
    let overrides = both _ _ simple in
    let ifs = both _ _ overrides.1 in
    let groups = both _ _ ifs.1 in
    let delim = both _ _ groups.1 in
    let exclusive = both _ _ free in
    let conflicts = both _ _ exclusive.1 in (
      (is_false _ exclusive.0, is_nil _ conflicts.0, is_nil _ overrides.0, is_nil _ groups.0),
      is_none _ delim.0,
    )

-- what a form leaves out
record IsBare (c : Command) : Type 0 where
  plain : IsPlain c
  globals : (out-Command c).has_globals ≡ false
  negates : (out-Command c).subcommand_negates_reqs ≡ false
  delims : All (λ a. a.val_delim ≡ None) (args_of c)

is_bare : (c : Command) → is_form (app_of c) ≡ true → IsBare c
is_bare c form =
    let parts = both _ _ form in
    let free = both _ _ parts.1 in
    let simple = both (is_simple (app_of c)) _ parts.0 in
    let buildable = both (is_buildable (app_of c)) _ simple.0 in
    let rules = both (has_simple_rules (shape_of c)) _ buildable.0 in
    let shape = both (shape_of c).is_plain _ rules.0 in
    let fields = plain_fields c shape.0 in
    let each = λ (k : ℕ) (d : Arg) (lt : k < length (args_of c)).
    plain_arg (slice_index_or (args_of c) k d)
    (each_rule (λ a. a.is_simple) (args_of c) shape.1 k d lt)
    (each_rule (λ a. a.is_free) (args_of c) free.0 k d lt) in
    record {
      plain = ((λ k d lt. (each k d lt).0), fields.groups);
      globals = fields.globals;
      negates = is_false _ free.1;
      delims = λ k d lt. (each k d lt).1;
    }

not_named : (name other : Word) → not (bytes_eq name other) ≡ true → name ≡ other → ⊥
not_named name other differ same =
    let is : bytes_eq name other ≡ true = (bytes_eq-Decides name other).1 same in
    let is_not = is_false _ differ in
    cc

not_empty : (name : Word) → not (is_empty name) ≡ true → name ≡ [] → ⊥
not_empty name some empty = let none : is_empty name ≡ true = rw empty refl in cc

-- the word for an argument that stands so is there
stands_there : (c : Command) (m : ArgMatches) → IsParsedFrom c m → IsBare c → (name : Word)
    → (name ≡ [] → ⊥) → (name ≡ codes "help" → ⊥) → (name ≡ codes "version" → ⊥)
    → (place : ℕ) → StandsAt name (args_of c) place
    → is_some (first_of name (rows_of (found_of m))) ≡ true
stands_there c m parsed bare name some help version place at =
    let arg = slice_index_or (args_of c) place at.arg in
    let named = at.named at.arg in
    let wants = both _ _ (at.wanted at.arg) in
    let value = both _ _ wants.1 in
    let there = required_has_value c m parsed bare.plain bare.globals bare.negates place at.arg
    at.within wants.0 (action_is arg.action value.0) (bare.delims place at.arg at.within)
    (least_at (least_values arg) value.1)
    (λ j e lt same. at.alone j e lt
    (subst (λ (id : Word). bytes_eq (slice_index_or (args_of c) j e).id.now id ≡ true) named
    same))
    (λ empty. some (sym named ∙ empty))
    (λ auto. elim auto [ inl is ↦ help (sym named ∙ is) | inr is ↦ version (sym named ∙ is) ]) in
    subst (λ (id : Word). is_some (first_of id (rows_of (found_of m))) ≡ true) named
    (subst (λ (o : Option Word). is_some o ≡ true) (first_value-rows (found_of m) arg.id.now) there)

-- each word that the form requires is there
pub required_is_there : (c : Command) (m : ArgMatches) → IsParsedFrom c m
    → is_form (app_of c) ≡ true
    → HasRequired (app_of c) (rows_of (found_of m))
required_is_there c m parsed form name requires =
    let parts = both (is_own_name name) _ requires in
    let own = both _ _ parts.0 in
    let flags = both _ _ own.1 in
    let found = stands name (args_of c) parts.1 in
    stands_there c m parsed (is_bare c form) name (not_empty name own.0)
    (not_named name (codes "help") flags.0)
    (not_named name (codes "version") flags.1) found.0 found.1
