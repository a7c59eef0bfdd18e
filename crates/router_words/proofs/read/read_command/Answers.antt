use Rattle.std.proofs.Common.{◌≡◌, ◌∙◌, true, List, Option, Some, ap, refl, subst, sym}
use Rattle.std.specs.Option.{option_map_or}
use Rattle.std.specs.Prelude.{Err, IfOk, IfSome, Ok, Result}
use Rattle.clap.specs.Words.{App, Row, app_of, matches_of}
use Rattle.clap.proofs.OnLiterals.{clap_on_literals}
use Rattle.router_words.specs.Command.{Answers, CommandRow, HasItsWords, command_job, command_named, job_behind, row_of, unless_overwriting}
use Rattle.router_words.specs.Form.{is_form}
use Rattle.router_words.specs.Job.{JobAsked}
use Rattle.router_words.specs.Results.{and_then}
use Rattle.router_words.specs.Taken.{HasRequired, IsTaken, Takes}
use Rattle.router_words.specs.Word.{Word, words_of}
use Rattle.router_words.specs.declared.command_name.CommandName.{CommandName}
use Rattle.router_words.specs.declared.command_name.CommandName.TheVariants.{Bound, Check, Core, Decode, Encode, Gen, Global, Judge, Least, Route, Sweep, Trial, Verify}
use Rattle.router_words.specs.declared.fault.Refusal.{Refusal}
use Rattle.router_words.specs.declared.fault.Refusal.TheVariants.{Command}
use Rattle.router_words.specs.declared.fault.WordsFault.{WordsFault}
use Rattle.router_words.specs.declared.fault.WordsFault.TheVariants.{Memory, Refused}
use Rattle.router_words.proofs.read.read_command.Goals as goal

forms : (command : CommandName) → is_form (row_of command).form ≡ true
unfolding clap_on_literals
forms Route = refl
forms Sweep = refl
forms Encode = refl
forms Decode = refl
forms Core = refl
forms Check = refl
forms Verify = refl
forms Judge = refl
forms Bound = refl
forms Global = refl
forms Least = refl
forms Gen = refl
forms Trial = refl

-- the job of the words behind a name is that of the command with the name, if there is one
behind : (name : Word) (words : List Word) (named : Option CommandRow) → named ≡ command_named name
    → job_behind name words
    ≡ option_map_or (λ command. command_job command words) named (Err Command)
behind name words named is =
    ap (λ (o : Option CommandRow). option_map_or (λ command. command_job command words) o
    (Err Command)) (sym is)

-- and where its form took the words, what it makes of them, unless that overwrites
taken_job : (name : Word) (words : List Word) (row : CommandRow) → Some row ≡ command_named name
    → (rows : List Row) → IsTaken row.form words rows
    → (asked : Result JobAsked Refusal) → asked ≡ row.job rows
    → job_behind name words ≡ and_then asked unless_overwriting
taken_job name words row is rows t asked made = behind name words _ is ∙ rw (t.taken, made)
    (ap (λ (rows : List Row). and_then (row.job rows) unless_overwriting) (sym t.found))

-- what is so is so behind any value
if_ok : {T : Type 0} (result : Result T WordsFault) {X : Type 0} → X → IfOk result (λ value. X)
if_ok (Ok value) is = is
if_ok (Err fault) is = tt

-- a form that does not take the words
refused_job : (row : CommandRow) (words : List Word) (fault : WordsFault)
    (asked : Result JobAsked Refusal)
    → Takes row.form words (Err fault) → asked ≡ command_job row words → Answers asked (Err fault)
refused_job row words (Refused refusal) asked t is = is ∙ rw (t.1, t.0) refl
refused_job row words Memory asked t is = tt

pub take-requires : goal.take-requires
take-requires c = ap is_form c.in-Ok.ensures ∙ forms c.in-Some.command

pub returns-in-Ok-job-clause-there : goal.returns-in-Ok-job-clause-there
returns-in-Ok-job-clause-there c =
    let words = words_of c.args.words.now in
    let taken = c.in-Ok-take.ensures in
    let there = subst (λ (rows : List Row). HasRequired (app_of c.in-Ok.form) rows) taken.found
    taken.there in
    if_ok c.kept_apart.result
    (subst (λ (named : Option CommandRow). IfSome named (λ command. HasItsWords command words))
    c.in-Some.ensures
    (subst (λ (form : App). HasRequired form (matches_of form words)) c.in-Ok.ensures there))

pub returns-in_default-clause-answers : goal.returns-in_default-clause-answers
returns-in_default-clause-answers c =
    behind c.args.name.now (words_of c.args.words.now) _ c.in_default.ensures

pub returns-in-Err-clause-answers : goal.returns-in-Err-clause-answers
returns-in-Err-clause-answers c =
    let words = words_of c.args.words.now in
    refused_job (row_of c.in-Some.command) words c.in-Err.fault _
    (subst (λ (form : App). Takes form words (Err c.in-Err.fault)) c.in-Ok.ensures c.in-Err.ensures)
    (behind c.args.name.now words _ c.in-Some.ensures)

pub returns-in-Ok-job-clause-answers : goal.returns-in-Ok-job-clause-answers
returns-in-Ok-job-clause-answers c =
    let is = taken_job c.args.name.now (words_of c.args.words.now) (row_of c.in-Some.command)
    c.in-Some.ensures _ (rw c.in-Ok.ensures at c.in-Ok-take.ensures) _ c.in-Ok-job.ensures in
    subst (λ (asked : Result JobAsked Refusal). Answers asked c.kept_apart.result) (sym is)
    c.kept_apart.ensures

pub returns-clause-answers : goal.returns-clause-answers
returns-clause-answers c =
    taken_job c.args.name.now (words_of c.args.words.now) (row_of c.in-Some.command)
    c.in-Some.ensures _ (rw c.in-Ok.ensures at c.in-Ok-take.ensures) _ c.in-Err-job.ensures
