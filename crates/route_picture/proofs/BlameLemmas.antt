-- The names that lines give, taken one after another.
use Rattle.std.proofs.Common.{◌≡◌, ◌≢◌, ◌⊎◌, ℕ, Bool, true, false, List, [], ◌∷◌, ◌++◌, Some, None, refl, inl, inr, sym, ap, ap₂, subst, ◌∙◌}
use Rattle.std.specs.Prelude.{◌||◌, slice_get}
use Rattle.std.specs.List.{list_any}
use Rattle.std.proofs.Math.Bool.{or-false}
use Rattle.std.proofs.lemmas.Bool.{false≢true}
use Rattle.fpga_text.specs.Bytes.{Bytes}
use Rattle.fpga_text.specs.Reading.{past_first}
use Rattle.fpga_text.specs.Words.{TextLine, Words}
use Rattle.fpga_types.specs.declared.netlist.Net.{Net}
use Rattle.fpga_types.proofs.NameLaws.{name_itself}
use Rattle.route_draw.specs.Blamed.{is_blamed}
use Rattle.route_picture.specs.Blame.{AreNames, Given, IsStrange, NamesOthers, TakesFront, TakesNames, first_strange, given, given_by, given_in, has_net, name_in, names_of}
use Rattle.route_picture.specs.declared.stop.Stop.{Stop}
use Rattle.route_picture.specs.declared.stop.Stop.TheVariants.{Memory, NoNet}

or-next : (a b c : Bool) → ((a || b) || c) ≡ (a || (b || c))
or-next true b c = refl
or-next false b c = refl

any-push : {T : Type 0} (p : T → Bool) (xs : List T) (x : T)
    → list_any p (xs ++ x ∷ []) ≡ (list_any p xs || p x)
any-push p [] x = or-false (p x)
any-push p (y ∷ ys) x =
    ap (λ (b : Bool). p y || b) (any-push p ys x) ∙ sym (or-next (p y) (list_any p ys) (p x))

-- the first that no net has
pub strange-one : (nets : List Net) (all rest : List Given) (one : Given) (names : List Bytes)
    → has_net nets one.name ≡ false → TakesFront nets all (one ∷ rest) names
    → first_strange nets all ≡ Some one
strange-one nets all rest one names unknown front = sym front.strange ∙ first unknown
  where
    first : has_net nets one.name ≡ false → first_strange nets (one ∷ rest) ≡ Some one
    first e = rw e refl

-- all were taken
pub takes-all : (nets : List Net) (all : List Given) (names : List Bytes)
    → TakesFront nets all [] names
    → ((name : Bytes) → is_blamed names name ≡ is_blamed (names_of all) name)
    × (first_strange nets all ≡ None)
takes-all nets all names front = (
  λ name. sym (or-false (is_blamed names name)) ∙ front.same name,
  sym front.strange,
)

-- where no name was taken none was given, and else some were
pub none-given : (all : List Given)
    → ((name : Bytes) → is_blamed [] name ≡ is_blamed (names_of all) name) → all ≡ []
none-given [] same = refl
none-given (one ∷ all) same =
    absurd (false≢true (same one.name
    ∙ ap (λ (b : Bool). b || is_blamed (names_of all) one.name) (name_itself one.name)))

pub some-given : (all : List Given) (names : List Bytes) → names ≢ []
    → ((name : Bytes) → is_blamed names name ≡ is_blamed (names_of all) name) → all ≢ []
some-given all [] some same none = some refl
some-given all (first ∷ names) some same none =
    false≢true (sym (same first ∙ ap (λ (gs : List Given). is_blamed (names_of gs) first) none)
    ∙ ap (λ (b : Bool). b || is_blamed names first) (name_itself first))

-- what the next line gives stands before what the others give
line-first : (ahead : List TextLine) (line : TextLine) → slice_get ahead 0 ≡ Some line
    → (rest : List Given) × (given ahead ≡ given_by line.number (name_in line.words) ++ rest)
line-first [] line at = absurd cc
line-first (x ∷ xs) line at =
    let same : x ≡ line = cc in
    (given xs, ap (λ (l : TextLine). given_by l.number (name_in l.words) ++ given xs) same)

pub line-next : (ahead : List TextLine) (total : ℕ) (line : TextLine) (behind : List TextLine)
    → slice_get ahead 0 ≡ Some line → behind ≡ (past_first ahead total).ahead
    → given ahead ≡ given_by line.number (name_in line.words) ++ given behind
line-next [] total line behind at is = absurd cc
line-next (x ∷ xs) total line behind at is =
    let same : x ≡ line = cc in
    ap₂ (λ (l : TextLine) (rest : List TextLine).
    given_by l.number (name_in l.words) ++ given rest) same (sym is)

-- there is no line any more
pub lines-end : (ahead : List TextLine) → slice_get ahead 0 ≡ None → given ahead ≡ []
lines-end [] none = refl
lines-end (x ∷ xs) none = cc

-- a line gives a name that no net has
pub strange-named : (nets : List Net) (known : List Bytes) (number line : ℕ) (words : Words)
    (name : Bytes) → Some name ≡ name_in words → number ≡ line → AreNames nets known
    → is_blamed known name ≡ false
    → IsStrange nets (given_by line (name_in words)) (NoNet number)
strange-named nets known number line words name named same are unknown = inl (
  record { line = line; name = name },
  ap (given_by line) (sym named),
  sym (are name) ∙ unknown,
  ap NoNet same,
)

-- the next line stops the names, behind those that were taken
pub stops-strange : (nets : List Net) (text : Bytes) (all : List Given) (ahead : List TextLine)
    (line : TextLine) (names : List Bytes) (stop : Stop) → all ≡ given_in text
    → slice_get ahead 0 ≡ Some line → TakesFront nets all (given ahead) names
    → IsStrange nets (given_by line.number (name_in line.words)) stop
    → NamesOthers nets text stop ⊎ (stop ≡ Memory)
stops-strange nets text all ahead line names stop is at front (inr memory) = inr memory
stops-strange nets text all ahead line names stop is at front (inl strange) =
    let first = line-first ahead line at in
    inl (subst (NamesOthers nets text) (sym strange.3) (
      strange.0.name,
      ap (first_strange nets) (sym is)
          ∙ strange-one nets all first.0 strange.0 names strange.2
          (subst (λ (rest : List Given). TakesFront nets all rest names)
          (first.1 ∙ ap (λ (here : List Given). here ++ first.0) strange.1) front),
    ))

-- all lines were taken, and no name is taken
pub none-said : (nets : List Net) (text : Bytes) (all : List Given) (ahead : List TextLine)
    (names : List Bytes) → all ≡ given_in text → slice_get ahead 0 ≡ None
    → TakesFront nets all (given ahead) names → names ≡ [] → given_in text ≡ []
none-said nets text all ahead names is end front none =
    sym is ∙ none-given all (λ name. ap (λ (ns : List Bytes). is_blamed ns name) (sym none)
    ∙ (takes-all nets all names (subst (λ (rest : List Given). TakesFront nets all rest names)
    (lines-end ahead end) front)).0 name)

-- all lines were taken, and some names
pub names-taken : (nets : List Net) (text : Bytes) (all : List Given) (ahead : List TextLine)
    (names : List Bytes) → all ≡ given_in text → slice_get ahead 0 ≡ None
    → TakesFront nets all (given ahead) names → names ≢ [] → TakesNames nets text names
names-taken nets text all ahead names is end front some =
    let taken = takes-all nets all names
    (subst (λ (rest : List Given). TakesFront nets all rest names) (lines-end ahead end) front) in
    record {
      same = λ name. taken.0 name ∙ ap (λ (gs : List Given). is_blamed (names_of gs) name) is;
      names_nets = record {
        some = λ none. some-given all names some taken.0 (is ∙ none);
        none_strange = ap (first_strange nets) (sym is) ∙ taken.1;
      };
    }
