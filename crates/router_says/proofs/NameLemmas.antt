-- What two files say, read one after the other.
use Rattle.std.proofs.Common.{◌≡◌, ℕ, List, ◌++◌, Option, refl, subst}
use Rattle.desk_io.specs.DeskState.{DeskState}
use Rattle.desk_io.specs.Files.{Bytes}
use Rattle.router_says.specs.AtFault.{Appends, IsRead, SaidByTwo, said_by_both}

pub said-by-two : (before between now : DeskState) (first second : Option Bytes)
    (said_by : Bytes → Bytes → List ℕ) (a b one other : Option Bytes) (old new : List ℕ) →
    a ≡ first → b ≡ second → between.files ≡ before.files → IsRead before between a one →
    IsRead between now b other → new ≡ old ++ said_by_both said_by one other →
    Appends (SaidByTwo before now first second said_by) old new
said-by-two before between now first second said_by a b one other old new is_a is_b same one_read
    other_read said = (
      said_by_both said_by one other,
      record {
        between = between;
        same = same;
        one = one;
        other = other;
        one_read = subst (λ (name : Option Bytes). IsRead before between name one) is_a one_read;
        other_read = subst (λ (name : Option Bytes). IsRead between now name other) is_b other_read;
        is = refl;
      },
      said,
    )
