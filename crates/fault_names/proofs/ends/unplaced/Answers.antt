use Rattle.std.proofs.Common.{◌∙◌, ◌++◌, List, ap}
use Rattle.std.specs.Borrow.{Bor}
use Rattle.fpga_text.specs.Bytes.{Bytes}
use Rattle.fault_names.specs.LinesBy.{first_words}
use Rattle.fault_names.specs.Lookups.{bytes_of}
use Rattle.fault_names.proofs.NameListLemmas.{looked}
use Rattle.fault_names.proofs.ends.unplaced.Goals as goal

pub returns : goal.returns
returns c = looked c.first_apart.result _ _ _ _
    (ap bytes_of c.deref.ensures.value ∙ c.in_ok-names.ensures)
    (ap bytes_of c.deref-2.ensures.value ∙ c.in_ok-add_first_words.ensures
    ∙ ap (λ (xs : List (Bor Bytes)). bytes_of xs ++ first_words c.args.place.now)
    c.new-others.ensures.items)
    c.first_apart.ensures
