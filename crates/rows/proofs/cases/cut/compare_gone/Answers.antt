use Rattle.std.proofs.Common.{◌≡◌, rules}
use Rattle.std.specs.Prelude.{None, String, string_bytes}
use Rattle.std.specs.FinMap.{get}
use Rattle.std.specs.Global.{Global}
use Rattle.list_laws.proofs.FrontParts.{all-next, all-whole}
use Rattle.list_laws.proofs.Places.{get-there}
use Rattle.rows.proofs.cases.cut.compare_gone.Goals as goal

pub loop-name-preserved : goal.loop-name-preserved
loop-name-preserved c =
    let at = get-there c.args.names.now c.loop-name.name-index c.name-item.result c.name-item.result
    (search rules) (search rules) in
    all-next (λ (name : String Global). get c.args.shelf.now.files (string_bytes name) ≡ None)
    c.args.names.now c.loop-name.name-index c.name-item.result at c.loop-name.invariant
    (search rules)

pub returns : goal.returns
returns c =
    all-whole (λ (name : String Global). get c.args.shelf.now.files (string_bytes name) ≡ None)
    c.args.names.now c.loop-name.name-index (search rules) c.loop-name.invariant
