use Rattle.route_draw.proofs.LabelLemmas.{label-added, label-none}
use Rattle.route_draw.proofs.label.append_label.Goals as goal

pub returns-then-size-lt-LEAST : goal.returns-then-size-lt-LEAST
returns-then-size-lt-LEAST c = label-none c.args.name.now _

pub returns : goal.returns
returns c = label-added c.args.name.now c.as_str.result.now _ _ c.in_ok-append_named.ensures
