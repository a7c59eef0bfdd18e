use Rattle.std.specs.Prelude.{map, string_bytes}
use Rattle.route_picture.proofs.SaidLemmas.{said-whole}
use Rattle.route_picture.proofs.said.append_stop.Goals as goal

pub returns : goal.returns
returns g c =
    said-whole (map string_bytes c.args.words.now) c.args.stop c.file_about.result
    (string_bytes c.in_ok-meaning.meaning) _ _ _ _ _ c.file_about.ensures c.as_str.ensures.value
    c.in_ok-meaning.ensures c.in_ok-append_about.ensures c.in_ok-push_str.ensures.bytes
    c.in_ok-push_str-2.ensures.bytes
