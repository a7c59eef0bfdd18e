use Rattle.std.proofs.Common.{refl, ◌∙◌}
use Rattle.std.specs.Prelude.{option_map}
use Rattle.fpga_problem.specs.declared.text_file.TextFile.TheVariants.{Netlist, Placement, Route}
use Rattle.route_picture.specs.Words.{words_said}
use Rattle.fpga_problem.specs.declared.source.TheConstants.{TEXT_BYTES}
use Rattle.route_picture.specs.declared.given_file.GivenFile.TheVariants.{Routed, Text}
use Rattle.route_picture.proofs.DrawnLemmas.{stop-before, text-before, text-before-if, unread-if}
use Rattle.route_picture.proofs.drawn.read_texts.Goals as goal

pub returns-in-Err-bytes : goal.returns-in-Err-bytes
returns-in-Err-bytes g c = record {
  file = Text Netlist;
  name = c.args.words.files.net.now;
  named = refl;
  reached = (c.in-Ok.bytes.items, c.in-Ok.ensures.bytes);
  stops = stop-before (Text Netlist) c.args.words.files.net.now TEXT_BYTES _ _ _ _
      (g.D.Desk.state c.bytes-2.new.desk) _
      c.in-Ok.ensures.files c.in-Ok.ensures.faults c.in-Err-bytes.ensures.stop;
}

pub returns-in-Err-bytes-2 : goal.returns-in-Err-bytes-2
returns-in-Err-bytes-2 g c = record {
  file = Text Placement;
  name = c.args.words.files.place.now;
  named = refl;
  reached = (
    (c.in-Ok.bytes.items, c.in-Ok.ensures.bytes),
    (
      c.in-Ok-bytes.bytes.items,
      text-before _ _ c.args.words.files.net.now TEXT_BYTES _ c.in-Ok.ensures.files
          c.in-Ok-bytes.ensures.bytes,
    ),
  );
  stops = stop-before (Text Placement) c.args.words.files.place.now TEXT_BYTES _ _ _ _
      (g.D.Desk.state c.bytes-3.new.desk) _
      (c.in-Ok-bytes.ensures.files ∙ c.in-Ok.ensures.files)
      (c.in-Ok-bytes.ensures.faults ∙ c.in-Ok.ensures.faults) c.in-Err-bytes-2.ensures.stop;
}

pub returns-in-Err-bytes-3 : goal.returns-in-Err-bytes-3
returns-in-Err-bytes-3 g c = record {
  file = Text Route;
  name = c.args.words.files.route.now;
  named = refl;
  reached = (
    (c.in-Ok.bytes.items, c.in-Ok.ensures.bytes),
    (
      c.in-Ok-bytes.bytes.items,
      text-before _ _ c.args.words.files.net.now TEXT_BYTES _ c.in-Ok.ensures.files
          c.in-Ok-bytes.ensures.bytes,
    ),
    (
      c.in-Ok-bytes-2.bytes.items,
      text-before _ _ c.args.words.files.place.now TEXT_BYTES _
          (c.in-Ok-bytes.ensures.files ∙ c.in-Ok.ensures.files) c.in-Ok-bytes-2.ensures.bytes,
    ),
  );
  stops = stop-before (Text Route) c.args.words.files.route.now TEXT_BYTES _ _ _ _
      (g.D.Desk.state c.bytes-4.new.desk) _
      (c.in-Ok-bytes-2.ensures.files ∙ c.in-Ok-bytes.ensures.files ∙ c.in-Ok.ensures.files)
      (c.in-Ok-bytes-2.ensures.faults ∙ c.in-Ok-bytes.ensures.faults ∙ c.in-Ok.ensures.faults)
      c.in-Err-bytes-3.ensures.stop;
}

pub returns-in-Err-bytes_if-2 : goal.returns-in-Err-bytes_if-2
returns-in-Err-bytes_if-2 g c =
    let two = c.in-Ok-bytes.ensures.files ∙ c.in-Ok.ensures.files in
    let three = c.in-Ok-bytes-2.ensures.files ∙ two in
    let four = c.in-Ok-bytes-3.ensures.files ∙ three in
    unread-if (words_said c.args.words) TEXT_BYTES _ (g.D.Desk.state c.bytes_if.new.desk) _ Routed _
    c.in-Err-bytes_if-2.stop
    c.routed_name.ensures (
      (c.in-Ok.bytes.items, c.in-Ok.ensures.bytes),
      (
        c.in-Ok-bytes.bytes.items,
        text-before _ _ c.args.words.files.net.now TEXT_BYTES _ c.in-Ok.ensures.files
            c.in-Ok-bytes.ensures.bytes,
      ),
      (
        c.in-Ok-bytes-2.bytes.items,
        text-before _ _ c.args.words.files.place.now TEXT_BYTES _ two c.in-Ok-bytes-2.ensures.bytes,
      ),
      (
        c.in-Ok-bytes-3.bytes.items,
        text-before _ _ c.args.words.files.route.now TEXT_BYTES _ three
            c.in-Ok-bytes-3.ensures.bytes,
      ),
      (
        option_map (λ bytes. bytes.items) c.in-Ok-bytes_if.names,
        text-before-if _ _ _ TEXT_BYTES _ four c.in-Ok-bytes_if.ensures.bytes,
      ),
    ) (c.in-Ok-bytes_if.ensures.files ∙ four)
    (c.in-Ok-bytes_if.ensures.faults ∙ c.in-Ok-bytes-3.ensures.faults
    ∙ c.in-Ok-bytes-2.ensures.faults ∙ c.in-Ok-bytes.ensures.faults ∙ c.in-Ok.ensures.faults)
    c.in-Err-bytes_if-2.ensures.stop
