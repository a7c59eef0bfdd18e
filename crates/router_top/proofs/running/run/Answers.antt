use Rattle.std.proofs.lemmas.Option.{IfSome_then}
use Rattle.router_words.specs.Word.{words_of}
use Rattle.router_top.specs.Run.{Runs}
use Rattle.run_outcome.specs.Scene.{scene}
use Rattle.router_top.proofs.ComeLaws.{leaves-came}
use Rattle.router_top.proofs.CompleteLaws.{runs-complete}
use Rattle.router_top.proofs.LeftLaws.{runs-leave}
use Rattle.router_top.proofs.MeansLaws.{runs-mean}
use Rattle.run_outcome.proofs.PosedLaws.{reported-lacks}
use Rattle.run_placed.proofs.ReasonLaws.{reported-gives, reported-lacks-reason}
use Rattle.router_top.proofs.SaidLaws.{runs-speak}
use Rattle.run_outcome.proofs.StoppedLaws.{reported-stopped}
use Rattle.router_top.proofs.running.run.Goals as goal

pub returns : goal.returns
returns g c =
    let words = words_of c.args.words.now in
    let desk = g.D.Desk.state c.args.desk.now in
    let desk_now = g.D.Desk.state c.work-outcome.new.desk in
    let shelf = g.S.Shelf.state c.args.shelf.now in
    let shelf_now = g.S.Shelf.state c.say_report-outcome.new.shelf in
    let answer = c.say_report-outcome.result in
    let ran : Runs words desk desk_now shelf shelf_now answer = record {
      outcome = c.work-outcome.result.outcome;
      between = g.S.Shelf.state c.work-outcome.new.shelf;
      leaves = c.work-outcome.ensures.leaves;
      files_stay = c.work-outcome.ensures.files;
      quiet = c.work-outcome.ensures.quiet;
      reports = c.say_report-outcome.ensures;
    } in
    let came = leaves-came words (scene desk desk_now shelf ran.between) ran.outcome ran.leaves in
    record {
      means = runs-mean words desk desk_now shelf shelf_now answer ran came;
      runs = ran;
      files = runs-leave words desk desk_now shelf shelf_now answer ran came;
      says = runs-speak words desk desk_now shelf shelf_now answer ran came;
      complete = runs-complete words desk desk_now shelf shelf_now answer ran came;
      posed = c.work-outcome.ensures.posed;
      unposed = λ none. reported-lacks words ran.between ran.outcome shelf_now answer
          c.say_report-outcome.ensures (c.work-outcome.ensures.lacks none);
      stopped = λ stopped. c.work-outcome.ensures.stopped (reported-stopped words ran.between
          ran.outcome shelf_now answer c.say_report-outcome.ensures stopped);
      reason = IfSome_then c.work-outcome.result.reason c.work-outcome.ensures.reason
          (λ reason gives. reported-gives words desk.files shelf.files ran.between shelf_now
          ran.outcome answer reason c.say_report-outcome.ensures gives);
      unraised = λ none. reported-lacks-reason words ran.between shelf_now ran.outcome answer
          c.say_report-outcome.ensures (c.work-outcome.ensures.unraised none);
    }
