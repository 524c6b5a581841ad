use Rattle.oc_program.proofs.starting.start_at.Goals as goal

pub returns : goal.returns
returns c =
    let (end, usage, told, is, line, happened) = c.run_on_streams-ran.ensures.ended in
    let left = c.run_on_streams-ran.result.things in
    record {
      ended = record {
        first = record {
          stage = c.empty-stage.result;
          files = record { control = c.new-control.result; alternate = c.new-alternate.result; content = c.new-content.result };
          dialler = c.new-dialler.result;
          link = c.new-link.result;
          pause = tt;
          started = c.since_1970.result;
        };
        last = record { stage = left.stage; files = left.files; dialler = left.dialler; link = left.link; pause = tt; started = left.started };
        new_dialler = c.new-dialler.ensures;
        new_link = c.new-link.ensures.counts;
        end = end;
        usage = usage;
        told = told;
        status_is = is;
        line = line;
        happened = happened;
      };
    }
