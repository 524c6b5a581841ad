use Rattle.std.proofs.Common.{◌≡◌, ◌∙◌, ◌⊎◌, ◌≤◌, ◌^◌, ◌-◌, length, ap, rules, sym, subst}
use Rattle.oc_schedule.specs.Schedule.{schedule_of}
use Rattle.oc_commands.specs.AtReplay.{scale_of, status_for}
use Rattle.oc_keep.specs.Files.{disks_in}
use Rattle.oc_commands.specs.Outside.{at_files, at_link, at_stage}
use Rattle.oc_words.specs.Words.{asked, texts_of}
use Rattle.oc_program.proofs.Passed.{bytes_told, line_told, lines_told, node_in_text, text_told}
use Rattle.oc_program.proofs.InMemory.{replayed_of}
use Rattle.oc_commands.proofs.Told.{happened_told}
use Rattle.oc_program.proofs.streams.run_in_memory.Goals as goal

pub returns : goal.returns
returns g c =
    let (end, usage, error, is, line, happened) = c.run-status.ensures.ended in
    let words = asked (texts_of c.args.words.now) in
    let things = c.args.things in
    let outside = c.run-status.result.outside in
    let stage = at_stage g.T.Stage.world things.stage outside.stage in
    let files = at_files g.D.Disk.view (disks_in things.files) (disks_in outside.files) in
    let link = at_link g.L.Dialler.story g.L.Dialler.faults things.dialler outside.dialler in
    let few : length c.args.input.now ≤ 2 ^ 64 - 1 = search rules in
    let fits : c.traffic.result.bytes ≤ 2 ^ 64 - 1 = search rules in
    let input = bytes_told c.new-source.result outside.input (λ r. r.now) c.new-source.ensures.passed
    c.args.input.now (ap (λ r. r.now) c.new-source.ensures.reader) few c.traffic.result.bytes c.traffic.ensures.bytes fits in
    let token_few : length c.args.token.now ≤ 2 ^ 64 - 1 = search rules in
    let token_fits : c.traffic-2.result.bytes ≤ 2 ^ 64 - 1 = search rules in
    let token = bytes_told c.new-token_source.result outside.token (λ r. r.now) c.new-token_source.ensures.passed
    c.args.token.now (ap (λ r. r.now) c.new-token_source.ensures.reader) token_few c.traffic-2.result.bytes c.traffic-2.ensures.bytes token_fits in
    let output = text_told c.new-out.result outside.output (λ v. v.items) (ap (λ v. v.items) c.new-out.ensures.writer ∙ c.new.ensures.items)
    c.into_writer.result.items (ap (λ v. v.items) c.into_writer.ensures) in
    let node = node_in_text c.new-out.result outside.output (λ v. v.items) (ap (λ v. v.items) c.new-out.ensures.writer ∙ c.new.ensures.items)
    c.into_writer.result.items (ap (λ v. v.items) c.into_writer.ensures) g.D.Disk.view g.N.Link.story g.N.Link.counts (disks_in things.files) (disks_in outside.files) things.link outside.link in
    let empty = ap (λ v. v.items) c.new-err.ensures.writer ∙ c.new-2.ensures.items in
    let whole = ap (λ v. v.items) c.into_writer-2.ensures in
    let lines = lines_told c.new-err.result error outside.error (λ v. v.items) empty c.into_writer-2.result.items whole in
    let written = line_told c.new-err.result error outside.error (λ v. v.items) empty c.into_writer-2.result.items whole _ line in
    let told = happened_told _ _ _ _ _ _ stage input output lines words files link _ _ _ _ node token end happened in
    record {
      ended = (end, usage, error.writer.items, is, written, told);
      replayed = λ large summary file asks. subst (λ n. (n ≡ status_for (schedule_of (scale_of large) c.args.input.now)) ⊎ (n ≡ 1) ⊎ (n ≡ 4)) (sym is) (replayed_of c.args.input.now c.traffic.result.bytes _ _ stage files link _ _ large summary file words end asks told);
    }
