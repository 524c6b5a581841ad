use Rattle.std.proofs.Common.{◌≤◌, ◌^◌, ◌-◌, None, rules}
use Rattle.oc_keep.specs.Files.{disks_in}
use Rattle.oc_commands.specs.Outside.{at_files, at_link, at_stage}
use Rattle.oc_words.specs.Words.{asked, texts_of}
use Rattle.oc_program.proofs.Passed.{count_told, counts_told, input_told, node_in_counts, output_told}
use Rattle.oc_commands.proofs.Told.{happened_told}
use Rattle.oc_program.proofs.streams.run_on_streams.Goals as goal

pub returns : goal.returns
returns g c =
    let (end, usage, error, is, line, happened) = c.run-status.ensures.ended in
    let words = asked (texts_of c.args.words.now) in
    let things = c.args.things in
    let outside = c.run-status.result.outside in
    let stage = at_stage g.T.Stage.world things.stage outside.stage in
    let files = at_files g.D.Disk.view (disks_in things.files) (disks_in outside.files) in
    let link = at_link g.L.Dialler.story g.L.Dialler.faults things.dialler outside.dialler in
    let read : c.traffic.result.bytes ≤ 2 ^ 64 - 1 = search rules in
    let written : c.traffic-3.result.bytes ≤ 2 ^ 64 - 1 = search rules in
    let told : c.traffic-4.result.bytes ≤ 2 ^ 64 - 1 = search rules in
    let input = input_told c.new-stdin.result outside.input g.R.Read.remaining c.new-stdin.ensures.passed c.new-stdin.ensures.faults
    c.traffic.result c.traffic.ensures.bytes c.traffic.ensures.faults read in
    let bearer : c.traffic-2.result.bytes ≤ 2 ^ 64 - 1 = search rules in
    let token = input_told c.new-token.result outside.token g.R.Read.remaining c.new-token.ensures.passed c.new-token.ensures.faults
    c.traffic-2.result c.traffic-2.ensures.bytes c.traffic-2.ensures.faults bearer in
    let output = output_told c.new-stdout.result outside.output (λ w. None) c.new-stdout.ensures.passed c.new-stdout.ensures.faults
    c.traffic-3.result c.traffic-3.ensures.bytes c.traffic-3.ensures.faults written in
    let node = node_in_counts c.new-stdout.result outside.output (λ w. None) c.new-stdout.ensures.passed c.new-stdout.ensures.faults
    c.traffic-3.result c.traffic-3.ensures.bytes c.traffic-3.ensures.faults written g.D.Disk.view g.N.Link.story g.N.Link.counts (disks_in things.files) (disks_in outside.files) things.link outside.link in
    let lines = counts_told c.new-stderr.result error outside.error (λ w. None) c.new-stderr.ensures.passed c.new-stderr.ensures.faults
    c.traffic-4.result c.traffic-4.ensures.bytes c.traffic-4.ensures.faults told in
    let line_is = count_told c.new-stderr.result error outside.error (λ w. None) c.new-stderr.ensures.passed c.new-stderr.ensures.faults
    c.traffic-4.result c.traffic-4.ensures.bytes c.traffic-4.ensures.faults told _ line in
    record { ended = (end, usage, _, is, line_is, happened_told _ _ _ _ _ _ stage input output lines words files link _ _ _ _ node token end happened) }
