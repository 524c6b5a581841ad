use Rattle.std.proofs.Common.{◌⊎◌, inl, inr, ◌<◌, ◌≤◌, ◌-◌, length, arith}
use Rattle.oc_journal.proofs.Gates.{gate_whole, gate_broken}
use Rattle.oc_journal.proofs.loading.read_gate.Goals as goal
use Rattle.oc_journal.proofs.loading.read_gate.Goals.{then-read-lt5-via-then-read-lt5, then-read-lt5-via-else-read-lt5+then-from-size}

pub returns-then-read-lt5-clause-not_journal : goal.returns-then-read-lt5-clause-not_journal
returns-then-read-lt5-clause-not_journal g c = λ _ honest.
    let v = g.D.Disk.view c.args.disk.now in
    let file = v.seen in
    let size = (g.met.D.Disk.consistent c.args.disk.now honest).size in
    let short : (c.in_ok-read.read < 5) ⊎ (length file - c.args.gate - 5 ≤ c.len_in-len.result) = elim c.then-read-lt5.branch [
      | then-read-lt5-via-then-read-lt5 w ↦ inl (omega (arith, w.if-read-lt5.true))
      | then-read-lt5-via-else-read-lt5+then-from-size w ↦ inr (omega (arith, w.if-from-size.true, w.from.ensures, size, c.requires.size))
    ] in
    gate_broken file c.read_at.new.buf c.args.gate c.in_ok-read.read c.len_in-len.result (omega arith) (omega (arith, c.in_ok-read.ensures.count, size)) (omega (arith, size)) (c.in_ok-read.ensures.bytes honest) c.if-head-ne-OPEN.false c.len_in-len.ensures short (omega arith)

pub returns-clause-gate : goal.returns-clause-gate
returns-clause-gate g c = λ honest.
    let v = g.D.Disk.view c.args.disk.now in
    let file = v.seen in
    let size = (g.met.D.Disk.consistent c.args.disk.now honest).size in
    gate_whole file c.read_at.new.buf c.args.gate c.in_ok-read.read c.len_in-len.result (omega arith) (omega (arith, c.in_ok-read.ensures.count, size)) (omega (arith, size)) (c.in_ok-read.ensures.bytes honest) (omega (arith, c.in_ok-read.ensures.count, size)) c.if-head-ne-OPEN.false c.len_in-len.ensures
