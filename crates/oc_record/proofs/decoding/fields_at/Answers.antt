use Rattle.std.proofs.Common.{◌≡◌, refl, arith, rules}
use Rattle.oc_record.specs.Faults.{of_field}
use Rattle.oc_record.specs.Reading.{fields_at, ask_at, joined_at, ranked_at, old_entry_at, acked_at, rate_record_at, epoch_at, base_at, snapshot_at, entry_at, info_at}
use Rattle.oc_record.proofs.Lifts.{field_given, given_itself}
use Rattle.oc_record.proofs.decoding.fields_at.Goals as goal

pub returns-in-Some-eq0 : goal.returns-in-Some-eq0
unfolding fields_at
returns-in-Some-eq0 c =
    let code : c.args.code ≡ 1 = omega (arith, c.in-Some-eq0.ensures.some.0, c.in-Some-eq0.field-0-is) in
    rw (c.record_of.ensures, c.ask_at.ensures, code) (given_itself (of_field (ask_at c.args.nodes c.args.bytes.now c.args.at)))

pub returns-in-Some-eq1 : goal.returns-in-Some-eq1
unfolding fields_at
returns-in-Some-eq1 c =
    let code : c.args.code ≡ 2 = omega (arith, c.in-Some-eq1.ensures.some.0, c.in-Some-eq1.field-0-is) in
    rw (c.record_of-in-Some-eq1.ensures, c.joined_at.ensures, code) (given_itself (of_field (joined_at c.args.nodes c.args.bytes.now c.args.at)))

pub returns-in-Some-eq2 : goal.returns-in-Some-eq2
unfolding fields_at
returns-in-Some-eq2 c =
    let code : c.args.code ≡ 3 = omega (arith, c.in-Some-eq2.ensures.some.0, c.in-Some-eq2.field-0-is) in
    rw (c.record_of-in-Some-eq2.ensures, code) refl

pub returns-in-Some-eq3 : goal.returns-in-Some-eq3
unfolding fields_at
returns-in-Some-eq3 c =
    let code : c.args.code ≡ 4 = omega (arith, c.in-Some-eq3.ensures.some.0, c.in-Some-eq3.field-0-is) in
    rw (c.record_of-in-Some-eq3.ensures, code) refl

pub returns-in-Some-eq4 : goal.returns-in-Some-eq4
unfolding fields_at
returns-in-Some-eq4 c =
    let code : c.args.code ≡ 5 = omega (arith, c.in-Some-eq4.ensures.some.0, c.in-Some-eq4.field-0-is) in
    rw (c.record_of-in-Some-eq4.ensures, c.ranked_at.ensures, code) (given_itself (of_field (ranked_at c.args.bytes.now c.args.at)))

pub returns-in-Some-eq5 : goal.returns-in-Some-eq5
unfolding fields_at
returns-in-Some-eq5 c =
    let code : c.args.code ≡ 6 = omega (arith, c.in-Some-eq5.ensures.some.0, c.in-Some-eq5.field-0-is) in
    rw (c.record_of-in-Some-eq5.ensures, c.old_entry_at.ensures, code) (given_itself (of_field (old_entry_at c.args.nodes c.args.bytes.now c.args.at)))

pub returns-in-Some-eq6 : goal.returns-in-Some-eq6
unfolding fields_at
returns-in-Some-eq6 c =
    let code : c.args.code ≡ 7 = omega (arith, c.in-Some-eq6.ensures.some.0, c.in-Some-eq6.field-0-is) in
    rw (c.record_of-in-Some-eq6.ensures, c.acked_at.ensures, code) (given_itself (of_field (acked_at c.args.bytes.now c.args.at)))

pub returns-in-Some-eq7 : goal.returns-in-Some-eq7
unfolding fields_at
returns-in-Some-eq7 c =
    let code : c.args.code ≡ 8 = omega (arith, c.in-Some-eq7.ensures.some.0, c.in-Some-eq7.field-0-is) in
    rw (c.record_of-in-Some-eq7.ensures, code) (field_given c.ancestors_record_at.result _ c.ancestors_record_at.ensures)

pub returns-in-Some-eq8 : goal.returns-in-Some-eq8
unfolding fields_at
returns-in-Some-eq8 c =
    let code : c.args.code ≡ 9 = omega (arith, c.in-Some-eq8.ensures.some.0, c.in-Some-eq8.field-0-is) in
    rw (c.record_of-in-Some-eq8.ensures, c.rate_record_at.ensures, code) (given_itself (of_field (rate_record_at c.args.nodes c.args.bytes.now c.args.at)))

pub returns-in-Some-eq9 : goal.returns-in-Some-eq9
unfolding fields_at
returns-in-Some-eq9 c =
    let code : c.args.code ≡ 10 = omega (arith, c.in-Some-eq9.ensures.some.0, c.in-Some-eq9.field-0-is) in
    rw (c.record_of-in-Some-eq9.ensures, c.epoch_at.ensures, code) (given_itself (of_field (epoch_at c.args.bytes.now c.args.at)))

pub returns-in-Some-eq10 : goal.returns-in-Some-eq10
unfolding fields_at
returns-in-Some-eq10 c =
    let code : c.args.code ≡ 11 = omega (arith, c.in-Some-eq10.ensures.some.0, c.in-Some-eq10.field-0-is) in
    rw (c.record_of-in-Some-eq10.ensures, c.base_at.ensures, code) (given_itself (of_field (base_at c.args.bytes.now c.args.at)))

pub returns-in-Some-eq11 : goal.returns-in-Some-eq11
unfolding fields_at
returns-in-Some-eq11 c =
    let code : c.args.code ≡ 12 = omega (arith, c.in-Some-eq11.ensures.some.0, c.in-Some-eq11.field-0-is) in
    rw (c.record_of-in-Some-eq11.ensures, c.snapshot_at.ensures, code) (given_itself (of_field (snapshot_at c.args.bytes.now c.args.at)))

pub returns-in-Some-eq12 : goal.returns-in-Some-eq12
unfolding fields_at
returns-in-Some-eq12 c =
    let code : c.args.code ≡ 13 = omega (arith, c.in-Some-eq12.ensures.some.0, c.in-Some-eq12.field-0-is) in
    rw (c.record_of-in-Some-eq12.ensures, c.entry_at.ensures, code) (given_itself (of_field (entry_at c.args.nodes c.args.bytes.now c.args.at)))

pub returns-in-Some-eq13 : goal.returns-in-Some-eq13
unfolding fields_at
returns-in-Some-eq13 c =
    let code : c.args.code ≡ 14 = omega (arith, c.in-Some-eq13.ensures.some.0, c.in-Some-eq13.field-0-is) in
    rw (c.record_of-in-Some-eq13.ensures, c.info_at.ensures, code) (given_itself (of_field (info_at c.args.bytes.now c.args.at)))

pub returns-in_default : goal.returns-in_default
unfolding fields_at
returns-in_default c = search rules
