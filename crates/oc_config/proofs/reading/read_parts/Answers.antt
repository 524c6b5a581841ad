use Rattle.std.proofs.Common.{ap, length, arith}
use Rattle.oc_config.specs.Values.{sections_of}
use Rattle.oc_config.proofs.Lawful.{lawful}
use Rattle.oc_config.proofs.reading.read_parts.Goals as goal

pub returns-clause-lawful : goal.returns-clause-lawful
returns-clause-lawful c =
    let tables = sections_of c.args.tables.now in
    let split = c.in_ok-split.ensures in
    let greatest = c.greatest_of-greatest.ensures in
    lawful _ c.greatest_of-greatest.result tables c.in_ok-places.places.items (record {
      chain = c.requires.network.chain;
      chunk = c.requires.network.chunk;
      keys = c.requires.network.keys;
      count = greatest.range;
      within = omega (arith, c.in_ok-check_chain.ensures.within);
      nodes = c.in_ok-places.ensures;
      lists = record {
        retired = split.retired_are;
        addresses = split.addresses;
        listens = split.listens;
        areas = split.areas;
        names = split.names;
      };
      measures = c.in_ok-measures.ensures.lawful;
      rules = omega (arith, c.in_ok-rules.ensures.count, c.in_ok-rules.rules.ok.0, c.in_ok-rule_tables.ensures.count, c.in_ok-rule_tables.rule_tables.ok.0, ap length c.deref.ensures.value);
    })
