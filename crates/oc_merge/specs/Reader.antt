use Rattle.oc_merge.specs.declared.reader.Reader.{Reader}
use Rattle.oc_merge.specs.Reading.{Reading}

-- The view of a reader of records.
abbrev pub reading_of : Reader → Reading
reading_of r = record { header = r.header; started = r.started; areas = r.areas.items; place = r.place; lines = r.lines.items }
