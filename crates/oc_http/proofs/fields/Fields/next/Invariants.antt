-- the rest has the values that all have, and it is no longer
use Rattle.std.proofs.Common.{◌≡◌, ◌≤◌, map, length}
use Rattle.std.specs.List.{AllByRecursion}
use Rattle.httparse.specs.Spans.{header_bytes, IsHeaderWithin}
use Rattle.oc_http.specs.Fields.{values}
use Rattle.oc_http.proofs.fields.Fields.next.Given as goal

abbrev pub invariant-fields : goal.invariant-fields
invariant-fields l = record {
  within : AllByRecursion (IsHeaderWithin (length l.bytes)) l.rest;
  left : values l.name (map (header_bytes l.bytes) l.rest) ≡ values l.name l.self;
  fewer : length l.rest ≤ length l.self;
}

abbrev pub decreases-fields : goal.decreases-fields
decreases-fields l = length l.rest
