use Rattle.std.proofs.Common.{◌≡◌, ◌≤◌, length, map}
use Rattle.std.specs.List.{AllByRecursion}
use Rattle.httparse.specs.Spans.{IsHeaderWithin, header_bytes}
use Rattle.http_front.specs.Fields.{values_of}
use Rattle.http_front.proofs.fields.find_named.Given as goal

abbrev pub invariant-loop-rest : goal.invariant-loop-rest
invariant-loop-rest l = record {
  within : AllByRecursion (IsHeaderWithin (length l.bytes)) l.rest;
  same : values_of l.name (map (header_bytes l.bytes) l.headers) ≡ values_of l.name (map (header_bytes l.bytes) l.rest);
  shorter : length l.rest ≤ length l.headers;
}

abbrev pub decreases-loop-rest : goal.decreases-loop-rest
decreases-loop-rest l = length l.rest
