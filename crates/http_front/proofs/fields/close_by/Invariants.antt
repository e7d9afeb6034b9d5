use Rattle.std.proofs.Common.{◌≡◌, length, map, codes}
use Rattle.std.specs.List.{AllByRecursion, list_any}
use Rattle.httparse.specs.Spans.{IsHeaderWithin, header_bytes}
use Rattle.http_front.specs.Fields.{values_of, has_close}
use Rattle.http_front.proofs.fields.close_by.Given as goal

abbrev pub invariant-loop-found : goal.invariant-loop-found
invariant-loop-found l = record {
  within : AllByRecursion (IsHeaderWithin (length l.bytes)) l.rest;
  same : list_any has_close (values_of (codes "connection") (map (header_bytes l.bytes) l.headers))
      ≡ list_any has_close (values_of (codes "connection") (map (header_bytes l.bytes) l.rest));
}

abbrev pub decreases-loop-found : goal.decreases-loop-found
decreases-loop-found l = length l.rest
