-- Counts by kind, added.
use Rattle.std.specs.Prelude.{◌≡◌, ◌+◌}
use Rattle.ptu_definitions.specs.declared.records.KindCounts.{KindCounts}

-- each record is of one kind
abbrev pub IsSplit : KindCounts → Type 0
IsSplit counts = counts.photons + counts.markers + counts.wraps + counts.reserved ≡ counts.records

abbrev pub sum_of : KindCounts → KindCounts → KindCounts
sum_of counts more = record {
  records = counts.records + more.records;
  photons = counts.photons + more.photons;
  markers = counts.markers + more.markers;
  wraps = counts.wraps + more.wraps;
  reserved = counts.reserved + more.reserved;
}
