-- A summary with one more record, and with its event.
use Rattle.std.specs.{Prelude.{ℕ, ◌≡◌, ◌+◌, Bool, true, false, List, [], ◌∷◌, None, Some, length, map, count_by}, declared.option.Option.Option}
use Rattle.{tally_base.specs.declared.event.Event.Event, ptu_definitions.specs.declared.records.{Summary.Summary, KindCounts.KindCounts, Raw.{Raw, TheVariants.{Photon, Marker, Wrap, Reserved}}}}
use Rattle.{ptu_definitions.specs.{Kept.Marked, Kinds.{is_photon, is_marker, is_wrap, is_reserved}, Streams.{StreamSettings, events_in}}, record_stream.specs.declared.sums.Sums.Sums}

abbrev pub with_raw : Summary → Raw → Summary
with_raw s (Photon input time dtime) = record s { records = s.records + 1; photons = s.photons + 1 }
with_raw s (Marker bits time) = record s { records = s.records + 1; markers = s.markers + 1 }
with_raw s (Wrap amount) = record s { records = s.records + 1; wraps = s.wraps + 1 }
with_raw s Reserved = record s { records = s.records + 1; reserved = s.reserved + 1 }

abbrev pub or_time : Option ℕ → ℕ → Option ℕ
or_time None time = Some time
or_time (Some earlier) time = Some earlier

abbrev pub with_event : Summary → Event → Bool → Summary
with_event s e true = record s { late = s.late + 1 }
with_event s e false = record s { first = or_time s.first e.time; last = Some e.time }

abbrev pub with_marks : Summary → Marked → Summary
with_marks s [] = s
with_marks s (x ∷ xs) = with_marks (with_event s x.0 x.1) xs

-- the first and the last time, with the events of a block
abbrev pub first_with : Option ℕ → List Event → Option ℕ
first_with o [] = o
first_with o (e ∷ es) = or_time o e.time

abbrev pub last_with : Option ℕ → List Event → Option ℕ
last_with o [] = o
last_with o (e ∷ es) = last_with (Some e.time) es

-- records of these kinds more, with these events, none of them late
abbrev pub with_block : Summary → KindCounts → List Event → Summary
with_block s k es = record {
  records = s.records + k.records;
  photons = s.photons + k.photons;
  markers = s.markers + k.markers;
  wraps = s.wraps + k.wraps;
  reserved = s.reserved + k.reserved;
  late = s.late;
  first = first_with s.first es;
  last = last_with s.last es;
}

-- The summary of the words so far.

-- the summary of these records, with no event
abbrev pub eventless : List Raw → Summary
eventless records = record {
  records = length records;
  photons = count_by is_photon records;
  markers = count_by is_marker records;
  wraps = count_by is_wrap records;
  reserved = count_by is_reserved records;
  late = 0;
  first = None;
  last = None;
}

-- The summary of these words, with the events that are delivered so far.
unfoldable pub so_far : StreamSettings → List ℕ → Summary
so_far how words = with_marks (eventless (map how.meaning words)) (events_in how words)

-- So many records more were counted, and no late event.
pub record CountsMore (old new : Sums) (many : ℕ) : Type 0 where
  pub records : new.records ≡ old.records + many
  pub late : new.late ≡ old.late

-- The summary that sums stand for.

abbrev pub time_if : Bool → ℕ → Option ℕ
time_if true time = Some time
time_if false time = None

abbrev pub summed : Sums → Summary
summed s = record {
  records = s.records;
  photons = s.photons;
  markers = s.markers;
  wraps = s.wraps;
  reserved = s.reserved;
  late = s.late;
  first = time_if s.kept s.first;
  last = time_if s.kept s.last;
}
