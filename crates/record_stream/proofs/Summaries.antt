-- The summary grows: by a record and its events, by a block, and by what is delivered at the end.
use Rattle.std.proofs.Common.{rules, ◌≡◌, ◌+◌, ◌-◌, ◌<◌, ℕ, List, [], ◌∷◌, ◌++◌, Bool, true, false, Some, None, cond, length, map, refl, sym, ap, ◌∙◌, arith}
use Rattle.std.proofs.{Common.{length-append, add-zero, zero-add, count_by, if◌then◌else◌}, lemmas.List.{map-append, Sums.{sum_by-append, sum_by_push}}}
use Rattle.{std.specs.declared.option.Option.Option, tally_base.{specs.{declared.event.Event.Event, Columns.rows}, proofs.BlockRows.{rows-first, rows-last}}}
use Rattle.ptu_definitions.specs.{declared.records.{KindCounts.KindCounts, Raw.Raw, Summary.Summary}, Kinds.counts_of, Kept.Marked, Prefixes.first}
use Rattle.ptu_definitions.specs.{Prefixes.last_after, Settled.{delivered, delivered_last, kept_by, late_by, not_marked, those_marked}, Streams.StreamSettings}
use Rattle.ptu_definitions.{specs.{Streams.{events_in, last_in, summary, time_of}, Times.events}, proofs.DeliveredLaws.{delivered-kept, delivered-late}}
use Rattle.{ptu_definitions.proofs.{DeliveredLaws.delivered_last-late, StreamLemmas.{events_in-push, fresh}}, record_stream.specs.OneMore.with_raw}
use Rattle.record_stream.specs.{OneMore.{with_event, with_marks, with_block, first_with, last_with, or_time, eventless, so_far, time_if}, Blocks.on_time}

pub with_marks-append : (s : Summary) (a b : Marked) → with_marks s (a ++ b) ≡ with_marks (with_marks s a) b
with_marks-append s [] b = refl
with_marks-append s (x ∷ a) b = with_marks-append (with_event s x.0 x.1) a b

-- as many records whatever the events
event-records : (s : Summary) (e : Event) (late : Bool) → (with_event s e late).records ≡ s.records
event-records s e late = search (rules, arith)

pub marks-records : (s : Summary) (l : Marked) → (with_marks s l).records ≡ s.records
marks-records s [] = refl
marks-records s (x ∷ l) = marks-records (with_event s x.0 x.1) l ∙ event-records s x.0 x.1

pub so_far-records : (how : StreamSettings) (words : List ℕ) → (so_far how words).records ≡ length (map how.meaning words)
unfolding so_far
so_far-records how words = marks-records (eventless (map how.meaning words)) (events_in how words)

-- A record and an event are counted in any order.
event_raw : (s : Summary) (raw : Raw) (e : Event) (late : Bool) → with_raw (with_event s e late) raw ≡ with_event (with_raw s raw) e late
event_raw s raw e late = search (rules, arith)

raw-marks : (s : Summary) (raw : Raw) (l : Marked) → with_raw (with_marks s l) raw ≡ with_marks (with_raw s raw) l
raw-marks s raw [] = refl
raw-marks s raw (x ∷ l) = raw-marks (with_event s x.0 x.1) raw l ∙ ap (λ t. with_marks t l) (event_raw s raw x.0 x.1)

count_by-push : (p : Raw → Bool) (records : List Raw) (raw : Raw) → count_by p (records ++ raw ∷ []) ≡ count_by p records + cond (p raw) 1 0
count_by-push p records raw = sum_by_push (λ (r : Raw). cond (p r) 1 0) records raw

eventless-push : (records : List Raw) (raw : Raw) → eventless (records ++ raw ∷ []) ≡ with_raw (eventless records) raw
eventless-push records raw = search (rules, arith, length-append, count_by-push, add-zero)

-- One word more.
pub so_far-push : (how : StreamSettings) (ws : List ℕ) (w : ℕ)
    → so_far how (ws ++ w ∷ []) ≡ with_marks (with_raw (so_far how ws) (how.meaning w)) (fresh how ws (how.meaning w))
unfolding so_far
so_far-push how ws w = search (rules, arith, events_in-push, map-append, eventless-push, with_marks-append, fresh, raw-marks)

-- A block more.
abbrev with_kinds : Summary → KindCounts → Summary
with_kinds s k = record s { records = s.records + k.records; photons = s.photons + k.photons; markers = s.markers + k.markers; wraps = s.wraps + k.wraps; reserved = s.reserved + k.reserved }

kinds_event : (s : Summary) (k : KindCounts) (e : Event) (late : Bool) → with_event (with_kinds s k) e late ≡ with_kinds (with_event s e late) k
kinds_event s k e late = search (rules, arith)

kinds-marks : (s : Summary) (k : KindCounts) (l : Marked) → with_marks (with_kinds s k) l ≡ with_kinds (with_marks s l) k
kinds-marks s k [] = refl
kinds-marks s k (x ∷ l) = ap (λ t. with_marks t l) (kinds_event s k x.0 x.1) ∙ kinds-marks (with_event s x.0 x.1) k l

count_by-append : {X : Type 0} (p : X → Bool) (xs ys : List X) → count_by p (xs ++ ys) ≡ count_by p xs + count_by p ys
count_by-append p xs ys = sum_by-append (λ x. cond (p x) 1 0) xs ys

eventless-more : (rs qs : List Raw) → eventless (rs ++ qs) ≡ with_kinds (eventless rs) (counts_of qs)
eventless-more rs qs = search (rules, arith, length-append, count_by-append)

first-after : (o : Option ℕ) (time : ℕ) (es : List Event) → first_with (or_time o time) es ≡ or_time o time
first-after o time es = search (rules, arith)

on_time-marks : (s : Summary) (es : List Event) → with_marks s (on_time es) ≡ record s { first = first_with s.first es; last = last_with s.last es }
on_time-marks s [] = refl
on_time-marks s (e ∷ es) = on_time-marks (with_event s e false) es ∙ rw (first-after s.first e.time es) refl

pub so_far-more : (how : StreamSettings) (words more : List ℕ) (es : List Event) → events_in how (words ++ more) ≡ events_in how words ++ on_time es
    → so_far how (words ++ more) ≡ with_block (so_far how words) (counts_of (map how.meaning more)) es
unfolding so_far
so_far-more how words more es is =
    let rs : List Raw = map how.meaning words in
    let qs : List Raw = map how.meaning more in
    rw (is, map-append how.meaning words more, eventless-more rs qs, kinds-marks (eventless rs) (counts_of qs) (events_in how words ++ on_time es))
    (rw (with_marks-append (eventless rs) (events_in how words) (on_time es), on_time-marks (with_marks (eventless rs) (events_in how words)) es) refl)

-- the first and the last of the rows of a block
pub first-rows : (kept : Bool) (time : ℕ) (f : ℕ → Event) (n : ℕ) → 0 < n → Some (if kept then time else (f 0).time) ≡ first_with (time_if kept time) (rows f n)
first-rows true time f n some = rw (rows-first f n some).1 refl
first-rows false time f n some = rw (rows-first f n some).1 refl

pub last_with-push : (o : Option ℕ) (xs : List Event) (e : Event) → last_with o (xs ++ e ∷ []) ≡ Some e.time
last_with-push o [] e = refl
last_with-push o (x ∷ xs) e = last_with-push (Some x.time) xs e

pub last-rows : (o : Option ℕ) (f : ℕ → Event) (n : ℕ) → 0 < n → Some (f (n - 1)).time ≡ last_with o (rows f n)
last-rows o f n some = rw (rows-last f n some) (sym (last_with-push o (rows f (n - 1)) (f (n - 1))))

-- The end.
first_time : Option ℕ → List Event → Option ℕ
first_time None l = time_of (first l)
first_time (Some t) l = Some t

last_time : Option ℕ → List Event → Option ℕ
last_time t [] = t
last_time t (e ∷ es) = last_time (Some e.time) es

last_time-is : (x : Option Event) (l : List Event) → last_time (time_of x) l ≡ time_of (last_after x l)
unfolding last_time
last_time-is x [] = refl
last_time-is x (e ∷ l) = last_time-is (Some e) l

abbrev with_lists : Summary → List Event → List Event → Summary
with_lists s late kept = record s { late = s.late + length late; first = first_time s.first kept; last = last_time s.last kept }

none_more : (f : Option ℕ) → first_time f [] ≡ f
unfolding first_time
none_more f = search (rules, arith)

one_more : (f : Option ℕ) (e : Event) (l : List Event) → first_time (or_time f e.time) l ≡ first_time f (e ∷ l)
unfolding first_time
one_more f e l = search (rules, arith)

with_marks-is : (s : Summary) (l : Marked) → with_marks s l ≡ with_lists s (those_marked l) (not_marked l)
unfolding last_time
with_marks-is s [] = rw (add-zero s.late, none_more s.first) refl
with_marks-is s ((e, true) ∷ l) = search (rules, arith, with_marks-is (with_event s e true) l)
with_marks-is s ((e, false) ∷ l) = with_marks-is (with_event s e false) l ∙ rw (one_more s.first e (not_marked l)) refl

pub summary-end : (how : StreamSettings) (words : List ℕ) → with_marks (so_far how words) (last_in how words) ≡ summary how words
unfolding first_time so_far summary
summary-end how words =
    let k : ℕ = how.policy.settle in
    let es : List Event = events (map how.meaning words) in
    sym (with_marks-append (eventless (map how.meaning words)) (delivered k how.mode es) (delivered_last k how.mode es))
    ∙ with_marks-is (eventless (map how.meaning words)) (delivered k how.mode es ++ delivered_last k how.mode es)
    ∙ rw (delivered-kept k how.mode es, delivered_last-late k how.mode es, delivered-late k how.mode es, zero-add (length (late_by k how.mode es)), last_time-is None (kept_by k how.mode es)) refl
