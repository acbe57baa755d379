-- What the words of a piece give to the tables.
use Rattle.std.proofs.Common.{◌≡◌, ◌≢◌, ℕ, false, List, [], ◌++◌, None, Some, Ok, Err, IfErr, OnOk, refl, sym, ap, subst, ◌∙◌, ⊎_elim, arith, rules, suc, ◌<◌}
use Rattle.std.{proofs.Common.{◌∷◌, length, get_or, map, true, ◌≤◌, ◌+◌, ◌*◌, sum_by}, specs.declared.{option.Option.Option, result.Result.Result}}
use Rattle.tally_base.specs.{declared.fault.Fault.{Fault, TheVariants.WriteFault}, Faults.{fault_in, is_outside}, Settings.entries}
use Rattle.ptu_definitions.specs.{declared.records.Summary.Summary, Kept.Marked, Streams.{StreamSettings, record_refusal, given, last_in}, Words.words_of}
use Rattle.ptu_definitions.{specs.Settled.not_marked, proofs.{StreamLemmas.given-clear, DeliveredLaws.delivered-settled}}
use Rattle.{abs_time.specs.declared.clock.Clock.Clock, record_stream.specs.declared.{taker.EventTaker.Ghosts, stream.RecordStream.RecordStream}}
use Rattle.record_stream.specs.{Feeding.{GaveOn, BrokeOn, Fed}, Ending.GaveRest, Standing.{Stands, HasStreamed, how_of, given_in, refused_with}}
use Rattle.{record_stream.proofs.Summaries.so_far-records, settle.specs.declared.settle.Settle.Settle, gate_plan.specs.Shifting.Sorting}
use Rattle.{gate_plan.{specs.Histories.{with_groups, settled_history}, proofs.Histories.with_groups-append}, tally_engine.specs.Parts.{settings_in, entries_in}}
use Rattle.tally_engine.{specs.{declared.{part.Part.Part, engine.Engine.Engine}, Engine.{held, bound}}, proofs.Tables.tables_within}

-- a taker that never breaks was given all that the words call for
pub fed_whole : {T : Type 0} (g : Ghosts T) {X : Type 0} (how : StreamSettings) (old new : T) (words now : List ℕ) (r : Result X Fault)
    → g.got old old [] → ((l : Marked) → g.broke old new l → ⊥) → Fed g how old new words now r
    → (fault_in r ≡ record_refusal how now) × ((more : Marked) × (given how now ≡ given how words ++ more) × g.got old new more)
fed_whole g how old new words now (Ok x) none unbroken fed = (sym fed.0, (fed.1.more, fed.1.adds, fed.1.follows old [] none))
fed_whole g how old new words now (Err fault) none unbroken fed =
    ⊎_elim
    (λ (r : (record_refusal how now ≡ Some fault) × GaveOn g how old new words now). (sym r.0, (r.1.more, r.1.adds, r.1.follows old [] none)))
    (λ (r : (fault ≡ WriteFault) × BrokeOn g how old new words now). absurd (unbroken r.1.front (r.1.broken old [] none)))
    fed

-- a taker that was given what was kept back
pub rest_got : {T : Type 0} (g : Ghosts T) (how : StreamSettings) (old new : T) (bytes : List ℕ) (summary : Summary)
    → g.got old old [] → GaveRest g how old new bytes summary → g.got old new (last_in how (words_of bytes))
rest_got g how old new bytes summary none rest = rest.follows old [] none

-- what is settled is what was given and isn't marked late
settled-given : (by : Sorting) (stream : RecordStream) (bytes : List ℕ) → HasStreamed stream bytes → refused_with stream ≡ None
    → settled_history by (how_of stream) (words_of bytes) ≡ with_groups by (not_marked (given_in stream bytes))
unfolding settled_history
settled-given by stream bytes h none = search (rules, arith, given-clear, delivered-settled)

-- The events of a piece come after those that were given.
pub settled-fed : (by : Sorting) (old new : RecordStream) (bytes piece : List ℕ) (more : Marked) → HasStreamed old bytes → refused_with old ≡ None
    → HasStreamed new (bytes ++ piece) → refused_with new ≡ None → how_of new ≡ how_of old
    → given (how_of old) (words_of (bytes ++ piece)) ≡ given (how_of old) (words_of bytes) ++ more
    → settled_history by (how_of new) (words_of (bytes ++ piece)) ≡ settled_history by (how_of old) (words_of bytes) ++ with_groups by (not_marked more)
settled-fed by old new bytes piece more h going fed none same adds =
    let is : given_in new (bytes ++ piece) ≡ given_in old bytes ++ more = rw same adds in
    rw (settled-given by new (bytes ++ piece) fed none, settled-given by old bytes h going, is) (with_groups-append by (given_in old bytes) more)

pub at_same : {A : Type 0} (x y : A) (P : A → Type 0) → P x → x ≡ y → P y
at_same x y P h is = subst P is h

-- An engine of no bytes.

pub none_taken : (how : StreamSettings) (clock : Clock) (sum : Summary) (count : ℕ) (settle : Settle) (carried : List ℕ) (refused : Option Fault)
    → Stands how clock sum count settle carried refused [] → refused ≡ None → 4 * sum.records + length carried ≡ 0
none_taken how clock sum count settle carried refused stands none = search (rules, arith, so_far-records)

-- What an engine of these tables keeps, with the carried bytes and the events kept back, is within its bound.
pub kept_within : (parts : List Part) (carried waiting settle : ℕ) → carried ≤ 48 → waiting ≤ settle
    → entries_in parts + carried + waiting ≤ 48 + settle + sum_by entries (settings_in parts)
kept_within parts carried waiting settle few back = omega (arith, tables_within parts, few, back)

-- An engine keeps no more entries than its bound.
pub engine_within : (engine : Engine) → held engine ≤ bound engine
engine_within engine = kept_within engine.parts.items _ _ _ (search (rules, arith)) (search (rules, arith))

-- Lists of one image.

-- lists that agree under f at each place have one image
pub same_map : {X Y : Type 0} (f : X → Y) (xs ys : List X) → length ys ≡ length xs
    → ((k : ℕ) (d : X) → k < length xs → f (get_or ys k d) ≡ f (get_or xs k d)) → map f ys ≡ map f xs
same_map f [] [] same agree = refl
same_map f [] (y ∷ ys) same agree = absurd (omega arith)
same_map f (x ∷ xs) [] same agree = absurd (omega arith)
same_map f (x ∷ xs) (y ∷ ys) same agree = rw (agree 0 x (omega arith), same_map f xs ys (omega arith) (λ k d within. agree (suc k) d (omega arith))) refl

pub no_write : (fault : Fault) → is_outside fault ≡ false → fault ≢ WriteFault
no_write fault inside = λ is. let e : true ≡ false = sym (ap is_outside is) ∙ inside in cc

pub not_written : (refused : Option Fault) → refused ≡ None → refused ≢ Some WriteFault
not_written refused none = search (rules, arith)

pub of_faults : {X : Type 0} {P Q : Fault → Type 0} (r : Result X Fault) (refused : Option Fault)
    → refused ≡ fault_in r → ((fault : Fault) → refused ≡ Some fault → P fault → Q fault) → IfErr r P → IfErr r Q
of_faults r refused is follows p = search (rules, arith)

-- what holds after a piece that was taken
pub where_taken : {X A : Type 0} (r : Result X Fault) (refused : Option Fault) → refused ≡ fault_in r → OnOk r A → refused ≡ None → A
where_taken r refused is a none = search (rules, arith)
