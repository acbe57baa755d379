-- What ends a stream.
use Rattle.std.proofs.Common.{rules, ◌≡◌, ◌≢◌, ℕ, List, [], ◌++◌, Bool, true, false, None, Some, Ok, Err, length, refl, sym, ⊎_elim, arith, ◌==◌, if◌then◌else◌}
use Rattle.{std.{proofs.lemmas.Bool.eqb-true, specs.declared.option.Option.Option}, ptu_definitions.specs.{declared.records.Summary.Summary, Words.words_of}}
use Rattle.ptu_definitions.specs.{Words.rest_of, Streams.{StreamSettings, refusals, record_refusal, streamed, given, events_in, last_in}, Headers.Shows}
use Rattle.ptu_definitions.{specs.{Kept.floor_of, Times.events}, proofs.{DeliveredLaws.{delivered-0, delivered-none}, StreamLemmas.given-clear}}
use Rattle.{ptu_definitions.proofs.StreamLemmas.floor_of-marked, tally_base.specs.declared.fault.Fault.{Fault, TheVariants.{TruncatedRecord, WriteFault}}}
use Rattle.abs_time.specs.{declared.clock.Clock.Clock, Placing.{mode_of as clock_mode, greatest_by, HasPlaced}}
use Rattle.record_stream.specs.{declared.taker.EventTaker.Ghosts, Feeding.{IsAt, GaveOn, BrokeOn, Fed}, Keeping.{Settles, HasCome}, OneMore.{eventless, so_far}}
use Rattle.{record_stream.{specs.{OneMore.with_marks, Standing.Stands}, proofs.{Summaries.summary-end, Wraps.refused-bytes}}, settle.specs.Standing.last_time}
use Rattle.settle.specs.{Standing.HasSettled, declared.settle.Settle.Settle}

pub unrefused : (how : StreamSettings) (words : List ℕ) → refusals how words ≡ [] → record_refusal how words ≡ None
unrefused how words clear = rw clear refl

-- a stream that has refused nothing
pub streamed-clear : (how : StreamSettings) (clock : Clock) (sum : Summary) (count : ℕ) (settle : Settle) (carried : List ℕ) (refused : Option Fault) (bytes : List ℕ) → Stands how clock sum count settle carried refused bytes → refused ≡ None → record_refusal how (words_of bytes) ≡ None
streamed-clear how clock sum count settle carried refused bytes h none = search (rules, arith, unrefused)

pub streamed-refused : (how : StreamSettings) (bytes : List ℕ) (fault : Fault) → record_refusal how (words_of bytes) ≡ Some fault → Err fault ≡ streamed how bytes
unfolding streamed
streamed-refused how bytes fault h = rw h refl

pub streamed-whole : (how : StreamSettings) (clock : Clock) (sum sum' : Summary) (count : ℕ) (carried bytes : List ℕ) → length carried ≡ 0
    → carried ≡ rest_of bytes → IsAt how clock sum count (words_of bytes) → sum' ≡ with_marks sum (last_in how (words_of bytes)) → streamed how bytes ≡ Ok sum'
unfolding streamed
streamed-whole how clock sum sum' count carried bytes none is h ends = search (rules, arith, unrefused, summary-end)

pub streamed-cut : (how : StreamSettings) (clock : Clock) (sum : Summary) (count : ℕ) (carried bytes : List ℕ) → (length carried ≡ 0 → ⊥)
    → carried ≡ rest_of bytes → IsAt how clock sum count (words_of bytes) → Err (TruncatedRecord (length carried)) ≡ streamed how bytes
unfolding streamed
streamed-cut how clock sum count carried bytes some is h = search (rules, arith, unrefused)

-- a refused stream shows its refusal, whatever comes after
pub streamed-shown : (how : StreamSettings) (bytes : List ℕ) (fault : Fault)
    → record_refusal how (words_of bytes) ≡ Some fault → Shows (streamed how) bytes (Err fault)
streamed-shown how bytes fault h = λ more. sym (streamed-refused how (bytes ++ more) fault (refused-bytes how bytes more fault h))

-- and so does a piece that is refused
pub fed-shown : {T : Type 0} (g : Ghosts T) (X : Type 0) (how : StreamSettings) (old new : T) (words bytes : List ℕ) (fault : Fault)
    → Fed g {X = X} how old new words (words_of bytes) (Err fault) → fault ≢ WriteFault → Shows (streamed how) bytes (Err fault)
fed-shown g X how old new words bytes fault fed inside =
    ⊎_elim
    (λ (r : (record_refusal how (words_of bytes) ≡ Some fault) × GaveOn g how old new words (words_of bytes)). streamed-shown how bytes fault r.0)
    (λ (r : (fault ≡ WriteFault) × BrokeOn g how old new words (words_of bytes)). absurd (inside r.0))
    fed

-- The numbers of a stream that has refused nothing.
pub given-count : (how : StreamSettings) (clock : Clock) (sum : Summary) (count : ℕ) (settle : Settle) (carried : List ℕ) (refused : Option Fault) (bytes : List ℕ) → Stands how clock sum count settle carried refused bytes → refused ≡ None → count ≡ length (given how (words_of bytes))
given-count how clock sum count settle carried refused bytes h none = search (rules, arith, given-clear)

-- where no event is put in its place the greatest time is the clock's, and else that of the last event let go
pub plain-greatest : (how : StreamSettings) (clock : Clock) (sum : Summary) (count : ℕ) (words : List ℕ) → how.policy.settle ≡ 0 → clock_mode clock ≡ how.mode
    → IsAt how clock sum count words → greatest_by clock ≡ floor_of how.mode (events_in how words)
plain-greatest how clock sum count words zero same h = search (rules, arith, delivered-0, floor_of-marked)

pub some-settle : (k : ℕ) → (k == 0) ≡ false → k ≢ 0
some-settle k is = λ zero. let e : (k == 0) ≡ true = rw zero refl in cc

greatest_pick : (b : Bool) (how : StreamSettings) (clock : Clock) (sum : Summary) (count : ℕ) (settle : Settle) (words : List ℕ) → (how.policy.settle == 0) ≡ b
    → clock_mode clock ≡ how.mode → IsAt how clock sum count words → Settles how settle words
    → (if b then greatest_by clock else last_time settle) ≡ floor_of how.mode (events_in how words)
greatest_pick b how clock sum count settle words is same h come = search (rules, arith, plain-greatest, eqb-true, some-settle)

pub given-greatest : (how : StreamSettings) (clock : Clock) (sum : Summary) (count : ℕ) (settle : Settle) (carried : List ℕ) (refused : Option Fault) (bytes : List ℕ) → clock_mode clock ≡ how.mode → Stands how clock sum count settle carried refused bytes → refused ≡ None
    → (if how.policy.settle == 0 then greatest_by clock else last_time settle) ≡ floor_of how.mode (given how (words_of bytes))
given-greatest how clock sum count settle carried refused bytes same h none = search (rules, arith, greatest_pick, given-clear)

-- A stream of no words.
pub at_none : (how : StreamSettings) (clock : Clock) (sum : Summary) → HasPlaced clock [] → sum ≡ eventless [] → IsAt how clock sum 0 []
unfolding refusals events so_far
at_none how clock sum placed is = record { clear = refl; placed = placed; summary = rw delivered-none is; counted = rw delivered-none refl }

pub come_none : (how : StreamSettings) (settle : Settle) → HasSettled settle [] [] → last_time settle ≡ 0 → HasCome how settle []
unfolding events
come_none how settle settled low = record { settled = rw delivered-none settled; greatest = rw delivered-none low }
