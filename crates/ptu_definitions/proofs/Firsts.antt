-- The record refusal is that of the least record that is refused.
use Rattle.std.proofs.Common.{◌≡◌, ◌<◌, ℕ, zero, suc, List, [], ◌∷◌, ◌++◌, None, Some, Ok, Err, ◌==◌, length, take, get_or, refl, sym, ap, ◌∙◌, append_assoc}
use Rattle.std.{proofs.Common.{append-nil, arith, ◌↔◌, Bool, true, false, if◌then◌else◌, rules}, specs.declared.option.Option.Option}
use Rattle.tally_base.specs.declared.{event.Event.Event, header.Mode.Mode, fault.Fault.TheVariants.{RecordLimit, ReservedRecord, TimeLimit, TruncatedRecord}}
use Rattle.{tally_base.specs.{declared.fault.Fault.Fault, Faults.{is_outside, fault_in}}, ptu_definitions.specs.Prefixes.{listed, first}}
use Rattle.ptu_definitions.specs.Streams.{StreamSettings, late_refusal, refusal, refusals, record_refusal, unrefused_after, events_in, given, streamed}
use Rattle.ptu_definitions.{specs.{Streams.{or_refusal, summary, IsFirst}, Words.{words_of, rest_of}}, proofs.StreamLemmas.{listed-none, listed-rest}}
use Rattle.ptu_definitions.proofs.StreamLemmas.{refused-push, refused-more, unrefused-all, unrefused-upto, refusals_after}

first_here : (how : StreamSettings) (fault : Fault) (before : List ℕ) (w : ℕ) (ws : List ℕ) (o : Option Fault)
    → refusal how before w ≡ o → first (listed o ++ refusals_after how (before ++ w ∷ []) ws) ≡ Some fault
    → (first (refusals_after how (before ++ w ∷ []) ws) ≡ Some fault → IsFirst how fault (before ++ w ∷ []) ws) → IsFirst how fault before (w ∷ ws)
first_here how fault before w ws (Some other) is h rest =
    record { front = []; word = w; more = ws; parts = refl; refused = rw (append-nil before) (is ∙ h); unrefused = λ k d none. absurd (omega arith) }
first_here how fault before w ws None is h rest = search (rules, arith, append_assoc)

first_after : (how : StreamSettings) (fault : Fault) (before words : List ℕ) → first (refusals_after how before words) ≡ Some fault → IsFirst how fault before words
first_after how fault before [] h = cc
first_after how fault before (w ∷ ws) h =
    first_here how fault before w ws (refusal how before w) refl h (λ rest. first_after how fault (before ++ w ∷ []) ws rest)

pub first-refusal : (how : StreamSettings) (words : List ℕ) (fault : Fault) → record_refusal how words ≡ Some fault → IsFirst how fault [] words
unfolding refusals
first-refusal how words fault h = first_after how fault [] words h

-- Words have no refusal exactly where none of them is refused.
abbrev NoneRefused : StreamSettings → List ℕ → List ℕ → Type 0
NoneRefused how before ws = (k d : ℕ) → k < length ws → refusal how (before ++ take k ws) (get_or ws k d) ≡ None

clear_after : (how : StreamSettings) (before ws : List ℕ) → NoneRefused how before ws → refusals_after how before ws ≡ []
clear_after how before [] none = refl
clear_after how before (w ∷ ws) none =
    let here : refusal how before w ≡ None = rw (append-nil before) at (none 0 0 (omega arith)) in
    let rest = clear_after how (before ++ w ∷ []) ws (λ k d within. rw (append_assoc before (w ∷ []) (take k ws)) (none (suc k) d (omega arith))) in
    rw (here, rest) refl

none_after : (how : StreamSettings) (before ws : List ℕ) → refusals_after how before ws ≡ [] → NoneRefused how before ws
none_after how before [] clear k d within = absurd (omega arith)
none_after how before (w ∷ ws) clear zero d within = rw (append-nil before) (listed-none (refusal how before w) _ clear)
none_after how before (w ∷ ws) clear (suc k) d within =
    let h = none_after how (before ++ w ∷ []) ws (listed-rest (refusal how before w) _ clear) k d (omega arith) in
    rw (append_assoc before (w ∷ []) (take k ws)) at h

first-none : (faults : List Fault) → first faults ≡ None → faults ≡ []
first-none faults h = search (rules, arith)

clear : (how : StreamSettings) (ws : List ℕ) → NoneRefused how [] ws → refusals how ws ≡ []
unfolding refusals
clear how ws none = clear_after how [] ws none

none-where-clear : (how : StreamSettings) (ws : List ℕ) → refusals how ws ≡ [] → NoneRefused how [] ws
unfolding refusals
none-where-clear how ws h = none_after how [] ws h

pub none-refused : (how : StreamSettings) (words : List ℕ)
    → record_refusal how words ≡ None ↔ ((k d : ℕ) → k < length words → refusal how (take k words) (get_or words k d) ≡ None)
none-refused how words = (λ h. none-where-clear how words (first-none _ h), λ none. ap first (clear how words none))

pub unrefused-none : (how : StreamSettings) (words : List ℕ) → record_refusal how words ≡ None → unrefused_after how [] words ≡ words
unrefused-none how words h = unrefused-all how words (first-none _ h)

pub given-all : (how : StreamSettings) (words : List ℕ) → record_refusal how words ≡ None → given how words ≡ events_in how words
unfolding given
given-all how words h = ap (events_in how) (unrefused-none how words h)

-- The stream up to its first refused word, and the whole stream from there.
upto : (front : List ℕ) (w : ℕ) (more words : List ℕ) → words ≡ front ++ w ∷ more → words ≡ (front ++ w ∷ []) ++ more
upto front w more words parts = parts ∙ sym (append_assoc front (w ∷ []) more)

refused-upto : (how : StreamSettings) (fault : Fault) (words : List ℕ) (least : IsFirst how fault [] words)
    → record_refusal how (least.front ++ least.word ∷ []) ≡ Some fault
refused-upto how fault words least = refused-push how least.front least.word fault (clear how least.front least.unrefused) least.refused

pub refused-first : (how : StreamSettings) (words : List ℕ) (fault : Fault) → IsFirst how fault [] words → record_refusal how words ≡ Some fault
refused-first how words fault least =
    ap (record_refusal how) (upto least.front least.word least.more words least.parts)
    ∙ refused-more how (least.front ++ least.word ∷ []) least.more fault (refused-upto how fault words least)

pub unrefused-before : (how : StreamSettings) (words : List ℕ) (fault : Fault) (least : IsFirst how fault [] words) → unrefused_after how [] words ≡ least.front
unrefused-before how words fault least = search (rules, arith, unrefused-upto, clear)

pub given-before : (how : StreamSettings) (words : List ℕ) (fault : Fault) (least : IsFirst how fault [] words) → given how words ≡ events_in how least.front
unfolding given
given-before how words fault least = ap (events_in how) (unrefused-before how words fault least)

-- Each refusal of a record is one that the bytes call for.
abbrev Inside : Option Fault → Type 0
Inside o = (fault : Fault) → o ≡ Some fault → is_outside fault ≡ false

some-inside : (fault : Fault) → is_outside fault ≡ false → Inside (Some fault)
some-inside fault is = λ other h. let e : fault ≡ other = cc in rw (← e) is

none-inside : Inside None
none-inside = λ fault h. cc

late-inside : (b : Bool) (fault : Fault) → is_outside fault ≡ false → Inside (if b then Some fault else None)
late-inside true fault is = some-inside fault is
late-inside false fault is = none-inside

late_refusal-inside : (k : ℕ) (mode : Mode) (before es : List Event) → Inside (late_refusal k mode before es)
late_refusal-inside k mode before es = search (rules, arith, none-inside, late-inside)

causes-inside : (full reserved passing stops : Bool) (limit place word : ℕ) (late : Option Fault) → Inside late
    → Inside (if full then Some (RecordLimit limit) else if reserved then Some
    (ReservedRecord place word) else if passing then Some (TimeLimit place) else if stops then late else None)
causes-inside full reserved passing stops limit place word late is = search (rules, arith, some-inside, none-inside)

refusal-inside : (how : StreamSettings) (before : List ℕ) (word : ℕ) → Inside (refusal how before word)
unfolding refusal
refusal-inside how before word = search (rules, arith, causes-inside, late_refusal-inside)

pub record_refusal-inside : (how : StreamSettings) (words : List ℕ) (fault : Fault) → record_refusal how words ≡ Some fault → is_outside fault ≡ false
record_refusal-inside how words fault h = let r = first-refusal how words fault h in refusal-inside how r.front r.word fault r.refused

-- each fault of a stream is one that its bytes call for
pub streamed-inside : (how : StreamSettings) (bytes : List ℕ) (fault : Fault) → fault_in (streamed how bytes) ≡ Some fault → is_outside fault ≡ false
unfolding streamed
streamed-inside how bytes fault is = by (record_refusal how (words_of bytes)) refl is
  where
    cut : (b : Bool) → fault_in (if b then Ok (summary how (words_of bytes)) else Err (TruncatedRecord (length (rest_of bytes)))) ≡ Some fault
        → is_outside fault ≡ false
    cut true h = cc
    cut false h = let same : TruncatedRecord (length (rest_of bytes)) ≡ fault = cc in rw (← same) refl

    by : (o : Option Fault) → record_refusal how (words_of bytes) ≡ o → fault_in (or_refusal o (if length (rest_of bytes) == 0 then Ok (summary how (words_of bytes)) else Err (TruncatedRecord (length (rest_of bytes))))) ≡ Some fault → is_outside fault ≡ false
    by (Some own) e h =
        let same : own ≡ fault = cc in
        let inside = record_refusal-inside how (words_of bytes) own e in
        rw same at inside
    by None e h = cut (length (rest_of bytes) == 0) h
