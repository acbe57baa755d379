-- Streams that grow.
use Rattle.std.proofs.Common.{◌≡◌, ℕ, List, [], ◌∷◌, ◌++◌, Bool, cond, None, Some, map, max, refl, sym, ap, ◌∙◌, append_assoc, append-nil, arith, nat_lt, not}
use Rattle.std.{proofs.{Common.{◌&&◌, ◌||◌, rules}, lemmas.{Grind.common_steps, List.map-append, Bool.Decides.nat_tests}}, specs.declared.option.Option.Option}
use Rattle.{std.specs.List.list_any, tally_base.specs.{declared.{event.Event.Event, header.Mode.Mode, fault.Fault.Fault}, Events.is_ordered}}
use Rattle.ptu_definitions.specs.{declared.records.Raw.Raw, Prefixes.{each_after, listed, first}, Times.{event_after, events}, Kept.{floor_of, mark, marked}}
use Rattle.ptu_definitions.specs.{Kept.{is_late, greatest, ordered_time, Marked}, Streams.{StreamSettings, refusal, refusals, record_refusal, unless_refused}}
use Rattle.ptu_definitions.{specs.Streams.{unrefused_after, events_in, given}, proofs.PrefixLemmas.{each-push, each_after-append, first-append}}
use Rattle.ptu_definitions.proofs.DeliveredLaws.{delivered_after, delivered-append}

pub events-push : (records : List Raw) (raw : Raw) → events (records ++ raw ∷ []) ≡ events records ++ event_after records raw
unfolding events
events-push records raw = each-push event_after records raw

-- some ordered event has a greater time where the greatest has
later-max : (b r : Bool) (t x m : ℕ) → r ≡ nat_lt t m → ((b && nat_lt t x) || r) ≡ nat_lt t (max (cond b x 0) m)
later-max b r t x m h = grind (arith, common_steps, nat_tests)

pub later : (mode : Mode) (es : List Event) (t : ℕ) → list_any (λ (x : Event). is_ordered mode x && nat_lt t x.time) es ≡ nat_lt t (greatest mode es)
later mode [] t = grind (arith, nat_tests)
later mode (e ∷ es) t = later-max (is_ordered mode e) _ t e.time (greatest mode es) (later mode es t)

pub greatest-push : (mode : Mode) (es : List Event) (e : Event) → greatest mode (es ++ e ∷ []) ≡ max (greatest mode es) (ordered_time mode e)
greatest-push mode [] e = omega arith
greatest-push mode (x ∷ es) e = rw (greatest-push mode es e) (omega arith)

-- what words after others add to what is delivered
pub events_in-append : (how : StreamSettings) (ws more : List ℕ) → events_in how (ws ++ more) ≡ events_in how ws ++ delivered_after how.policy.settle how.mode (events (map how.meaning ws)) (each_after event_after (map how.meaning ws) (map how.meaning more))
unfolding events
events_in-append how ws more = rw (map-append, each_after-append) (delivered-append how.policy.settle how.mode _ _)

-- what the word after these adds
abbrev pub fresh : StreamSettings → List ℕ → Raw → Marked
fresh how ws raw = delivered_after how.policy.settle how.mode (events (map how.meaning ws)) (event_after (map how.meaning ws) raw)

pub events_in-push : (how : StreamSettings) (ws : List ℕ) (w : ℕ) → events_in how (ws ++ w ∷ []) ≡ events_in how ws ++ fresh how ws (how.meaning w)
events_in-push how ws w = events_in-append how ws (w ∷ []) ∙ rw append-nil refl

-- Refusals.
pub refusals-push : (how : StreamSettings) (ws : List ℕ) (w : ℕ) → refusals how (ws ++ w ∷ []) ≡ refusals how ws ++ listed (refusal how ws w)
unfolding refusals
refusals-push how ws w = each-push _ ws w

pub clear-push : (how : StreamSettings) (ws : List ℕ) (w : ℕ) → refusals how ws ≡ [] → refusal how ws w ≡ None → refusals how (ws ++ w ∷ []) ≡ []
clear-push how ws w clear none = refusals-push how ws w ∙ rw (clear, none) refl

pub refused-push : (how : StreamSettings) (ws : List ℕ) (w : ℕ) (fault : Fault) → refusals how ws ≡ []
    → refusal how ws w ≡ Some fault → record_refusal how (ws ++ w ∷ []) ≡ Some fault
refused-push how ws w fault clear some = ap first (refusals-push how ws w) ∙ rw (clear, some) refl

pub refused-more : (how : StreamSettings) (ws more : List ℕ) (fault : Fault) → record_refusal how ws ≡ Some fault → record_refusal how (ws ++ more) ≡ Some fault
unfolding refusals
refused-more how ws more fault h = rw each_after-append (first-append _ _ fault h)

pub listed-none : (o : Option Fault) (more : List Fault) → listed o ++ more ≡ [] → o ≡ None
listed-none o more h = search (rules, arith)

pub listed-rest : (o : Option Fault) (more : List Fault) → listed o ++ more ≡ [] → more ≡ []
listed-rest o more h = search (rules, arith)

abbrev pub refusals_after : StreamSettings → List ℕ → List ℕ → List Fault
refusals_after how before ws = each_after (λ before word. listed (refusal how before word)) before ws

unrefused-clear : (how : StreamSettings) (before ws more : List ℕ) → refusals_after how before ws ≡ []
    → unrefused_after how before (ws ++ more) ≡ ws ++ unrefused_after how (before ++ ws) more
unrefused-clear how before [] more clear = rw (append-nil before) refl
unrefused-clear how before (w ∷ ws) more clear =
    let here : refusal how before w ≡ None = listed-none (refusal how before w) _ clear in
    let rest : refusals_after how (before ++ w ∷ []) ws ≡ [] = listed-rest (refusal how before w) _ clear in
    rw here (ap (λ l. w ∷ l) (unrefused-clear how (before ++ w ∷ []) ws more rest ∙ rw (append_assoc before (w ∷ []) ws) refl))

pub unrefused-all : (how : StreamSettings) (ws : List ℕ) → refusals how ws ≡ [] → unrefused_after how [] ws ≡ ws
unfolding refusals
unrefused-all how ws clear = ap (unrefused_after how []) (sym (append-nil ws)) ∙ unrefused-clear how [] ws [] clear ∙ append-nil ws

pub unrefused-upto : (how : StreamSettings) (ws : List ℕ) (w : ℕ) (more : List ℕ) (fault : Fault)
    → refusals how ws ≡ [] → refusal how ws w ≡ Some fault → unrefused_after how [] (ws ++ w ∷ more) ≡ ws
unfolding refusals
unrefused-upto how ws w more fault clear some = unrefused-clear how [] ws (w ∷ more) clear ∙ rw some (append-nil ws)

pub given-clear : (how : StreamSettings) (ws : List ℕ) → refusals how ws ≡ [] → given how ws ≡ events_in how ws
unfolding given
given-clear how ws clear = ap (events_in how) (unrefused-all how ws clear)

pub given-refused : (how : StreamSettings) (ws : List ℕ) (w : ℕ) (fault : Fault) → refusals how ws ≡ []
    → refusal how ws w ≡ Some fault → given how (ws ++ w ∷ []) ≡ events_in how ws
unfolding given
given-refused how ws w fault clear some = ap (events_in how) (unrefused-upto how ws w [] fault clear some)

-- the words before the first refusal stay, whatever comes after
unless-front : (w : ℕ) (o : Option Fault) (a b tail : List ℕ) → a ≡ b ++ tail → (more : List ℕ) × (unless_refused w a o ≡ unless_refused w b o ++ more)
unless-front w None a b tail e = (tail, ap (λ l. w ∷ l) e)
unless-front w (Some fault) a b tail e = ([], refl)

unrefused-front : (how : StreamSettings) (before ws more : List ℕ)
    → (tail : List ℕ) × (unrefused_after how before (ws ++ more) ≡ unrefused_after how before ws ++ tail)
unrefused-front how before [] more = (unrefused_after how before more, refl)
unrefused-front how before (w ∷ ws) more =
    let r = unrefused-front how (before ++ w ∷ []) ws more in
    unless-front w (refusal how before w) _ _ r.0 r.1

-- what is given stays, whatever comes after
pub given-front : (how : StreamSettings) (ws more : List ℕ) → (tail : Marked) × (given how (ws ++ more) ≡ given how ws ++ tail)
unfolding given
given-front how ws more =
    let r = unrefused-front how [] ws more in
    (_, ap (events_in how) r.1 ∙ events_in-append how (unrefused_after how [] ws) r.0)

unless-stays : (w : ℕ) (o : Option Fault) (rest : List Fault) (fault : Fault) (a b : List ℕ)
    → first (listed o ++ rest) ≡ Some fault → (first rest ≡ Some fault → a ≡ b) → unless_refused w a o ≡ unless_refused w b o
unless-stays w o rest fault a b h e = search (rules, arith)

unrefused-stays : (how : StreamSettings) (before ws more : List ℕ) (fault : Fault) → first (refusals_after how before ws) ≡ Some fault
    → unrefused_after how before (ws ++ more) ≡ unrefused_after how before ws
unrefused-stays how before [] more fault h = cc
unrefused-stays how before (w ∷ ws) more fault h =
    unless-stays w (refusal how before w) _ fault _ _ h (λ rest. unrefused-stays how (before ++ w ∷ []) ws more fault rest)

pub given-stays : (how : StreamSettings) (ws more : List ℕ) (fault : Fault) → record_refusal how ws ≡ Some fault → given how (ws ++ more) ≡ given how ws
unfolding given refusals
given-stays how ws more fault h = ap (events_in how) (unrefused-stays how [] ws more fault h)

-- The greatest time of the events that aren't late is that of all events.
max-mark : (b l : Bool) (t top rest : ℕ) → l ≡ (b && nat_lt t top) → max top (max (cond (b && not l) t 0) rest) ≡ max (max top (cond b t 0)) rest
max-mark b l t top rest h = grind (arith, common_steps, nat_tests)

floor_of-after : (mode : Mode) (before es : List Event)
    → max (greatest mode before) (floor_of mode (each_after (mark mode) before es)) ≡ greatest mode (before ++ es)
floor_of-after mode before [] = rw append-nil (omega arith)
floor_of-after mode before (e ∷ es) =
    let rest = floor_of mode (each_after (mark mode) (before ++ e ∷ []) es) in
    max-mark (is_ordered mode e) (is_late mode before e) e.time (greatest mode before) rest (rw (later mode before e.time) refl)
    ∙ ap (λ top. max top rest) (sym (greatest-push mode before e))
    ∙ floor_of-after mode (before ++ e ∷ []) es
    ∙ ap (greatest mode) (append_assoc before (e ∷ []) es)

pub floor_of-marked : (mode : Mode) (es : List Event) → floor_of mode (marked mode es) ≡ greatest mode es
unfolding marked
floor_of-marked mode es = let e = floor_of-after mode [] es in omega (arith, e)
