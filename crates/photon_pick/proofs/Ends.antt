-- What the end of a stream puts of the photons of a group.
use Rattle.std.proofs.Common.{◌≡◌, ◌∙◌, ℕ, List, [], ◌++◌, Bool, None, Ok, Err, map, refl, sym, ap, subst, inl, inr, append-nil, Result, arith, rules}
use Rattle.{std.specs.List.filter, tally_base.specs.{declared.{event.Event.Event, fault.Fault.Fault}, Faults.fault_in}, bench_io.proofs.Texts.PutsText}
use Rattle.ptu_definitions.specs.{declared.records.Summary.Summary, Kept.Marked, Prefixes.first, Settled.{not_marked, delivered, delivered_last}}
use Rattle.ptu_definitions.specs.{Streams.{StreamSettings, record_refusal, last_in, streamed, summary, given}, Times.events, Words.{words_of, rest_of}}
use Rattle.{ptu_definitions.proofs.{DeliveredLaws.{delivered-kept, delivered-none}, Firsts.given-all}, record_stream.specs.declared.taker.EventTaker.Ghosts}
use Rattle.{record_stream.specs.Ending.Ended, record_write.specs.Picker.mode_of, photon_pick.specs.{Giving.{Stand, TookPhotons, Refused}, Late.too_late}}
use Rattle.photon_pick.{specs.{Texts.{photons_in, text_in, late_or, answer_by, HasPickedIn}, Ends.{photons_kept, photons_by}}, proofs.Parts.chosen-more}
use Rattle.photon_pick.proofs.Parts.{bytes_of, took-puts, broke-puts}

-- the kept list has what was given, and what is given at the end
pub kept-are : (chooses : Event → Bool) (how : StreamSettings) (words : List ℕ) → record_refusal how words ≡ None
    → photons_kept chooses how words ≡ photons_in chooses how words ++ filter chooses (not_marked (last_in how words))
kept-are chooses how words clear =
    let k = how.policy.settle in
    let es = events (map how.meaning words) in
    ap (filter chooses) (sym (delivered-kept k how.mode es)) ∙ chosen-more chooses (delivered k how.mode es) (delivered_last k how.mode es)
    ∙ ap (λ l. filter chooses (not_marked l) ++ filter chooses (not_marked (last_in how words))) (sym (given-all how words clear))

streamed-whole : (how : StreamSettings) (bytes : List ℕ) → record_refusal how (words_of bytes) ≡ None
    → rest_of bytes ≡ [] → streamed how bytes ≡ Ok (summary how (words_of bytes))
unfolding streamed
streamed-whole how bytes clear whole = rw (clear, whole) refl

module _ {T : Type 0} (g : Ghosts T) (a b : T) (at : T → Stand) (chooses : Event → Bool) (how : StreamSettings) (same_choice : (at a).chooses ≡ chooses) (same_mode : mode_of (at a).pen.picker ≡ how.mode) (empty : (at a).pen.held ≡ [])
    (none : g.got a a []) (gets : (l : Marked) → g.got a b l → TookPhotons (at a) (at b) l) (breaks : (l : Marked) → g.broke a b l → Refused (at a) (at b) l) (bytes : List ℕ) (clear : record_refusal how (words_of bytes) ≡ None) (has : HasPickedIn chooses how (at a).pen.picker (words_of bytes)) (free : (at a).fault ≡ None) where
  abbrev s : Stand
  s = at a

  abbrev t : Stand
  t = at b

  abbrev before : List Event
  before = photons_in chooses how (words_of bytes)

  -- what the end of these photons put, by the answer of the records
  abbrev Puts : Result Summary Fault → Result Summary Fault → Type 0
  Puts end r = PutsText (text_in chooses how (words_of bytes)) (bytes_of how.mode (photons_by chooses how (words_of bytes) end))
      (late_or (first (too_late how.mode (photons_by chooses how (words_of bytes) end))) (fault_in end)) s.pen.sink t.pen.sink t.pen.held (answer_by t.fault r)

  pub ends-on : (r : Result Summary Fault) → Ended g how a b bytes r → Puts (streamed how bytes) r
  ends-on (Ok sum) h =
      rw h.streams (took-puts s t chooses how.mode same_choice same_mode empty before (photons_kept chooses how (words_of bytes)) has.in_time has.picked (last_in how (words_of bytes)) (Ok sum)
      (gets (last_in how (words_of bytes)) (h.follows a [] none)) (kept-are chooses how (words_of bytes) clear) free)
  ends-on (Err fault) (inl h) =
      rw h.0 (took-puts s t chooses how.mode same_choice same_mode empty before before has.in_time has.picked {X = Summary} [] (Err fault)
      (gets [] (subst (λ x. g.got a x []) (sym h.1) none)) (sym (append-nil before)) free)
  ends-on (Err fault) (inr h) =
      rw (streamed-whole how bytes clear h.2)
      (broke-puts s t chooses how.mode same_choice same_mode empty before (photons_kept chooses how (words_of bytes)) has.in_time has.picked {X = Summary} h.1.front h.1.back (Err fault) None
      (breaks h.1.front (h.1.broken a [] none)) (kept-are chooses how (words_of bytes) clear ∙ ap (λ l. before ++ filter chooses (not_marked l)) h.1.adds))

-- What a stream of bytes answers.

-- no words give nothing
pub given-none : (how : StreamSettings) → given how [] ≡ []
unfolding given events
given-none how = delivered-none how.policy.settle how.mode

-- bytes with a summary have no record that is refused
pub clear-from_ok : (how : StreamSettings) (bytes : List ℕ) (sum : Summary) → streamed how bytes ≡ Ok sum → record_refusal how (words_of bytes) ≡ None
unfolding streamed
clear-from_ok how bytes sum is = search (rules, arith)
