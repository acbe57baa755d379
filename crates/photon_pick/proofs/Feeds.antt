-- What a piece puts of the photons of a group.
use Rattle.std.{proofs.Common.{◌≡◌, ◌∙◌, ℕ, List, [], ◌++◌, Bool, None, Ok, Err, ap, inl, inr, Result, OnOk}, specs.List.filter}
use Rattle.{tally_base.specs.declared.{event.Event.Event, fault.Fault.Fault}, bench_io.proofs.Texts.PutsText, ptu_definitions.specs.Kept.Marked}
use Rattle.{ptu_definitions.specs.{Settled.not_marked, Streams.{StreamSettings, record_refusal, given}}, record_stream.specs.declared.taker.EventTaker.Ghosts}
use Rattle.{record_stream.specs.Feeding.Fed, record_write.specs.Picker.mode_of, photon_pick.specs.{Giving.{Stand, TookPhotons, Refused}, Texts.photons_in}}
use Rattle.photon_pick.{specs.Texts.{text_in, refusal_in, answer_by, HasPickedIn}, proofs.Parts.{chosen-more, took-puts, took-stands, broke-puts}}

pub photons-more : (chooses : Event → Bool) (how : StreamSettings) (words now : List ℕ) (more : Marked) → given how now ≡ given how words ++ more
    → photons_in chooses how now ≡ photons_in chooses how words ++ filter chooses (not_marked more)
photons-more chooses how words now more adds = ap (λ l. filter chooses (not_marked l)) adds ∙ chosen-more chooses (given how words) more

module _ {T : Type 0} (g : Ghosts T) (a b : T) (at : T → Stand) (chooses : Event → Bool) (how : StreamSettings) (same_choice : (at a).chooses ≡ chooses) (same_mode : mode_of (at a).pen.picker ≡ how.mode) (empty : (at a).pen.held ≡ [])
    (none : g.got a a []) (gets : (l : Marked) → g.got a b l → TookPhotons (at a) (at b) l) (breaks : (l : Marked) → g.broke a b l
    → Refused (at a) (at b) l) (words now : List ℕ) (has : HasPickedIn chooses how (at a).pen.picker words) (free : (at a).fault ≡ None) where
  abbrev s : Stand
  s = at a

  abbrev t : Stand
  t = at b

  abbrev Puts : Result (Unit {0}) Fault → Type 0
  Puts r = PutsText (text_in chooses how words) (text_in chooses how now) (refusal_in chooses how now) s.pen.sink t.pen.sink t.pen.held (answer_by t.fault r)
      × OnOk (answer_by t.fault r) (HasPickedIn chooses how t.pen.picker now)

  pub feeds-on : (r : Result (Unit {0}) Fault) → Fed g how a b words now r → Puts r
  feeds-on (Ok done) fed =
      let took = gets fed.1.more (fed.1.follows a [] none) in
      let are = photons-more chooses how words now fed.1.more fed.1.adds in
      let stands = took-stands s t chooses how.mode same_choice same_mode empty (photons_in chooses how words) (photons_in chooses how now) has.in_time has.picked fed.1.more took are in
      rw (fed.0, took.same_fault ∙ free) (
        rw (took.same_fault ∙ free) at (took-puts s t chooses how.mode same_choice same_mode empty (photons_in chooses how words) (photons_in chooses how now) has.in_time has.picked fed.1.more (Ok done) took are free),
        record { picked = stands.1; in_time = stands.0 },
      )
  feeds-on (Err fault) (inl fed) =
      let took = gets fed.1.more (fed.1.follows a [] none) in
      let are = photons-more chooses how words now fed.1.more fed.1.adds in
      rw (fed.0, took.same_fault ∙ free) (
        rw (took.same_fault ∙ free) at (took-puts s t chooses how.mode same_choice same_mode empty (photons_in chooses how words) (photons_in chooses how now) has.in_time has.picked {X = Unit {0}} fed.1.more (Err fault) took are free),
        tt,
      )
  feeds-on (Err fault) (inr fed) =
      let broke = breaks fed.1.front (fed.1.broken a [] none) in
      let puts = broke-puts s t chooses how.mode same_choice same_mode empty (photons_in chooses how words) (photons_in chooses how now) has.in_time has.picked {X = Unit {0}} fed.1.front fed.1.back (Err fault) (record_refusal how now) broke
      (photons-more chooses how words now (fed.1.front ++ fed.1.back) fed.1.adds) in
      rw broke.told (rw broke.told at puts, tt)
