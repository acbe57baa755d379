-- What was put of photons after others, and what is left of them.
use Rattle.std.proofs.Common.{◌≡◌, ◌∙◌, ℕ, List, [], ◌∷◌, ◌++◌, Bool, true, false, None, Some, Ok, cond, refl, sym, ap, subst, append_assoc, append-nil, arith}
use Rattle.std.{proofs.{Common.{rules, inl, inr, ⊎_elim, Err, Result}, lemmas.List.Elements.filter-append}, specs.{List.filter, declared.option.Option.Option}}
use Rattle.tally_base.specs.{declared.{event.Event.Event, header.Mode.Mode, fault.Fault.Fault}, Faults.fault_in, Events.is_photon}
use Rattle.{bench_io.{specs.{Sinks.{WroteShort, PassesOn}, Texts.PutText}, proofs.{Texts.PutsText, Bytes.WroteShort-more}}, ptu_definitions.specs.Kept.Marked}
use Rattle.ptu_definitions.{specs.{Prefixes.{each_after, first}, Settled.not_marked}, proofs.{DeliveredLaws.not_marked-append, PrefixLemmas.each_after-append}}
use Rattle.{minimal_file.{specs.ShortFiles.bytes_in, proofs.ShortHeaders.bytes_in-append}, record_write.specs.Picked.{is_too_late, photon_words, picked_words}}
use Rattle.{record_write.specs.{Picker.{mode_of, HasPicked}, Writing.{PutsWords, CutsWords}}, gate_plan.specs.Shifting.Sorting}
use Rattle.photon_pick.specs.{Chosen.is_chosen, Late.{too_late, writable}, Giving.{Pen, words_behind, Gave, Stopped, TooLate, WriteFailed, Stand, TookPhotons}}
use Rattle.photon_pick.{specs.{Giving.Refused, Texts.{late_or, answer_by}}, proofs.Gives.too_late-both}

-- ## Photons that are too late

pick-clear : (b : Bool) (e : Event) (late : List Event) (ps : List Event) → cond b (e ∷ late) late ≡ [] → (b ≡ false) × (late ≡ [])
pick-clear true e late ps none = cc
pick-clear false e late ps none = (refl, none)

writable-clear : (mode : Mode) (ps qs : List Event) → too_late mode ps ≡ [] → writable mode (ps ++ qs) ≡ ps ++ writable mode qs
writable-clear mode [] qs none = refl
writable-clear mode (p ∷ ps) qs none =
    let parts = pick-clear (is_too_late mode p.time) p (too_late mode ps) ps none in
    rw (parts.0, writable-clear mode ps qs parts.1) refl

pub writable-all : (mode : Mode) (ps : List Event) → too_late mode ps ≡ [] → writable mode ps ≡ ps
writable-all mode ps none = ap (writable mode) (sym (append-nil ps)) ∙ writable-clear mode ps [] none ∙ append-nil ps

pub first-late : (mode : Mode) (ps back : List Event) (e : Event) → too_late mode ps ≡ []
    → is_too_late mode e.time ≡ true → first (too_late mode (ps ++ e ∷ back)) ≡ Some e
first-late mode ps back e p late = ap first (filter-append (λ x. is_too_late mode x.time) ps (e ∷ back)) ∙ rw (p, late) refl

pub writable-late : (mode : Mode) (ps back : List Event) (e : Event) → too_late mode ps ≡ [] → is_too_late mode e.time ≡ true → writable mode (ps ++ e ∷ back) ≡ ps
writable-late mode ps back e p late = writable-clear mode ps (e ∷ back) p ∙ rw late (append-nil ps)

-- ## Texts

-- the words of photons after others
pub words-more : (mode : Mode) (ps qs : List Event)
    → bytes_in (picked_words mode (ps ++ qs)) ≡ bytes_in (picked_words mode ps) ++ bytes_in (each_after (photon_words mode) ps qs)
unfolding picked_words
words-more mode ps qs = search (rules, arith, each_after-append, bytes_in-append)

-- the photons that are chosen of more events
pub chosen-more : (chooses : Event → Bool) (l m : Marked)
    → filter chooses (not_marked (l ++ m)) ≡ filter chooses (not_marked l) ++ filter chooses (not_marked m)
chosen-more chooses l m = ap (filter chooses) (not_marked-append l m) ∙ filter-append chooses (not_marked l) (not_marked m)

-- the bytes of the words of photons, up to the first that is too late
abbrev pub bytes_of : Mode → List Event → List ℕ
bytes_of mode photons = bytes_in (picked_words mode (writable mode photons))

pub chosen-photon : (by : Sorting) (group : ℕ) (e : Event) → is_chosen by group e ≡ true → is_photon e ≡ true
chosen-photon by group e is = search (rules, arith)

-- ## What was put of photons after others, into a block that held nothing

module _ (p q : Pen) (mode : Mode) (same_mode : mode_of p.picker ≡ mode) (empty : p.held ≡ []) (before total : List Event) (clear : too_late mode before ≡ []) (picked : HasPicked p.picker before) where
  abbrev words : List Event → List ℕ
  words qs = bytes_in (each_after (photon_words mode) before qs)

  -- the bytes where these photons come after those before
  bytes-now : (qs : List Event) → writable mode total ≡ before ++ qs → bytes_of mode total ≡ bytes_of mode before ++ words qs
  bytes-now qs is =
      ap (λ ps. bytes_in (picked_words mode ps)) is ∙ words-more mode before qs
      ∙ ap (λ ps. bytes_in (picked_words mode ps) ++ words qs) (sym (writable-all mode before clear))

  clear-after : (qs : List Event) → too_late (mode_of p.picker) qs ≡ [] → too_late mode (before ++ qs) ≡ []
  clear-after qs none = too_late-both mode before qs clear (subst (λ m. too_late m qs ≡ []) same_mode none)

  put-in : (qs : List Event) → PutsWords p.sink q.sink p.held q.held (words_behind p before qs) → PassesOn p.sink q.sink (words qs) q.held
  put-in qs put = rw (same_mode, empty) at put

  cut-in : (qs : List Event) → CutsWords p.sink q.sink p.held q.held (words_behind p before qs) → WroteShort p.sink q.sink (words qs)
  cut-in qs cut = rw (same_mode, empty) at cut.short

  -- All were given.
  module _ (ps : List Event) (gave : Gave p q ps) (are : total ≡ before ++ ps) where
    pub gave-clear : too_late mode total ≡ []
    gave-clear = rw are (clear-after ps gave.in_time)

    pub gave-put : PutText (bytes_of mode before) (bytes_of mode total) p.sink q.sink [] q.held
    gave-put = record { more = words ps; adds = bytes-now ps (writable-all mode total gave-clear ∙ are); put = put-in ps (gave.text before picked) }

    pub gave-picked : HasPicked q.picker total
    gave-picked = rw are (gave.picked before picked)

  -- One was refused: that is told, where no refusal comes before.
  pub stopped-puts : (ps more : List Event) (fault : Fault) (other : Option Fault) → Stopped p q ps fault → total ≡ before ++ (ps ++ more)
      → PutsText {X = Unit {0}} (bytes_of mode before) (bytes_of mode total) (late_or (first (too_late mode total)) other) p.sink q.sink q.held (Err fault)
  stopped-puts ps more fault other stop are =
      ⊎_elim
      (λ (late : TooLate p q f e fault).
      let too : is_too_late mode e.time ≡ true = subst (λ m. is_too_late m e.time ≡ true) same_mode late.late in
      inl (
        rw parts (rw (first-late mode (before ++ f) back e front too) (ap Some (sym late.is))),
        record { more = words f; adds = bytes-now f (ap (writable mode) parts ∙ writable-late mode (before ++ f) back e front too); put = put-in f (late.text before picked) },
      ))
      (λ (cut : WriteFailed p q f e fault).
      let soon : too_late (mode_of p.picker) (f ++ e ∷ []) ≡ [] = too_late-both (mode_of p.picker) f (e ∷ []) stop.in_time (rw cut.soon refl) in
      let written : writable mode total ≡ before ++ ((f ++ e ∷ []) ++ writable mode back) =
      ap (writable mode) (are ∙ ap (λ l. before ++ l) split ∙ sym (append_assoc before (f ++ e ∷ []) back))
      ∙ writable-clear mode (before ++ (f ++ e ∷ [])) back (clear-after (f ++ e ∷ []) soon) ∙ append_assoc before (f ++ e ∷ []) (writable mode back) in
      let gone = cut.text before picked in
      inr (
        cut.is,
        record {
          more = words ((f ++ e ∷ []) ++ writable mode back);
          adds = bytes-now ((f ++ e ∷ []) ++ writable mode back) written;
          cut = subst (WroteShort p.sink q.sink) (sym (words-append (f ++ e ∷ []) (writable mode back))) (WroteShort-more p.sink q.sink (words (f ++ e ∷ [])) _ (cut-in (f ++ e ∷ []) gone));
        },
        gone.empty,
      ))
      stop.why
    where
      f : List Event
      f = stop.front

      e : Event
      e = stop.e

      back : List Event
      back = stop.back ++ more

      split : ps ++ more ≡ (f ++ e ∷ []) ++ back
      split = ap (λ l. l ++ more) stop.are ∙ append_assoc f (e ∷ stop.back) more ∙ sym (append_assoc f (e ∷ []) back)

      parts : total ≡ (before ++ f) ++ e ∷ back
      parts = are ∙ ap (λ l. before ++ l) (split ∙ append_assoc f (e ∷ []) back) ∙ sym (append_assoc before f (e ∷ back))

      front : too_late mode (before ++ f) ≡ []
      front = clear-after f stop.in_time

      words-append : (xs ys : List Event) → words (xs ++ ys) ≡ words xs ++ bytes_in (each_after (photon_words mode) (before ++ xs) ys)
      words-append xs ys = ap bytes_in (each_after-append (photon_words mode) before xs ys) ∙ bytes_in-append _ _

-- ## What a taker put

module _ (s t : Stand) (chooses : Event → Bool) (mode : Mode) (same_choice : s.chooses ≡ chooses) (same_mode : mode_of s.pen.picker ≡ mode) (empty : s.pen.held ≡ []) (before total : List Event) (clear : too_late mode before ≡ []) (picked : HasPicked s.pen.picker before) where
  chosen-is : (l : Marked) → filter s.chooses (not_marked l) ≡ filter chooses (not_marked l)
  chosen-is l = rw same_choice refl

  -- the photons of these events, or the refusal that is called for
  pub took-puts : {X : Type 0} (more : Marked) (r : Result X Fault) → TookPhotons s t more → total ≡ before ++ filter chooses (not_marked more) → s.fault ≡ None
      → PutsText (bytes_of mode before) (bytes_of mode total) (late_or (first (too_late mode total)) (fault_in r)) s.pen.sink t.pen.sink t.pen.held (answer_by t.fault r)
  took-puts {X = X} more r took are free = by r
    where
      gave : Gave s.pen t.pen (filter chooses (not_marked more))
      gave = rw chosen-is at took.gave

      none : (other : Option Fault) → late_or (first (too_late mode total)) other ≡ other
      none other = rw (gave-clear s.pen t.pen mode same_mode empty before total clear picked _ gave are) refl

      put : PutText (bytes_of mode before) (bytes_of mode total) s.pen.sink t.pen.sink [] t.pen.held
      put = gave-put s.pen t.pen mode same_mode empty before total clear picked _ gave are

      by : (r : Result X Fault) → PutsText (bytes_of mode before) (bytes_of mode total) (late_or (first (too_late mode total)) (fault_in r)) s.pen.sink t.pen.sink t.pen.held (answer_by t.fault r)
      by (Ok x) = rw (took.same_fault ∙ free) (none None, put)
      by (Err fault) = rw (took.same_fault ∙ free) (inl (none (Some fault), put))

  pub took-stands : (more : Marked) → TookPhotons s t more → total ≡ before ++ filter chooses (not_marked more) → (too_late mode total ≡ []) × HasPicked t.pen.picker total
  took-stands more took are =
      let gave : Gave s.pen t.pen (filter chooses (not_marked more)) = rw chosen-is at took.gave in
      (gave-clear s.pen t.pen mode same_mode empty before total clear picked _ gave are, gave-picked s.pen t.pen mode same_mode empty before total clear picked _ gave are)

  -- One of them was refused.
  pub broke-puts : {X : Type 0} (front back : Marked) (r : Result X Fault) (other : Option Fault) → Refused s t front → total ≡ before ++ filter chooses (not_marked (front ++ back))
      → PutsText (bytes_of mode before) (bytes_of mode total) (late_or (first (too_late mode total)) other) s.pen.sink t.pen.sink t.pen.held (answer_by t.fault r)
  broke-puts front back r other broke are =
      rw broke.told (stopped-puts s.pen t.pen mode same_mode empty before total clear picked (filter chooses (not_marked front)) (filter chooses (not_marked back)) broke.fault other
      (rw chosen-is at broke.stopped) (are ∙ ap (λ l. before ++ l) (chosen-more chooses front back)))
