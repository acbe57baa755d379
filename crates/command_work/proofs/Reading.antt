-- How work on a file ends, by what its reads gave and what it wrote.
use Rattle.std.proofs.Common.{◌≡◌, ◌≢◌, ◌∙◌, ◌≤◌, ◌<◌, ℕ, List, [], ◌++◌, None, Some, Ok, Err, refl, sym, ap, subst, inl, inr, ⊎_elim, append_assoc, append-nil}
use Rattle.std.{proofs.Common.{length, take, arith, ◌⊎◌, true, false, Result, IfErr, rules}, specs.declared.option.Option.Option}
use Rattle.tally_base.specs.declared.{fault.Fault.{Fault, TheVariants.{ReadFault, WriteFault}}, slot.Slot.TheVariants.Data, header.Header.Header}
use Rattle.tally_base.{specs.{Faults.{is_outside, fault_in}, FaultCounts.Rose}, proofs.Reasons.{HasReason-inside, HasReason-follows, HasReason-with}}
use Rattle.bench_io.specs.{Given.{Consumes, GivesCount, IsAtEnd, MayFollow}, Inputs.{InputState, KeepsOther, OpensNone}, Sinks.{SinkState, Wrote, WroteShort}}
use Rattle.bench_io.{specs.Texts.WritesText, proofs.{States.{Consumes-kept, Consumes-trans}, Bytes.{Wrote-nil, Wrote-trans, Wrote-same, WroteShort-same}}}
use Rattle.{bench_io.proofs.Bytes.{WroteShort-behind, WroteShort-more}, ptu_definitions.specs.Headers.header_answer, command_work.specs.Outcomes.Outcome}
use Rattle.command_work.specs.{Outcomes.{SaysNoEnd, InputsOnce, Decides, IsCut}, Behaviours.{piece_limit, Work, Writing, so_far}, Endings.{Span, Cuts}}
use Rattle.command_work.specs.{Works.{ReadsWork, TakesFew, LeavesWork}, RecordsWork.{RecordsWork, WritesPiece, WritesEnd, Opens, headed_end, headed_text}}
use Rattle.command_work.{specs.{RecordsWork.{HeadedGoes, Suits}, Pieces.{ReadReason, StopsSoon}}, proofs.Once.{Rose-kept, quiet-none, quiet-write}}
use Rattle.command_work.proofs.{Once.{quiet-memory, quiet-inside, once-none, once-read, once-unread, out-inside, out-unwritten}, Told.{fails-on, reads-on}}
use Rattle.command_work.proofs.{Pieces.{ShowsHeader, few-none, few-piece, few-map}, RestEnds.same-end}

abbrev between : InputState → InputState → SinkState → SinkState → Span
between before after old new = record { before = before; after = after; old = old; new = new }

-- Bytes were taken and no call failed. There are no more of them, after some that call for no end by themselves, than one read gives.
pub record ReadWell (work : Work) (before after : InputState) (taken : List ℕ) : Type 0 where
  pub once : InputsOnce before after None
  pub consumes : Consumes (before.given Data) (after.given Data) taken
  pub few : TakesFew work.goes_on (before.given Data) (after.given Data)

-- The bytes taken call for no end by themselves, no read said the end, and what is written of them was written.
pub record SoFar (writing : Writing (List ℕ → List ℕ)) (work : Work) (at : Span) (taken : List ℕ) : Type 0 where
  pub once : InputsOnce at.before at.after None
  pub consumes : Consumes (at.before.given Data) (at.after.given Data) taken
  pub written : Wrote at.old at.new (so_far writing taken)
  pub goes : work.goes_on taken
  pub unended : SaysNoEnd (at.before.given Data) (at.after.given Data)

-- A read comes after them.
module _ {writing : Writing (List ℕ → List ℕ)} {work : Work} {at : Span} {taken : List ℕ} (so : SoFar writing work at taken) (after : InputState) (other : KeepsOther Data at.after after) (none : OpensNone at.after after) where
  -- it failed
  pub leaves-unread : (wanting : List ℕ → Type 0) → after.given Data ≡ at.after.given Data → Rose (at.after.read_faults Data) (after.read_faults Data)
      → LeavesWork writing wanting work (record at { after = after }) (Err (ReadFault Data))
  leaves-unread wanting keeps rose =
      let took = Consumes-kept _ _ _ taken so.consumes keeps in
      record {
        answer = inl refl;
        reason = (
          refl,
          Rose-kept _ _ _ (so.once.reads Data) rose,
          record { taken = taken; consumes = took; written = so.written; goes_on = so.goes; unended = fails-on _ _ _ so.unended keeps },
        );
        once = record { inputs = once-unread Data _ _ _ so.once other none rose; out = so.written.kept };
        few = few-none work.goes_on taken _ _ took so.goes;
      }

  -- it gave a piece
  pub took-read : (len : ℕ) (into : List ℕ) → after.read_faults Data ≡ at.after.read_faults Data → GivesCount (at.after.given Data) (after.given Data) len into
      → length into ≤ piece_limit → ReadWell work at.before after (taken ++ take len into)
  took-read len into kept gives small = record {
    once = once-read Data _ _ _ None quiet-none so.once other none kept;
    consumes = Consumes-trans _ _ _ taken (take len into) so.consumes gives.0;
    few = few-piece work.goes_on taken len into _ _ _ so.consumes gives so.goes small;
  }

module _ {work : Work} {before after : InputState} {taken : List ℕ} (took : ReadWell work before after taken) (writing : Writing (List ℕ → List ℕ)) (wanting : List ℕ → Type 0) (old new : SinkState) where
  -- the bytes taken call for an end
  pub leaves-ended : (text : List ℕ) (r : Result (Unit {0}) Fault) → IfErr r (λ fault. is_outside fault ≡ false) → Wrote old new text
      → Decides work.outcome taken (after.given Data) (record { text = text; fault = fault_in r }) → LeavesWork writing wanting work (between before after old new) r
  leaves-ended text r inside wrote says = record {
    answer = inr (record { taken = taken; consumes = took.consumes; text = text; written = wrote; says = says });
    reason = search (rules, arith, HasReason-inside);
    once = search (rules, arith, once-none, quiet-none, quiet-inside, out-inside, took, wrote);
    few = took.few;
  }

  -- a text that they call for was cut short
  pub leaves-cut : Rose old.faults new.faults → ((more : List ℕ) → MayFollow (after.given Data) more → Cuts writing (work.outcome (taken ++ more)) old new)
      → LeavesWork writing wanting work (between before after old new) (Err WriteFault)
  leaves-cut rose cut = record {
    answer = inl refl;
    reason = (rose, record { taken = taken; consumes = took.consumes; cut = cut });
    once = record { inputs = once-none _ _ _ quiet-write took.once; out = rose };
    few = took.few;
  }

  -- more of a text was written, or was cut short
  pub leaves-writes : (shown grown : List ℕ) (refused : Option Fault) (mid : SinkState) (r : Result (Unit {0}) Fault) → Wrote old mid shown → WritesText shown grown refused mid new r
      → ((fault : Fault) → refused ≡ Some fault → is_outside fault ≡ false) → (refused ≡ fault_in r → Decides work.outcome taken (after.given Data) (record { text = grown; fault = fault_in r }))
      → ((more : List ℕ) → MayFollow (after.given Data) more → (tail : List ℕ) × ((work.outcome (taken ++ more)).text ≡ grown ++ tail))
      → ((more : List ℕ) → WroteShort old new (work.outcome (taken ++ more)).text → Cuts writing (work.outcome (taken ++ more)) old new) → LeavesWork writing wanting work (between before after old new) r
  leaves-writes shown grown refused mid (Ok done) wrote h inside says grows cuts =
      leaves-ended grown (Ok done) tt (Wrote-same _ _ _ _ (sym h.1.adds) (Wrote-trans _ _ _ _ _ wrote h.1.wrote)) (says h.0)
  leaves-writes shown grown refused mid (Err fault) wrote (inl h) inside says grows cuts =
      leaves-ended grown (Err fault) (inside fault h.0) (Wrote-same _ _ _ _ (sym h.1.adds) (Wrote-trans _ _ _ _ _ wrote h.1.wrote)) (says h.0)
  leaves-writes shown grown refused mid (Err fault) wrote (inr h) inside says grows cuts = rw h.0 (leaves-cut (Rose-kept _ _ _ wrote.kept h.1.cut.rose) (λ more follows.
      let tail = grows more follows in
      cuts more (WroteShort-same _ _ _ _ (sym tail.1) (WroteShort-more _ _ _ tail.0 (WroteShort-same _ _ _ _ (sym h.1.adds) (WroteShort-behind _ _ _ _ _ wrote h.1.cut))))))

-- ## A header, and the bytes after it

-- What the loop knows of the bytes taken: the header, those after it that its reader was given, and the piece that comes next.
pub record InPieces (work : Work) (tells : Header → RecordsWork) (told : RecordsWork) (stands : List ℕ → Type 0) (at : Span) (piece : List ℕ) : Type 0 where
  pub header : Header
  pub same : told ≡ tells header
  pub taken : List ℕ
  pub behind : List ℕ
  pub shows : ShowsHeader taken header (behind ++ piece)
  pub stood : stands behind
  pub took : ReadWell work at.before at.after taken
  pub unended : SaysNoEnd (at.before.given Data) (at.after.given Data)
  pub written : Wrote at.old at.new ((tells header).text behind)

module _ (work : Work) (writing : Writing (List ℕ → List ℕ)) (wanting : List ℕ → Type 0) (tells : Header
    → RecordsWork) (wants : Header → Type 0) (suits : Suits work writing wanting tells wants) where
  -- the header is cut
  pub cut-goes : (bytes : List ℕ) → IsCut bytes → work.goes_on bytes
  cut-goes bytes cut = suits.goes bytes (subst (HeadedGoes tells) (sym cut) refl)

  module _ {taken : List ℕ} {header : Header} {behind : List ℕ} (shows : ShowsHeader taken header behind) where
    abbrev t : RecordsWork
    t = tells header

    ends-is : (more : List ℕ) → work.outcome (taken ++ more) ≡ t.ends (behind ++ more)
    ends-is more = suits.ends (taken ++ more) ∙ ap (headed_end tells) (shows.is more)

    whole : header_answer taken ≡ Ok (header, behind)
    whole = simp append-nil at (shows.is [])

    -- the bytes after it are not refused
    pub so-headed : (at : Span) → ReadWell work at.before at.after taken → SaysNoEnd (at.before.given Data) (at.after.given Data)
        → Wrote at.old at.new (t.text behind) → t.refuses behind ≡ None → SoFar writing work at taken
    so-headed at took unended wrote none = record {
      once = took.once;
      consumes = took.consumes;
      written = Wrote-same _ _ _ _ (sym (suits.text taken ∙ ap (headed_text tells) whole)) wrote;
      goes = suits.goes taken (subst (HeadedGoes tells) (sym whole) none);
      unended = unended;
    }

    module _ {before after : InputState} (took : ReadWell work before after taken) (old new : SinkState) where
      -- some of them are refused, or their text was cut short
      pub leaves-refused : (shown front rest : List ℕ) (mid : SinkState) (fault : Fault) → behind ≡ front ++ rest → Wrote old mid shown
          → WritesText {X = Unit {0}} shown (t.text front) (t.refuses front) mid new (Err fault) → LeavesWork writing wanting work (between before after old new) (Err fault)
      leaves-refused shown front rest mid fault split wrote writes =
          let is = suits.is header in
          let all : (more : List ℕ) → work.outcome (taken ++ more) ≡ t.ends (front ++ (rest ++ more)) =
          λ more. ends-is more ∙ ap (λ l. t.ends (l ++ more)) split ∙ ap t.ends (append_assoc front rest more) in
          leaves-writes took writing wanting old new shown (t.text front) (t.refuses front) mid (Err fault) wrote writes (is.inside front)
          (λ refuses. record { means = λ more follows. all more ∙ is.refused front (rest ++ more) fault refuses })
          (λ more follows. let tail = is.front front (rest ++ more) in (tail.0, ap (λ (end : Outcome). end.text) (all more) ∙ tail.1)) (λ more short. suits.cuts _ _ _ short)

      -- they are all
      pub leaves-end : (mid : SinkState) (r : Result (Unit {0}) Fault) → IsAtEnd (after.given Data) → Wrote old mid (t.text behind) → WritesEnd t behind mid new r → LeavesWork writing wanting work (between before after old new) r
      leaves-end mid r ended wrote writes =
          let all : (more : List ℕ) → more ≡ [] → work.outcome (taken ++ more) ≡ t.ends behind =
          λ more none. ends-is more ∙ ap (λ l. t.ends (behind ++ l)) none ∙ ap t.ends (append-nil behind) in
          leaves-writes took writing wanting old new (t.text behind) (t.ends behind).text (t.ends behind).fault mid r wrote writes ((suits.is header).end_inside behind)
          (λ same. record { means = λ more follows. all more (follows ended) ∙ same-end (t.ends behind) _ (fault_in r) refl same })
          (λ more follows. ([], ap (λ (end : Outcome). end.text) (all more (follows ended)) ∙ sym (append-nil _))) (λ more short. suits.cuts _ _ _ short)

      -- nothing was opened for them
      pub leaves-unopened : (fault : Fault) → length behind < piece_limit → Opens {X = Unit {0}} t (wants header) old new (Err fault) → LeavesWork writing wanting work (between before after old new) (Err fault)
      leaves-unopened fault few (inl h) = leaves-refused [] [] behind old fault refl (Wrote-nil old) h
      leaves-unopened fault few (inr h) = rw h.0 (record {
        answer = inl refl;
        reason = record { keeps = h.2; taken = taken; consumes = took.consumes; wants = suits.wanting taken behind header whole h.1 few };
        once = record { inputs = once-none _ _ _ quiet-memory took.once; out = h.2.kept };
        few = took.few;
      })

  -- there is none
  module _ {A : Type 0} (before after : InputState) (a : SinkState) (front : List ℕ) (fault : Fault) (took : Consumes (before.given Data) (after.given Data) front) (stops : StopsSoon {A = A} IsCut (before.given Data) (after.given Data) (Err fault)) where
    cut-reads : (taken : List ℕ) → Consumes (before.given Data) (after.given Data) taken → IsCut taken
        → SaysNoEnd (before.given Data) (after.given Data) → ReadsWork writing work (before.given Data) (after.given Data) a a
    cut-reads taken took cut on = record {
      taken = taken;
      consumes = took;
      written = Wrote-same _ _ _ _ (sym (suits.text taken ∙ ap (headed_text tells) cut)) (Wrote-nil a);
      goes_on = cut-goes taken cut;
      unended = on;
    }

    pub leaves-unheaded : (is_outside fault ≡ true) ⊎ Decides header_answer front (after.given Data) (Err fault) → ReadReason before after fault → InputsOnce before after (Some fault)
        → LeavesWork writing wanting work (record { before = before; after = after; old = a; new = a }) (Err fault)
    leaves-unheaded answer reason once = record {
      answer =
          ⊎_elim
          (λ (outside : is_outside fault ≡ true). inl outside)
          (λ (says : Decides header_answer front (after.given Data) (Err fault)). inr (record {
            taken = front;
            consumes = took;
            text = [];
            written = Wrote-nil a;
            says = record { means = λ more follows. suits.ends (front ++ more) ∙ ap (headed_end tells) (says.means more follows) };
          }))
          answer;
      reason = HasReason-follows _ _ _ _ _ _ _ _ fault (λ slot no. no)
          (λ slot h. (h.0.0, h.0.1, cut-reads h.1.0 h.1.1 h.1.2 h.1.3)) (λ no. absurd no) (λ no. absurd no)
          (HasReason-with _ _ _ _ _ fault stops.unread reason);
      once = record { inputs = once; out = out-unwritten _ _ _ fault _ reason };
      few = few-map IsCut work.goes_on _ _ cut-goes stops.few;
    }

  -- what the loop knows, and a call of its body
  module _ {told : RecordsWork} {stands : List ℕ → Type 0} {at : Span} {piece : List ℕ} (p : InPieces work tells told stands at piece) (new : SinkState) where
    abbrev all : List ℕ
    all = p.behind ++ piece

    -- the piece was refused, or cut short
    pub leaves-piece : (fault : Fault) → WritesPiece told p.behind piece at.new new (Err fault) → LeavesWork writing wanting work (record at { new = new }) (Err fault)
    leaves-piece fault writes =
        leaves-refused p.shows p.took at.old new _ all [] at.new fault (sym (append-nil all)) p.written (rw p.same at writes)

    module _ (writes : WritesPiece told p.behind piece at.new new (Ok tt)) where
      wrote : Wrote at.old new ((tells p.header).text all)
      wrote = let h = rw p.same at writes in Wrote-same _ _ _ _ (sym h.1.adds) (Wrote-trans _ _ _ _ _ p.written h.1.wrote)

      -- it was taken
      pub so-given : SoFar writing work (record at { new = new }) p.taken
      so-given = so-headed p.shows _ p.took p.unended wrote (rw p.same at writes).0

      module _ (after : InputState) (other : KeepsOther Data at.after after) (none : OpensNone at.after after) (len : ℕ) (into : List ℕ)
          (kept : after.read_faults Data ≡ at.after.read_faults Data) (gives : GivesCount (at.after.given Data) (after.given Data) len into) (small : length into ≤ piece_limit) where
        -- and the next was read
        pub next-piece : (told' : RecordsWork) (stands' : List ℕ → Type 0) → told' ≡ told → stands' all → len ≢ 0 → InPieces work tells told' stands' (record at { after = after; new = new }) (take len into)
        next-piece told' stands' same stood some = record {
          header = p.header;
          same = same ∙ p.same;
          taken = p.taken ++ take len into;
          behind = all;
          shows = record { is = λ more. ap header_answer (append_assoc p.taken (take len into) more) ∙ p.shows.is (take len into ++ more) ∙ ap (λ l. Ok (p.header, l)) (sym (append_assoc all (take len into) more)) };
          stood = stood;
          took = took-read so-given after other none len into kept gives small;
          unended = reads-on _ _ _ _ _ p.unended gives some;
          written = wrote;
        }

        -- or the data end with it
        pub ends-pieces : (end : SinkState) (r : Result (Unit {0}) Fault) → len ≡ 0 → IsAtEnd (after.given Data) → WritesEnd told all new end r → LeavesWork writing wanting work (record at { after = after; new = end }) r
        ends-pieces end r none_more ended writes =
            let took = took-read so-given after other none len into kept gives small in
            leaves-end p.shows (rw (none_more, append-nil) at took) at.old end new r ended wrote (rw p.same at writes)
