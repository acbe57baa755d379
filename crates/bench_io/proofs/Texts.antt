-- A text that grows by several calls.
use Rattle.std.proofs.Common.{◌≡◌, ◌∙◌, ◌⊎◌, ℕ, List, [], ◌++◌, None, Some, Ok, Err, refl, inl, inr, sym, ap, append_assoc, append-nil, Result}
use Rattle.{std.specs.declared.option.Option.Option, tally_base.specs.declared.fault.Fault.{Fault, TheVariants.WriteFault}, bench_io.specs.Sinks.SinkState}
use Rattle.bench_io.{specs.{Sinks.{Wrote, WroteShort, PassesOn}, Texts.{WroteText, CutText, PutText, LostText, WritesText}}, proofs.Bytes.Wrote-nil}
use Rattle.bench_io.proofs.Bytes.{Wrote-trans, Wrote-flushed, WroteShort-behind, WroteShort-more, WroteShort-none, WroteShort-kept, WroteShort-same}
use Rattle.bench_io.proofs.Bytes.{WroteShort-flushed, WroteShort-passed, PassesOn-trans}

-- nothing was called
pub WroteText-none : (text : List ℕ) (a : SinkState) → WroteText text text a a
WroteText-none text a = record { more = []; adds = sym (append-nil text); wrote = Wrote-nil a }

module _ (shown mid grown : List ℕ) (a b c : SinkState) where
  pub WroteText-trans : WroteText shown mid a b → WroteText mid grown b c → WroteText shown grown a c
  WroteText-trans p q = record {
    more = p.more ++ q.more;
    adds = q.adds ∙ ap (λ l. l ++ q.more) p.adds ∙ append_assoc shown p.more q.more;
    wrote = Wrote-trans a b c p.more q.more p.wrote q.wrote;
  }

  -- A later call was cut short.
  pub CutText-behind : WroteText shown mid a b → CutText mid grown b c → CutText shown grown a c
  CutText-behind p q = record {
    more = p.more ++ q.more;
    adds = q.adds ∙ ap (λ l. l ++ q.more) p.adds ∙ append_assoc shown p.more q.more;
    cut = WroteShort-behind a b c p.more q.more p.wrote q.cut;
  }

-- The text grows further.
pub CutText-more : (shown grown all tail : List ℕ) (a b : SinkState) → all ≡ grown ++ tail → CutText shown grown a b → CutText shown all a b
CutText-more shown grown all tail a b is h = record {
  more = h.more ++ tail;
  adds = is ∙ ap (λ l. l ++ tail) h.adds ∙ append_assoc shown h.more tail;
  cut = WroteShort-more a b h.more tail h.cut;
}

-- ## A text that is put into a block

-- more of it is put
pub PutText-next : (shown grown further text : List ℕ) (a b c : SinkState) (held now later : List ℕ) → PutText shown grown a b held now → further ≡ grown ++ text → PassesOn b c (now ++ text) later → PutText shown further a c held later
PutText-next shown grown further text a b c held now later h more put = record {
  more = h.more ++ text;
  adds = more ∙ ap (λ l. l ++ text) h.adds ∙ append_assoc shown h.more text;
  put = rw (← append_assoc held h.more text) (PassesOn-trans a b c (held ++ h.more) now text later h.put put);
}

-- more of it is cut, and the rest is missing
pub LostText-next : (shown grown further whole text rest : List ℕ) (a b c : SinkState) (held now : List ℕ) → PutText shown grown a b held now
    → further ≡ grown ++ text → whole ≡ further ++ rest → WroteShort b c (now ++ text) → LostText shown whole a c held
LostText-next shown grown further whole text rest a b c held now h more all cut = record {
  more = (h.more ++ text) ++ rest;
  adds = all ∙ ap (λ l. l ++ rest) (more ∙ ap (λ l. l ++ text) h.adds ∙ append_assoc shown h.more text) ∙ append_assoc shown (h.more ++ text) rest;
  cut = WroteShort-same a c _ _ (append_assoc held (h.more ++ text) rest)
      (WroteShort-more a c (held ++ (h.more ++ text)) rest
      (WroteShort-same a c _ _ (append_assoc held h.more text) (WroteShort-passed a b c (held ++ h.more) now text h.put cut)));
}

-- What was put into a block that held nothing, by the answer: it is the refusal that is called for, and else a write failed, and the block holds nothing.
abbrev pub PutsText : {X : Type 0} → List ℕ → List ℕ → Option Fault → SinkState → SinkState → List ℕ → Result X Fault → Type 0
PutsText shown grown refused old new held (Ok x) = (refused ≡ None) × PutText shown grown old new [] held
PutsText shown grown refused old new held (Err fault) = ((refused ≡ Some fault) × PutText shown grown old new [] held) ⊎ ((fault ≡ WriteFault) × CutText shown grown old new × (held ≡ []))

module _ (shown grown : List ℕ) (refused : Option Fault) (old mid new : SinkState) (held : List ℕ) where
  pub WroteText-flushed : Wrote mid new held → PutText shown grown old mid [] held → WroteText shown grown old new
  WroteText-flushed flushed p = record { more = p.more; adds = p.adds; wrote = Wrote-flushed old mid new p.more held p.put flushed }

  pub CutText-flushed : WroteShort mid new held → PutText shown grown old mid [] held → CutText shown grown old new
  CutText-flushed failed p = record { more = p.more; adds = p.adds; cut = WroteShort-flushed old mid new p.more held p.put failed }

  -- the block was flushed
  pub writes-flushed : {X : Type 0} (r : Result X Fault) → Wrote mid new held → PutsText shown grown refused old mid held r → WritesText shown grown refused old new r
  writes-flushed (Ok x) flushed p = (p.0, WroteText-flushed flushed p.1)
  writes-flushed (Err fault) flushed (inl p) = inl (p.0, WroteText-flushed flushed p.1)
  writes-flushed (Err fault) flushed (inr p) = inr (p.0, record { more = p.1.more; adds = p.1.adds; cut = WroteShort-kept old mid new p.1.more p.1.cut (rw p.2 at flushed) })

  -- that failed
  pub writes-unflushed : {X : Type 0} (r : Result X Fault) → WroteShort mid new held → PutsText shown grown refused old mid held r → WritesText {X = Unit {0}} shown grown refused old new (Err WriteFault)
  writes-unflushed (Ok x) failed p = inr (refl, CutText-flushed failed p.1)
  writes-unflushed (Err fault) failed (inl p) = inr (refl, CutText-flushed failed p.1)
  writes-unflushed (Err fault) failed (inr p) = absurd (WroteShort-none mid new (rw p.2 at failed))
