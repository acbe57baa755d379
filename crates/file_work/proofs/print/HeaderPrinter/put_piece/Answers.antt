use Rattle.std.proofs.Common.{refl, ◌≡◌, ◌^◌, ◌≤◌, ◌++◌, List, ℕ, length, take, sym, ap, ◌∙◌, subst, append_assoc, arith, length-append, ◌+◌, [], Bool, drop}
use Rattle.std.proofs.{Common.{take-append-drop, rules}, lemmas.{List.{length-take, take_all}, Result.err_from_is_err_and}}
use Rattle.{ptu_definitions.specs.{TagList.{code_in, Item}, Headers.{header_answer, seen, seen_preamble}}, list_out.specs.HeaderText.{kind_with, body_text}}
use Rattle.list_out.specs.{HeaderText.{head_text, bare_end, preamble_lines_of, header_text}, declared.body.BodyText.BodyText, Lines.HasPut}
use Rattle.list_out.proofs.{Final.{header_text-grows, header_text-refused, header_text-done}, StepTexts.{header_text-same, header_text-preamble}}
use Rattle.{list_out.proofs.StepTexts.{header_text-tag, header_text-body, kind_with-is}, command_work.{specs.Outcomes.IsCut, proofs.Pieces.two-parts}}
use Rattle.{command_work.proofs.Pieces.{whole-piece, Walked, Walked-next}, tally_base.specs.declared.{fault.Fault.Fault, header.Header.Header}}
use Rattle.bench_io.{specs.Sinks.{SinkState, WroteShort, PassesOn}, proofs.Bytes.{WroteShort-same, WroteShort-more, WroteShort-passed, PassesOn-trans}}
use Rattle.{bench_io.proofs.Texts.{PutText-next, LostText-next}, ptu_header.specs.declared.{kind.TagKind.TagKind, head.TagHead.TagHead}}
use Rattle.ptu_header.specs.declared.{reader.HeaderReader.HeaderReader, step.HeaderStep.TheVariants.{More, Preamble, Tag, Body, Done, Refused}}
use Rattle.{ptu_header.specs.ReadHeader.{Steps, bytes_taken}, file_work.specs.BodyPieces.{Prints, PutsHeader, CutsHeader, end_line}}
use Rattle.file_work.{specs.declared.print.HeaderPrinter.HeaderPrinter, proofs.Ends.{no_items, last_item}}
use Rattle.file_work.proofs.print.HeaderPrinter.put_piece.Goals as goal

-- what each step of a header reader does for a printer
abbrev printer : HeaderReader → BodyText → HeaderPrinter
printer reader body = record { reader = reader; body = body }

abbrev taken_by : HeaderPrinter → ℕ
taken_by printer = bytes_taken printer.reader

-- what a step makes of the part that it took, after what was taken before
abbrev TakesPart : HeaderPrinter → List ℕ → ℕ → SinkState → SinkState → List ℕ → List ℕ → List ℕ → Type 0
TakesPart new left more b c now later front = (text : List ℕ) × (header_text (front ++ take more left) ≡ header_text front ++ text) × PassesOn b c (now ++ text) later × Prints new (front ++ take more left)

-- more text is put
PutsHeader-next : (bytes piece left : List ℕ) (used more : ℕ) (new : HeaderPrinter) (a b c : SinkState) (held now later : List ℕ) → left ≡ drop used piece
    → PutsHeader bytes (take used piece) a b held now → TakesPart new left more b c now later (bytes ++ take used piece) → PutsHeader bytes (take (used + more) piece) a c held later
PutsHeader-next bytes piece left used more new a b c held now later e h part =
    PutText-next _ _ _ part.0 a b c held now later h (ap header_text (sym (two-parts bytes piece left used more e)) ∙ part.1) part.2

-- more text is cut
CutsHeader-next : (bytes piece left text : List ℕ) (used more : ℕ) (a b c : SinkState) (held now : List ℕ)
    → left ≡ drop used piece → PutsHeader bytes (take used piece) a b held now
    → header_text ((bytes ++ take used piece) ++ take more left) ≡ header_text (bytes ++ take used piece) ++ text
    → WroteShort b c (now ++ text) → CutsHeader bytes piece a c held
CutsHeader-next bytes piece left text used more a b c held now e h grown cut =
    let rest = header_text-grows (bytes ++ take (used + more) piece) (drop (used + more) piece) in
    LostText-next _ _ (header_text (bytes ++ take (used + more) piece)) _ text rest.0 a b c held now h (ap header_text (sym (two-parts bytes piece left used more e)) ∙ grown)
    (ap header_text (sym (whole-piece bytes piece (drop (used + more) piece) (used + more) refl)) ∙ rest.1) cut

-- the same of all bytes that may have come before
cuts : (old mid : HeaderPrinter) (piece left : List ℕ) (used more : ℕ) (a b c : SinkState) (held now : List ℕ) → Walked Prints taken_by old mid piece used → left ≡ drop used piece
    → ((bytes : List ℕ) → Prints old bytes → PutsHeader bytes (take used piece) a b held now)
    → ((front : List ℕ) → Prints mid front → (text : List ℕ) × (header_text (front ++ take more left) ≡ header_text front ++ text) × WroteShort b c (now ++ text)) → (bytes : List ℕ) → Prints old bytes → CutsHeader bytes piece a c held
cuts old mid piece left used more a b c held now walked e h grown bytes p =
    let it = grown (bytes ++ take used piece) (walked.stood bytes p) in CutsHeader-next bytes piece left it.0 used more a b c held now e (h bytes p) it.1 it.2

-- the bytes that were taken are as many as the step says
front-size : (front left : List ℕ) (more : ℕ) → more ≤ length left → length (front ++ take more left) ≡ length front + more
front-size front left more h = omega (arith, h, length-append front (take more left), length-take more left)

-- what is left of the piece adds nothing
PutsHeader-end : (bytes piece left : List ℕ) (used : ℕ) (a b : SinkState) (held now : List ℕ)
    → left ≡ drop used piece → PutsHeader bytes (take used piece) a b held now
    → header_text ((bytes ++ take used piece) ++ left) ≡ header_text (bytes ++ take used piece) → PutsHeader bytes piece a b held now
PutsHeader-end bytes piece left used a b held now e h same = search (rules, arith, whole-piece)

-- the texts of the steps
text-preamble : (bytes left magic version : List ℕ) (more : ℕ) (reader : HeaderReader)
    → Steps bytes left reader (Preamble more magic version) → length (bytes ++ take more left) ≤ 2 ^ 24
    → header_text (bytes ++ take more left) ≡ header_text bytes ++ preamble_lines_of magic version
text-preamble bytes left magic version more reader s fits = search (rules, arith, header_text-preamble, length-append, length-take)

text-tag : (bytes left : List ℕ) (more : ℕ) (reader : HeaderReader) (head : TagHead) (kind : TagKind) (s : Steps bytes left reader (Tag more head kind))
    → length (bytes ++ take more left) ≤ 2 ^ 24
    → header_text (bytes ++ take more left) ≡ header_text bytes ++ (head_text head kind ++ bare_end s.2.0)
text-tag bytes left more reader head kind s fits = header_text-tag bytes (take more left) s.2.0 head kind fits s.3 s.2.2 s.2.3 s.2.4

text-body : (bytes left added : List ℕ) (more : ℕ) (last : Bool) (reader : HeaderReader) (s : Steps bytes left reader (Body more last))
    → length (bytes ++ take more left) ≤ 2 ^ 24
    → body_text (kind_with (code_in s.2.tag)) (s.2.part ++ take more left) ≡ body_text (kind_with (code_in s.2.tag)) s.2.part ++ added
    → header_text (bytes ++ take more left) ≡ header_text bytes ++ (added ++ end_line last)
text-body bytes left added more last reader s fits grown = search (rules, arith, header_text-body, length-append, length-take)

text-more : (bytes left : List ℕ) (reader : HeaderReader) → Steps bytes left reader More
    → length (bytes ++ left) ≤ 2 ^ 24 → header_text (bytes ++ left) ≡ header_text bytes
text-more bytes left reader s fits = header_text-same bytes (bytes ++ left) (omega (arith, fits, length-append bytes left)) fits s.3.items s.3.preamble

text-done : (bytes left : List ℕ) (used : ℕ) (header : Header) (reader : HeaderReader)
    → Steps bytes left reader (Done used header) → header_text (bytes ++ left) ≡ header_text bytes
text-done bytes left used header reader s = header_text-done bytes left header [] s.2

text-refused : (bytes left : List ℕ) (fault : Fault) (reader : HeaderReader) → Steps bytes left reader (Refused fault) → length bytes ≤ bytes_taken reader → bytes_taken reader ≤ 2 ^ 24 → header_text (bytes ++ left) ≡ header_text bytes
text-refused bytes left fault reader s later limit =
    let n = bytes_taken reader in
    let all = bytes ++ left in
    let front = take n all in
    let before : take n bytes ≡ bytes = take_all n bytes later in
    let items : seen front ≡ seen bytes = s.2.items ∙ ap seen before in
    let preamble : seen_preamble front ≡ seen_preamble bytes = s.2.preamble ∙ ap seen_preamble before in
    ap header_text (sym (take-append-drop n all)) ∙ header_text-refused front (drop n all) fault s.2.refused
    ∙ header_text-same bytes front (omega (arith, later, limit)) (omega (arith, limit, length-take n all)) items preamble

-- what the printer stands for after the steps
Prints-preamble : (bytes left magic version : List ℕ) (more : ℕ) (reader : HeaderReader) (body : BodyText)
    → Steps bytes left reader (Preamble more magic version)
    → bytes_taken reader ≡ length (bytes ++ take more left) → Prints (printer reader body) (bytes ++ take more left)
Prints-preamble bytes left magic version more reader body s taken =
    record { read = s.1; taken = taken; body = λ items tag part shows. no_items items _ (sym shows ∙ s.5) }

Prints-tag : (bytes left : List ℕ) (more : ℕ) (reader : HeaderReader) (head : TagHead) (kind : TagKind) (body : BodyText)
    → Steps bytes left reader (Tag more head kind)
    → bytes_taken reader ≡ length (bytes ++ take more left) → HasPut body kind [] → Prints (printer reader body) (bytes ++ take more left)
Prints-tag bytes left more reader head kind body s taken none = record {
  read = s.1;
  taken = taken;
  body = λ items tag part shows.
      let same = last_item (seen bytes) items _ _ (sym s.2.2 ∙ shows) in
      let tags : s.2.0 ≡ tag = ap (λ (i : Item). i.tag) same in
      let parts_are : [] ≡ part = ap (λ (i : Item). i.body) same in
      let kinds : kind_with (code_in tag) ≡ kind = ap (λ t. kind_with (code_in t)) (sym tags) ∙ kind_with-is kind s.2.0 s.2.4 in
      rw (kinds, ← parts_are) none;
}

Prints-body : (bytes left : List ℕ) (more : ℕ) (last : Bool) (reader : HeaderReader) (body : BodyText) (s : Steps bytes left reader (Body more last))
    → bytes_taken reader ≡ length (bytes ++ take more left) → HasPut body (kind_with (code_in s.2.tag)) (s.2.part ++ take more left)
    → Prints (printer reader body) (bytes ++ take more left)
Prints-body bytes left more last reader body s taken put = search (rules, arith, last_item)

Prints-more : (old : HeaderPrinter) (bytes left : List ℕ) (reader : HeaderReader)
    → Prints old bytes → Steps bytes left reader More → bytes_taken reader ≡ length (bytes ++ left)
    → Prints (printer reader old.body) (bytes ++ left)
Prints-more old bytes left reader h s taken = record { read = s.0; taken = taken; body = λ items tag part shows. h.body items tag part (sym s.3.items ∙ shows) }

-- the text of a body and the end of its line
PassesOn-body : (a b c : SinkState) (held added end now later : List ℕ) → PassesOn a b (held ++ added) now
    → PassesOn b c (now ++ end) later → PassesOn a c (held ++ (added ++ end)) later
PassesOn-body a b c held added end now later p q = rw (← append_assoc held added end) (PassesOn-trans a b c (held ++ added) now end later p q)

WroteShort-body : (a b : SinkState) (held added end : List ℕ) → WroteShort a b (held ++ added) → WroteShort a b (held ++ (added ++ end))
WroteShort-body a b held added end p = WroteShort-same a b _ _ (append_assoc held added end) (WroteShort-more a b (held ++ added) end p)

WroteShort-end : (a b c : SinkState) (held added end now : List ℕ) → PassesOn a b (held ++ added) now
    → WroteShort b c (now ++ end) → WroteShort a c (held ++ (added ++ end))
WroteShort-end a b c held added end now p q = WroteShort-same a c _ _ (append_assoc held added end) (WroteShort-passed a b c (held ++ added) now end p q)

pub returns-in-More-clause-leaves : goal.returns-in-More-clause-leaves
returns-in-More-clause-leaves g c = λ bytes h.
    let piece = c.args.piece.now in
    let left = c.split_at.result.1.now in
    let front = bytes ++ take c.steps.used piece in
    let p = c.steps.invariant.walked.stood bytes h in
    let s = c.in-More.ensures.step front p.read in
    let whole : front ++ left ≡ bytes ++ piece = whole-piece bytes piece left c.steps.used c.split_at.ensures.back in
    (subst (Prints (printer c.feed.new.self c.steps.self.body)) whole (Prints-more c.steps.self front left c.feed.new.self p s (omega (arith, p.taken, c.in-More.ensures.room, length-append front left))), s.1, subst IsCut whole s.2)

pub returns-in-More-clause-text : goal.returns-in-More-clause-text
returns-in-More-clause-text g c = λ bytes h.
    let left = c.split_at.result.1.now in
    let front = bytes ++ take c.steps.used c.args.piece.now in
    let p = c.steps.invariant.walked.stood bytes h in
    PutsHeader-end bytes c.args.piece.now left c.steps.used _ _ _ _ c.split_at.ensures.back (c.steps.invariant.text bytes h)
    (text-more front left c.feed.new.self (c.in-More.ensures.step front p.read) (omega (arith, p.taken, c.in-More.ensures.room, c.in-More.ensures.limit, length-append front left)))

pub returns-in_err-put-in-Preamble-clause-short : goal.returns-in_err-put-in-Preamble-clause-short
returns-in_err-put-in-Preamble-clause-short g c =
    let left = c.split_at.result.1.now in
    let more = c.in-Preamble.more in
    rw (err_from_is_err_and c.from_residual.result c.from_residual.ensures.1).1 (cuts _ _ _ left c.steps.used more _ _ _ _ c.steps.block c.steps.invariant.walked c.split_at.ensures.back c.steps.invariant.text (λ front p.
    let s = c.in-Preamble.ensures.step front p.read in
    (_, text-preamble front left c.in-Preamble.magic c.in-Preamble.version more c.feed.new.self s (omega (arith, p.taken, front-size front left more s.0.0, c.in-Preamble.ensures.room.1, c.in-Preamble.ensures.limit)), rw (c.as_slice.ensures.value, c.preamble_lines.ensures) at c.in_err-put-in-Preamble.ensures.short)))

pub steps-preserved-in-Preamble : goal.steps-preserved-in-Preamble
steps-preserved-in-Preamble g c =
    let left = c.split_at.result.1.now in
    let more = c.in-Preamble.more in
    let new = printer c.feed.new.self c.steps.self.body in
    let goes : (front : List ℕ) → Prints c.steps.self front → TakesPart new left more (g.O.Sink.state c.steps.out) (g.O.Sink.state c.put.new.sink) c.steps.block c.put.new.self front = λ front p.
    let s = c.in-Preamble.ensures.step front p.read in
    let size = front-size front left more s.0.0 in (
      preamble_lines_of c.in-Preamble.magic c.in-Preamble.version,
      text-preamble front left c.in-Preamble.magic c.in-Preamble.version more c.feed.new.self s (omega (arith, p.taken, size, c.in-Preamble.ensures.room.1, c.in-Preamble.ensures.limit)),
      rw (c.as_slice.ensures.value, c.preamble_lines.ensures) at c.in_ok-put-in-Preamble.ensures.all,
      Prints-preamble front left c.in-Preamble.magic c.in-Preamble.version more c.feed.new.self c.steps.self.body s (omega (arith, p.taken, size, c.in-Preamble.ensures.room.1)),
    ) in
    record {
      walked = Walked-next Prints taken_by _ _ new _ left c.steps.used more c.steps.invariant.walked c.split_at.ensures.back c.in-Preamble.ensures.room.0 c.in-Preamble.ensures.room.1 (λ front p. (goes front p).3);
      text = λ bytes h. PutsHeader-next bytes c.args.piece.now left c.steps.used more _ _ _ _ _ _ _ c.split_at.ensures.back (c.steps.invariant.text bytes h) (goes _ (c.steps.invariant.walked.stood bytes h));
      kept = c.in_ok-put-in-Preamble.ensures.all.passed.kept ∙ c.steps.invariant.kept;
    }

pub returns-in_err-put-in-Tag-clause-short : goal.returns-in_err-put-in-Tag-clause-short
returns-in_err-put-in-Tag-clause-short g c =
    let left = c.split_at.result.1.now in
    let more = c.in-Tag.more in
    rw (err_from_is_err_and c.from_residual-in_err-put-in-Tag.result c.from_residual-in_err-put-in-Tag.ensures.1).1 (cuts _ _ _ left c.steps.used more _ _ _ _ c.steps.block c.steps.invariant.walked c.split_at.ensures.back c.steps.invariant.text (λ front p.
    let s = c.in-Tag.ensures.step front p.read in
    (_, text-tag front left more c.feed.new.self c.in-Tag.tag c.in-Tag.kind s (omega (arith, p.taken, front-size front left more s.0.0, c.in-Tag.ensures.room.1, c.in-Tag.ensures.limit)), rw (c.as_slice-in-Tag.ensures.value, c.tag_line.ensures s.2.0 s.2.3 s.2.4) at c.in_err-put-in-Tag.ensures.short)))

pub steps-preserved-in-Tag : goal.steps-preserved-in-Tag
steps-preserved-in-Tag g c =
    let left = c.split_at.result.1.now in
    let more = c.in-Tag.more in
    let new = printer c.feed.new.self c.new-self.result in
    let goes : (front : List ℕ) → Prints c.steps.self front → TakesPart new left more (g.O.Sink.state c.steps.out) (g.O.Sink.state c.put-in-Tag.new.sink) c.steps.block c.put-in-Tag.new.self front = λ front p.
    let s = c.in-Tag.ensures.step front p.read in
    let size = front-size front left more s.0.0 in (
      head_text c.in-Tag.tag c.in-Tag.kind ++ bare_end s.2.0,
      text-tag front left more c.feed.new.self c.in-Tag.tag c.in-Tag.kind s (omega (arith, p.taken, size, c.in-Tag.ensures.room.1, c.in-Tag.ensures.limit)),
      rw (c.as_slice-in-Tag.ensures.value, c.tag_line.ensures s.2.0 s.2.3 s.2.4) at c.in_ok-put-in-Tag.ensures.all,
      Prints-tag front left more c.feed.new.self c.in-Tag.tag c.in-Tag.kind c.new-self.result s (omega (arith, p.taken, size, c.in-Tag.ensures.room.1)) c.new-self.ensures,
    ) in
    record {
      walked = Walked-next Prints taken_by _ _ new _ left c.steps.used more c.steps.invariant.walked c.split_at.ensures.back c.in-Tag.ensures.room.0 c.in-Tag.ensures.room.1 (λ front p. (goes front p).3);
      text = λ bytes h. PutsHeader-next bytes c.args.piece.now left c.steps.used more _ _ _ _ _ _ _ c.split_at.ensures.back (c.steps.invariant.text bytes h) (goes _ (c.steps.invariant.walked.stood bytes h));
      kept = c.in_ok-put-in-Tag.ensures.all.passed.kept ∙ c.steps.invariant.kept;
    }

pub returns-in-Done-clause-leaves : goal.returns-in-Done-clause-leaves
returns-in-Done-clause-leaves g c = λ bytes h.
    let left = c.split_at.result.1.now in
    let front = bytes ++ take c.steps.used c.args.piece.now in
    let s = c.in-Done.ensures.step front (c.steps.invariant.walked.stood bytes h).read in (
      c.in-Done.header,
      left,
      λ more.
          ap (λ l. header_answer (l ++ more)) (sym (whole-piece bytes c.args.piece.now left c.steps.used c.split_at.ensures.back))
          ∙ ap header_answer (append_assoc front left more) ∙ s.2 (left ++ more),
    )

pub returns-in-Done-clause-text : goal.returns-in-Done-clause-text
returns-in-Done-clause-text g c = λ bytes h.
    let left = c.split_at.result.1.now in
    let front = bytes ++ take c.steps.used c.args.piece.now in
    PutsHeader-end bytes c.args.piece.now left c.steps.used _ _ _ _ c.split_at.ensures.back (c.steps.invariant.text bytes h)
    (text-done front left c.in-Done.used c.in-Done.header c.feed.new.self (c.in-Done.ensures.step front (c.steps.invariant.walked.stood bytes h).read))

pub returns-in-Refused-clause-leaves : goal.returns-in-Refused-clause-leaves
returns-in-Refused-clause-leaves g c = λ bytes h more.
    ap (λ l. header_answer (l ++ more)) (sym (whole-piece bytes c.args.piece.now c.split_at.result.1.now c.steps.used c.split_at.ensures.back))
    ∙ (c.in-Refused.ensures.step (bytes ++ take c.steps.used c.args.piece.now) (c.steps.invariant.walked.stood bytes h).read).1 more

pub returns-in-Refused-clause-text : goal.returns-in-Refused-clause-text
returns-in-Refused-clause-text g c = λ bytes h.
    let left = c.split_at.result.1.now in
    let front = bytes ++ take c.steps.used c.args.piece.now in
    let p = c.steps.invariant.walked.stood bytes h in
    PutsHeader-end bytes c.args.piece.now left c.steps.used _ _ _ _ c.split_at.ensures.back (c.steps.invariant.text bytes h)
    (text-refused front left c.in-Refused.fault c.feed.new.self (c.in-Refused.ensures.step front p.read) (omega (arith, p.taken, c.in-Refused.ensures.room)) c.in-Refused.ensures.limit)

pub returns-in_err-put_body-in-Body-clause-short : goal.returns-in_err-put_body-in-Body-clause-short
returns-in_err-put_body-in-Body-clause-short g c =
    let left = c.split_at.result.1.now in
    let more = c.in-Body.more in
    rw (err_from_is_err_and c.from_residual-in_err-put_body-in-Body.result c.from_residual-in_err-put_body-in-Body.ensures.1).1 (cuts _ _ _ left c.steps.used more _ _ _ _ c.steps.block c.steps.invariant.walked c.split_at.ensures.back c.steps.invariant.text (λ front p.
    let s = c.in-Body.ensures.step front p.read in
    let body = rw c.split_at-in-Body.ensures.front at (c.in_err-put_body-in-Body.ensures.short (kind_with (code_in s.2.tag)) s.2.part (p.body s.2.items s.2.tag s.2.part s.2.before_are)) in
    (_, text-body front left body.more more c.in-Body.last c.feed.new.self s (omega (arith, p.taken, front-size front left more s.0.0, c.in-Body.ensures.room.1, c.in-Body.ensures.limit)) body.adds, WroteShort-body _ _ c.steps.block body.more (end_line c.in-Body.last) body.cut)))

pub returns-in_err-put_end-in-Body-clause-short : goal.returns-in_err-put_end-in-Body-clause-short
returns-in_err-put_end-in-Body-clause-short g c =
    let left = c.split_at.result.1.now in
    let more = c.in-Body.more in
    rw (err_from_is_err_and c.from_residual-in_err-put_end-in-Body.result c.from_residual-in_err-put_end-in-Body.ensures.1).1 (cuts _ _ _ left c.steps.used more _ _ _ _ c.steps.block c.steps.invariant.walked c.split_at.ensures.back c.steps.invariant.text (λ front p.
    let s = c.in-Body.ensures.step front p.read in
    let body = rw c.split_at-in-Body.ensures.front at (c.in_ok-put_body-in-Body.ensures.all (kind_with (code_in s.2.tag)) s.2.part (p.body s.2.items s.2.tag s.2.part s.2.before_are)) in
    (_, text-body front left body.more more c.in-Body.last c.feed.new.self s (omega (arith, p.taken, front-size front left more s.0.0, c.in-Body.ensures.room.1, c.in-Body.ensures.limit)) body.adds, WroteShort-end _ _ _ c.steps.block body.more (end_line c.in-Body.last) c.put_body.new.block body.put c.in_err-put_end-in-Body.ensures.short)))

pub steps-preserved : goal.steps-preserved
steps-preserved g c =
    let left = c.split_at.result.1.now in
    let more = c.in-Body.more in
    let new = printer c.feed.new.self c.put_body.new.text in
    let goes : (front : List ℕ) → Prints c.steps.self front → TakesPart new left more (g.O.Sink.state c.steps.out) (g.O.Sink.state c.put_end.new.out) c.steps.block c.put_end.new.block front = λ front p.
    let s = c.in-Body.ensures.step front p.read in
    let size = front-size front left more s.0.0 in
    let part = p.body s.2.items s.2.tag s.2.part s.2.before_are in
    let body = rw c.split_at-in-Body.ensures.front at (c.in_ok-put_body-in-Body.ensures.all (kind_with (code_in s.2.tag)) s.2.part part) in (
      body.more ++ end_line c.in-Body.last,
      text-body front left body.more more c.in-Body.last c.feed.new.self s (omega (arith, p.taken, size, c.in-Body.ensures.room.1, c.in-Body.ensures.limit)) body.adds,
      PassesOn-body _ _ _ c.steps.block body.more (end_line c.in-Body.last) c.put_body.new.block c.put_end.new.block body.put c.in_ok-put_end-in-Body.ensures.all,
      Prints-body front left more c.in-Body.last c.feed.new.self c.put_body.new.text s (omega (arith, p.taken, size, c.in-Body.ensures.room.1))
          (rw c.split_at-in-Body.ensures.front at (c.in_ok-put_body-in-Body.ensures.taken (kind_with (code_in s.2.tag)) s.2.part part)),
    ) in
    record {
      walked = Walked-next Prints taken_by _ _ new _ left c.steps.used more c.steps.invariant.walked c.split_at.ensures.back c.in-Body.ensures.room.0 c.in-Body.ensures.room.1 (λ front p. (goes front p).3);
      text = λ bytes h. PutsHeader-next bytes c.args.piece.now left c.steps.used more _ _ _ _ _ _ _ c.split_at.ensures.back (c.steps.invariant.text bytes h) (goes _ (c.steps.invariant.walked.stood bytes h));
      kept = c.in_ok-put_end-in-Body.ensures.all.passed.kept ∙ c.in_ok-put_body-in-Body.ensures.cause.kept ∙ c.steps.invariant.kept;
    }
