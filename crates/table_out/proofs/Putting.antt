-- More text is put after a text, whatever the tables stand for.
use Rattle.std.proofs.Common.{◌≡◌, ℕ, zero, suc, ◌+◌, ◌-◌, ◌<◌, List, [], ◌++◌, refl, sym, ap, ◌∙◌, append_assoc, append-nil, arith, ◌≤◌, ◌∷◌, take, drop}
use Rattle.std.proofs.{Common.{get_or, length, subst, take-append-drop, Bool, count_by, cond, fold}, lemmas.List.{take_all, take_more, Elements.All-head}}
use Rattle.{std.proofs.lemmas.List.Elements.All-tail, bench_io.{specs.Sinks.{SinkState, WroteShort, PassesOn}, proofs.Bytes.{WroteShort-same, WroteShort-more}}}
use Rattle.{bench_io.proofs.Bytes.{WroteShort-passed, PassesOn-held, PassesOn-trans}, table_out.specs.{Printed.{texts, texts_of}, Report.{PutsText, CutsText}}}
use Rattle.table_out.specs.Report.{Table, StandsFor, EachHolds, same_kind, part_text, table_text, parts_text, with_events}
use Rattle.{tally_base.specs.{Settings.PartSettings, Tally.History}, ptu_definitions.{specs.Prefixes.each_after, proofs.PrefixLemmas.each-push}}
use Rattle.{ptu_definitions.proofs.PrefixLemmas.each_after-append, tally_engine.specs.{contracts.part.PartTally.TheImpl.ghosts, declared.part.Part.Part}}
use Rattle.tally_engine.specs.Parts.{settings_in, AllHold}

-- the texts of one place more
texts-push : (text : ℕ → List ℕ) (n : ℕ) → texts text (n + 1) ≡ texts text n ++ text n
texts-push text n = let is : n + 1 ≡ suc n = omega arith in rw is refl

-- the texts of more places begin with those of fewer
texts-front : (text : ℕ → List ℕ) (n k m : ℕ) → m ≡ k + n → (rest : List ℕ) × (texts text m ≡ texts text n ++ rest)
texts-front text n zero m e = let same : m ≡ n = omega arith in ([], rw same (sym (append-nil (texts text n))))
texts-front text n (suc k) m e =
    let is : m ≡ suc (k + n) = omega arith in
    let next = text (k + n) in
    let fewer = texts-front text n k (k + n) refl in
    (fewer.0 ++ next, rw is (ap (λ l. l ++ next) fewer.1 ∙ append_assoc (texts text n) fewer.0 next))

module _ {A : Type 0} (holds : A → Type 0) where
  pub puts-none : (a : SinkState) (held : List ℕ) → PutsText holds (λ h. []) a a held held
  puts-none a held h is = rw (append-nil held) (PassesOn-held a held)

  -- a piece is put that is the text
  pub puts-piece : (text : A → List ℕ) (piece : List ℕ) (a b : SinkState) (held now : List ℕ)
      → ((h : A) → holds h → piece ≡ text h) → PassesOn a b (held ++ piece) now → PutsText holds text a b held now
  puts-piece text piece a b held now same put h is = rw (← same h is) put

  pub cuts-piece : (text : A → List ℕ) (piece : List ℕ) (a b : SinkState) (held : List ℕ)
      → ((h : A) → holds h → piece ≡ text h) → WroteShort a b (held ++ piece) → CutsText holds text a b held
  cuts-piece text piece a b held same cut h is = rw (← same h is) cut

  pub puts-more : (text next : A → List ℕ) (a b c : SinkState) (held mid now : List ℕ) → PutsText holds text a b held mid
      → PutsText holds next b c mid now → PutsText holds (λ h. text h ++ next h) a c held now
  puts-more text next a b c held mid now first then' h is =
      rw (← append_assoc held (text h) (next h)) (PassesOn-trans a b c (held ++ text h) mid (next h) now (first h is) (then' h is))

  -- the sink fails after a text
  pub cuts-behind : (text next : A → List ℕ) (a b c : SinkState) (held mid : List ℕ)
      → PutsText holds text a b held mid → CutsText holds next b c mid → CutsText holds (λ h. text h ++ next h) a c held
  cuts-behind text next a b c held mid first then' h is =
      WroteShort-same a c _ _ (append_assoc held (text h) (next h)) (WroteShort-passed a b c (held ++ text h) mid (next h) (first h is) (then' h is))

  -- a text that is cut has more after it
  pub cuts-front : (text whole : A → List ℕ) (a b : SinkState) (held : List ℕ)
      → ((h : A) → (rest : List ℕ) × (whole h ≡ text h ++ rest)) → CutsText holds text a b held → CutsText holds whole a b held
  cuts-front text whole a b held begins cut h is =
      let more = begins h in
      WroteShort-same a b _ _ (append_assoc held (text h) more.0 ∙ ap (λ l. held ++ l) (sym more.1))
      (WroteShort-more a b (held ++ text h) more.0 (cut h is))

  -- the text of one place more is put
  pub puts-next : (text : ℕ → A → List ℕ) (n : ℕ) (a b c : SinkState) (held mid now : List ℕ) → PutsText holds (texts_of text n) a b held mid → PutsText holds (text n) b c mid now → PutsText holds (texts_of text (n + 1)) a c held now
  puts-next text n a b c held mid now so_far next h is =
      rw (texts-push (λ place. text place h) n) (puts-more (texts_of text n) (text n) a b c held mid now so_far next h is)

  -- the sink fails in the text of a place
  pub cuts-next : (text : ℕ → A → List ℕ) (n size : ℕ) (a b c : SinkState) (held mid : List ℕ) → n < size → PutsText holds (texts_of text n) a b held mid → CutsText holds (text n) b c mid → CutsText holds (texts_of text size) a c held
  cuts-next text n size a b c held mid inside so_far cut =
      cuts-front (texts_of text (suc n)) (texts_of text size) a c held
      (λ h. texts-front (λ place. text place h) (suc n) (size - suc n) size (omega (arith, inside)))
      (cuts-behind (texts_of text n) (text n) a b c held mid so_far cut)

-- Tables by their kinds, and one after the other.

-- ## The tables, each with what it stands for

-- tables that all stand for the same events
pub each_holds_all : (parts : List Part) (h : History) → AllHold parts h → EachHolds parts (with_events (settings_in parts) h)
each_holds_all [] h all = tt {0}
each_holds_all (p ∷ parts) h all =
    let holds : Part → Type 0 = λ x. ghosts.holds x h in
    ((refl, All-head holds p parts all), each_holds_all parts h (All-tail holds p parts all))

pub each-length : (parts : List Part) (tables : List Table) → EachHolds parts tables → length tables ≡ length parts
each-length [] [] each = refl
each-length [] (table ∷ tables) each = absurd each
each-length (p ∷ parts) [] each = absurd each
each-length (p ∷ parts) (table ∷ tables) each = let rest = each-length parts tables each.1 in omega arith

-- the tables at one place
each-at : (parts : List Part) (tables : List Table) (n : ℕ) (p : Part) (table : Table)
    → EachHolds parts tables → n < length parts → StandsFor (get_or parts n p) (get_or tables n table)
each-at [] tables n p table each inside = absurd (omega (arith, inside))
each-at (q ∷ parts) [] n p table each inside = absurd each
each-at (q ∷ parts) (x ∷ tables) zero p table each inside = each.0
each-at (q ∷ parts) (x ∷ tables) (suc n) p table each inside = each-at parts tables n p table each.1 (omega (arith, inside))

-- how many of the first tables pass a test of their settings
each-count : (test : PartSettings → Bool) (a : ℕ) (parts : List Part) (tables : List Table) (n : ℕ) → EachHolds parts tables
    → fold (λ k x. k + cond (test x.0) 1 0) a (take n tables) ≡ fold (λ k x. k + cond (test x) 1 0) a (settings_in (take n parts))
each-count test a [] [] zero each = refl
each-count test a [] [] (suc n) each = refl
each-count test a [] (table ∷ tables) n each = absurd each
each-count test a (p ∷ parts) [] n each = absurd each
each-count test a (p ∷ parts) (table ∷ tables) zero each = refl
each-count test a (p ∷ parts) (table ∷ tables) (suc n) each = rw each.0.0 (each-count test (a + cond (test table.0) 1 0) parts tables n each.1)

-- ## Their lines

-- the lines of the first tables
abbrev pub first_texts : ℕ → List Table → List ℕ
first_texts n tables = parts_text (take n tables)

-- the lines of the first tables are those of all, where there are no more
pub first_texts-all : (parts : List Part) (tables : List Table) (n : ℕ) → length parts ≤ n → EachHolds parts tables → first_texts n tables ≡ parts_text tables
first_texts-all parts tables n all each = ap parts_text (take_all n tables (let same = each-length parts tables each in omega (arith, all)))

-- the lines of all tables begin with those of the first
pub first_texts-front : (tables : List Table) (n : ℕ) → (rest : List ℕ) × (parts_text tables ≡ first_texts n tables ++ rest)
first_texts-front tables n =
    let first = take n tables in
    let behind = drop n tables in
    (each_after table_text first behind, ap parts_text (sym (take-append-drop n tables)) ∙ each_after-append table_text [] first behind)

module _ (parts : List Part) (n number : ℕ) (p : Part) (inside : n < length parts) (there : p ≡ get_or parts n p)
    (counted : number ≡ count_by (same_kind (ghosts.settings p)) (settings_in (take n parts)) + 1) where
  -- the table at this place, by its settings and the events that it stands for
  abbrev table_there : List Table → Table
  table_there tables = get_or tables n (ghosts.settings p, [])

  stands : (tables : List Table) → EachHolds parts tables → StandsFor p (table_there tables)
  stands tables each = subst (λ x. StandsFor x (table_there tables)) (sym there) (each-at parts tables n p (ghosts.settings p, []) each inside)

  abbrev text_there : List Table → List ℕ
  text_there tables = part_text number (ghosts.settings p) (table_there tables).1

  more : (tables : List Table) → EachHolds parts tables → first_texts (n + 1) tables ≡ first_texts n tables ++ text_there tables
  more tables each =
      let it = table_there tables in
      let long : n < length tables = let same = each-length parts tables each in omega (arith, inside) in
      let one : take (n + 1) tables ≡ take n tables ++ it ∷ [] = take_more tables n (ghosts.settings p, []) long in
      let settings : it.0 ≡ ghosts.settings p = sym (stands tables each).0 in
      let place : count_by (λ other. same_kind (ghosts.settings p) other.0) (take n tables) + 1 ≡ number =
      ap (λ k. k + 1) (each-count (same_kind (ghosts.settings p)) 0 parts tables n each) ∙ sym counted in
      ap parts_text one ∙ each-push table_text (take n tables) it
      ∙ ap (λ s. first_texts n tables ++ part_text (count_by (λ other. same_kind s other.0) (take n tables) + 1) s it.1) settings
      ∙ ap (λ k. first_texts n tables ++ part_text k (ghosts.settings p) it.1) place

  -- one table more
  pub puts-part : (a b c : SinkState) (held mid now : List ℕ) → PutsText (EachHolds parts) (first_texts n) a b held mid
      → PutsText (ghosts.holds p) (part_text number (ghosts.settings p)) b c mid now → PutsText (EachHolds parts) (first_texts (n + 1)) a c held now
  puts-part a b c held mid now so_far put tables each =
      rw (more tables each) (puts-more (EachHolds parts) (first_texts n) text_there a b c held mid now so_far
      (λ tables each. put (table_there tables).1 (stands tables each).1) tables each)

  -- the sink fails in a table
  pub cuts-part : (a b c : SinkState) (held mid : List ℕ) → PutsText (EachHolds parts) (first_texts n) a b held mid
      → CutsText (ghosts.holds p) (part_text number (ghosts.settings p)) b c mid → CutsText (EachHolds parts) parts_text a c held
  cuts-part a b c held mid so_far cut =
      cuts-front (EachHolds parts) (first_texts (n + 1)) parts_text a c held (λ tables. first_texts-front tables (n + 1))
      (λ tables each. rw (more tables each) (cuts-behind (EachHolds parts) (first_texts n) text_there a b c held mid so_far
      (λ tables each. cut (table_there tables).1 (stands tables each).1) tables each))
