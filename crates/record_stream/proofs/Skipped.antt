-- Runs of reserved words.
use Rattle.std.proofs.Common.{rules, arith, ◌≡◌, ◌+◌, ◌<◌, ◌≤◌, ◌&&◌, ℕ, zero, suc, Bool, true, false, List, [], ◌∷◌, ◌++◌, Ok, cond, length, map, get_or, take}
use Rattle.std.proofs.Common.{drop, replicate, take-append-drop, count_by, refl, sym, ap, subst, ◌∙◌, add-zero, append-nil, append_assoc}
use Rattle.std.proofs.lemmas.{Grind.common_steps, Bool.Decides.nat_tests, List.{Sums.sum_by-cons, take_all, take-take, length-take-le, length-drop, length-map}}
use Rattle.{std.{proofs.lemmas.List.{get_or-take, get_or-drop}, specs.Int.{from_le_bytes, w32}}, tally_base.specs.{Events.stops_reserved, Limits.wrap_limit}}
use Rattle.{tally_base.specs.declared.header.Mode.Mode, ptu_definitions.specs.{declared.records.Raw.{Raw, TheVariants.Reserved}, Kinds.is_reserved}}
use Rattle.ptu_definitions.specs.{Kinds.counts_of, Settled.delivered, Streams.{StreamSettings, events_in}, Times.events, Words.numbers}
use Rattle.{record_layout.specs.{declared.row.Row.Row, Rowed.raw_of}, abs_time.specs.{declared.clock.Clock.Clock, Placing.{IsClock, LeadsOn, placed_by}}}
use Rattle.{abs_time.{specs.Placing.{base_of, greatest_by}, proofs.ClockLemmas.IsClock-reserved}, lane_decode.specs.declared.columns.Columns.Columns}
use Rattle.{lane_decode.specs.InColumns.row_at, settle.specs.declared.settle.Settle.Settle, record_stream.specs.declared.taker.EventTaker.Ghosts}
use Rattle.record_stream.specs.{declared.walk.Walk.Walk, Blocks.{Adds, on_time}, Feeding.Delivers, Keeping.{Came, IsKeeping, StandsAt}, Runs.EndsReserved}
use Rattle.record_stream.specs.{Runs.{IsBlock, LetsSkip, Skips, reserved_kinds}, Settling.{HasTaken, Walks, floor_in}, Walking.{how_of, given_by, greatest_of}}
use Rattle.record_stream.{specs.Walking.{records_of, clock_in, summary_in}, proofs.{Feeds.{delivers-both, walks-then}, Settles.kept_on, Steps.adds-push}}
use Rattle.record_stream.proofs.{Steps.{block_at, block_fed}, Wraps.{numbers-more, both-numbers}}

raw-reserved : (unit : ℕ) (row : Row) → 512 < row.code → raw_of unit row ≡ Reserved
raw-reserved unit row high = grind (arith, common_steps, nat_tests, high)

-- reserved records lead a clock on
pub clock-reserved : (mode : Mode) (n base top many : ℕ) (records : List Raw) → IsClock mode n base top records
    → IsClock mode (n + many) base top (records ++ replicate many Reserved)
clock-reserved mode n base top zero records h = rw (append-nil records, add-zero n) h
clock-reserved mode n base top (suc many) records h =
    let count : n + 1 + many ≡ n + suc many = omega arith in
    subst (λ l. IsClock mode (n + suc many) base top l) (append_assoc records (Reserved ∷ []) (replicate many Reserved))
    (subst (λ k. IsClock mode k base top ((records ++ Reserved ∷ []) ++ replicate many Reserved)) count
    (clock-reserved mode (n + 1) base top many (records ++ Reserved ∷ []) (IsClock-reserved mode n base top records h)))

pub leads-reserved : (clock : Clock) (many : ℕ) → LeadsOn clock (placed_by clock + many) (base_of clock) (greatest_by clock) (replicate many Reserved)
leads-reserved clock many = λ records h. clock-reserved _ _ _ _ many records h

-- Words of which each is reserved.
module _ (how : StreamSettings) where
  abbrev word : List (List ℕ) → ℕ → ℕ
  word words i = from_le_bytes w32 (get_or words i [])

  count-same : (p : Raw → Bool) (words : List (List ℕ)) → ((i : ℕ) → i < length words → how.meaning (word words i) ≡ Reserved)
      → count_by p (map how.meaning (numbers words)) ≡ cond (p Reserved) (length words) 0
  count-same p [] each = search (rules, arith)
  count-same p (bytes ∷ words) each =
      let first : how.meaning (from_le_bytes w32 bytes) ≡ Reserved = each 0 (omega arith) in
      let rest = count-same p words (λ i lt. each (suc i) (omega (arith, lt))) in
      sum_by-cons (λ (r : Raw). cond (p r) 1 0) (how.meaning (from_le_bytes w32 bytes)) (map how.meaning (numbers words)) ∙ rw (first, rest) (one-more (p Reserved) (length words))
    where
      one-more : (b : Bool) (n : ℕ) → cond b 1 0 + cond b n 0 ≡ cond b (suc n) 0
      one-more true n = omega arith
      one-more false n = refl

  module _ (words : List (List ℕ)) (each : (i : ℕ) → i < length words → how.meaning (word words i) ≡ Reserved) where
    kinds-reserved : reserved_kinds (length words) ≡ counts_of (map how.meaning (numbers words))
    kinds-reserved = search (rules, arith, count-same, length-map)

    -- they add no event
    adds-upto : (n base top d : ℕ) (before : List ℕ) → d ≤ length words → n + length words ≤ how.policy.records → base ≤ wrap_limit → stops_reserved how.policy.reserved ≡ false
        → Adds how n base top before before [] → Adds how (n + d) base top before (before ++ numbers (take d words)) []
    adds-upto n base top zero before le room few go a = rw (append-nil before, add-zero n) a
    adds-upto n base top (suc d) before le room few go a =
        let lt : d < length words = omega (arith, le) in
        let w = word words d in
        let so_far = adds-upto n base top d before (omega (arith, le)) room few go a in
        let unless : (is_reserved Reserved && stops_reserved how.policy.reserved) ≡ false = go in
        let pushed = adds-push how (n + d) base top before (before ++ numbers (take d words)) w [] so_far (omega (arith, room, le)) Reserved (sym (each d lt)) unless (omega (arith, few)) tt in
        let one : Adds how (n + d + 1) base top before ((before ++ numbers (take d words)) ++ w ∷ []) [] =
        subst (λ b. Adds how (n + d + 1) b top before ((before ++ numbers (take d words)) ++ w ∷ []) []) (add-zero base) pushed in
        let next : d + 1 ≡ suc d = omega arith in
        let count : n + d + 1 ≡ n + suc d = omega arith in
        let list : (before ++ numbers (take d words)) ++ w ∷ [] ≡ before ++ numbers (take (suc d) words) =
        append_assoc before (numbers (take d words)) (w ∷ []) ∙ ap (λ l. before ++ l) (sym (numbers-more words d [] lt)) ∙ ap (λ k. before ++ numbers (take k words)) next in
        subst (λ l. Adds how (n + suc d) base top before l []) list
        (subst (λ k. Adds how k base top before ((before ++ numbers (take d words)) ++ w ∷ []) []) count one)

-- what can be skipped after some records more
pub lets-on : {old new : Walk} {n m : ℕ} (more : ℕ) → how_of new ≡ how_of old → records_of new ≡ records_of old + more → more + m ≤ n → LetsSkip old n → LetsSkip new m
lets-on {old} {new} {m = m} more same counted few lets = search (rules, arith)

module _ {T : Type 0} (g : Ghosts T) {old new : Walk} (settle : Settle) (t : T) where
  -- The words that are skipped deliver nothing.
  skip-delivers : (words : List (List ℕ)) → Skips old new (length words) → LetsSkip old (length words)
      → ((i : ℕ) → i < length words → (how_of old).meaning (from_le_bytes w32 (get_or words i [])) ≡ Reserved)
      → Delivers g {X = Unit {0}} (how_of old) (HasTaken old settle) (HasTaken new settle) t t (numbers words) (Ok tt)
  skip-delivers words skips lets each = delivers-both g (λ before h.
      let how = how_of old in
      let clock = clock_in old in
      let none : Adds how (placed_by clock) (base_of clock) (greatest_of old) before before [] =
      record { clear = h.at.clear; clock = subst (λ m. IsClock m (placed_by clock) (base_of clock) (greatest_of old) (map how.meaning before)) old.same_mode h.at.placed; came = sym (append-nil _); delivers = λ _. sym (append-nil _) } in
      let room : placed_by clock + length words ≤ how.policy.records = omega (arith, lets.room, old.few_placed) in
      let upto = adds-upto how words each (placed_by clock) (base_of clock) (greatest_of old) (length words) before (omega arith) room clock.within lets.skips none in
      let adds : Adds how (placed_by clock + length words) (base_of clock) (greatest_of old) before (before ++ numbers words) [] =
      subst (λ l. Adds how (placed_by clock + length words) (base_of clock) (greatest_of old) before (before ++ numbers l) []) (take_all (length words) words (omega arith)) upto in
      let came : events (map how.meaning before) ≡ events (map how.meaning (before ++ numbers words)) = sym (adds.came ∙ append-nil _) in
      let plain : events_in how (before ++ numbers words) ≡ events_in how before ++ on_time [] =
      ap (delivered how.policy.settle how.mode) (sym came) ∙ sym (append-nil _) in (
        subst (λ x. StandsAt x (clock_in new) (summary_in new) (given_by new) settle (before ++ numbers words)) (sym skips.same_how) (record {
          at = block_at (numbers words) [] h.at adds plain (new.same_mode ∙ ap (λ (x : StreamSettings). x.mode) skips.same_how) skips.placed skips.same_base skips.same_greatest
              skips.summary (kinds-reserved how words each) (omega (arith, skips.same_given));
          settles = λ some. subst (λ es. Came how settle es (delivered how.policy.settle how.mode es)) came (h.settles some);
        }),
        block_fed [] h.at.clear adds plain g (λ start l got. rw append-nil got) refl,
      ))

  floor-kept : {many : ℕ} → Skips old new many → floor_in new settle ≡ floor_in old settle
  floor-kept skips = search (rules, arith)

  pub records-skip : {many : ℕ} → Skips old new many → records_of new ≡ records_of old + many
  records-skip skips = ap (λ s. s.records) skips.summary

  keeping-skip : {many : ℕ} → Skips old new many → IsKeeping old settle → IsKeeping new settle
  keeping-skip skips keeps = search (rules, arith, kept_on)

  -- Words up to a place, and those that are skipped after them.
  pub walks-skip : {begun : Settle} {first : Walk} {start : T} {meaning : ℕ → Raw} {unit : ℕ} {columns : Columns} {words : List (List ℕ)} (from to many : ℕ) → from + many ≡ to
      → Walks g {X = Unit {0}} first old begun settle start t (numbers (take from words)) (Ok tt) → meaning ≡ (how_of old).meaning
      → IsBlock meaning unit columns words → EndsReserved columns from to → LetsSkip old many → Skips old new many
      → g.same t t → ((a b c : T) → g.same a b → g.same b c → g.same a c)
      → Walks g {X = Unit {0}} first new begun settle start t (numbers (take to words)) (Ok tt)
  walks-skip {meaning = meaning} {unit = unit} {columns = columns} {words = words} from to many sum walks means block ends lets skips same more =
      let run = drop from (take to words) in
      let inside : to ≤ length words = omega (arith, block.whole, ends.inside) in
      let count : length run ≡ many = omega (arith, length-drop from (take to words), length-take-le to words inside, sum) in
      let each : (i : ℕ) → i < length run → (how_of old).meaning (from_le_bytes w32 (get_or run i [])) ≡ Reserved = λ i lt.
      let below : from + i < to = omega (arith, lt, count, sum) in
      let at : get_or run i [] ≡ get_or words (from + i) [] = get_or-drop from (take to words) i [] ∙ get_or-take to words (from + i) [] below in
      let w = from_le_bytes w32 (get_or words (from + i) []) in
      rw at (ap (λ m. m w) (sym means) ∙ sym (block.rows (from + i) (omega (arith, below, inside))).raw
      ∙ raw-reserved unit (row_at columns (from + i)) (ends.reserved (from + i) (omega arith) below)) in
      let parts : numbers (take to words) ≡ numbers (take from words) ++ numbers run =
      both-numbers (take to words) (take from words) run (sym (take-append-drop from (take to words)) ∙ ap (λ l. l ++ run) (take-take from to words (omega (arith, sum)))) in
      let follows = walks.goes_on.follows in
      walks-then g (numbers (take to words)) more parts walks (record {
        delivers = skip-delivers run (rw count skips) (rw count lets) each;
        goes_on = record {
          follows = record {
            mode_is = follows.mode_is ∙ ap (λ (x : StreamSettings). x.mode) (sym walks.stays.stays.same_how);
            few = omega (arith, follows.few, skips.same_given);
            before = omega (arith, follows.before, floor-kept skips);
          };
          counted = omega (arith, records-skip skips, length-map run (from_le_bytes w32), count);
        };
        stays = record { stays = record { same_how = skips.same_how; later = omega arith; same = same }; keeps = keeping-skip skips walks.stays.keeps };
      })
