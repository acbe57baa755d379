-- One more event, and the counts of an image and the lines after it.
use Rattle.std.proofs.Common.{◌≡◌, ◌∙◌, ℕ, ◌+◌, Bool, false, ◌&&◌, cond, [], ◌∷◌, ◌++◌, ap, arith, Option, ◌≤◌, true, List, sym, subst, refl, if◌then◌else◌}
use Rattle.std.{proofs.{Common.rules, lemmas.List.{append-nil, Elements.filter_map-append}, Math.Path.fun_ext}, specs.List.cons_option}
use Rattle.tally_base.specs.{declared.event.{Event.Event, EventKind.TheVariants.{Photon, Marker}}, Events.is_in, Settings.ImageView, Tally.History}
use Rattle.{tcspc_hist.specs.HistogramCounts.dtime_passes, scan_image.specs.{Places.{mark, Mark, place_of}, declared.lines.Lines.Lines, Lines.Saw}}
use Rattle.scan_image.specs.{ImageCounts.{mark_at, markers, is_met, count_met}, Pushed.count_behind-push, Behind.{IsBehind, HowMany, with_photon}}

pub markers-marker : (h : History) (x : Event × ℕ) (bits : ℕ) → x.0.kind ≡ Marker bits → markers (h ++ x ∷ []) ≡ markers h ++ mark bits x.0.time ∷ []
markers-marker h x bits is = filter_map-append (λ x. mark_at x.0.time x.0.kind) h (x ∷ []) ∙ ap (λ kind. markers h ++ cons_option (mark_at x.0.time kind) []) is

pub markers-photon : (h : History) (x : Event × ℕ) (input dtime : ℕ) → x.0.kind ≡ Photon input dtime → markers (h ++ x ∷ []) ≡ markers h
markers-photon h x input dtime is = search (rules, arith, filter_map-append, append-nil)

added : (n more : ℕ) (group passes test : Bool) → more ≡ cond group 1 0 → passes ≡ test → n + cond (group && passes) 1 0 ≡ n + cond test more 0
added n more group passes test was same = grind arith

-- A photon adds so much where its place and its dtime pass the test: 1 if it is of the group, and else 0.
pub met-photon : (set : ImageView) (test : Option (ℕ × ℕ) → ℕ → Bool) (h : History) (x : Event × ℕ) (place : Option (ℕ × ℕ)) (input dtime more : ℕ) → x.0.kind ≡ Photon input dtime → more ≡ cond (is_in x.1 set.group) 1 0 → place_of set x.0.time (markers h) ≡ place → count_met set test (h ++ x ∷ []) ≡ count_met set test h + cond (test place dtime) more 0
met-photon set test h x place input dtime more kind of_group is =
    let passes : dtime_passes (test (place_of set x.0.time (markers h))) x.0.kind ≡ test place dtime = search (rules, arith) in
    count_behind-push (is_met set test) h x ∙ added (count_met set test h) more (is_in x.1 set.group)
    (dtime_passes (test (place_of set x.0.time (markers h))) x.0.kind) (test place dtime) of_group passes

left : (n : ℕ) (group passes : Bool) → passes ≡ false → n + cond (group && passes) 1 0 ≡ n
left n group passes is = grind arith

-- A marker counts nowhere.
pub met-marker : (set : ImageView) (test : Option (ℕ × ℕ) → ℕ → Bool) (h : History) (x : Event × ℕ) (bits : ℕ)
    → x.0.kind ≡ Marker bits → count_met set test (h ++ x ∷ []) ≡ count_met set test h
met-marker set test h x bits kind =
    let passes : dtime_passes (test (place_of set x.0.time (markers h))) x.0.kind ≡ false =
    ap (λ kind. dtime_passes (test (place_of set x.0.time (markers h))) kind) kind in
    count_behind-push (is_met set test) h x
    ∙ left (count_met set test h) (is_in x.1 set.group) (dtime_passes (test (place_of set x.0.time (markers h))) x.0.kind) passes

pub marker_step : (over : HowMany → Type 0) (set : ImageView) (lines lines' : Lines) (h : History) (x : Event × ℕ) (bits : ℕ) → x.0.kind ≡ Marker bits
    → ((ms : List Mark) → Saw lines ms → Saw lines' (ms ++ mark bits x.0.time ∷ [])) → IsBehind over set lines h → IsBehind over set lines' (h ++ x ∷ [])
marker_step over set lines lines' h x bits kind saw is = record {
  counted = subst over (fun_ext (λ test. sym (met-marker set test h x bits kind))) is.counted;
  saw = subst (λ ms. Saw lines' ms) (sym (markers-marker h x bits kind)) (saw (markers h) is.saw);
}

pub photon_step : (before after : HowMany → Type 0) (set : ImageView) (lines : Lines) (place : Option (ℕ × ℕ)) (h : History) (x : Event × ℕ) (input dtime more : ℕ) → x.0.kind ≡ Photon input dtime → more ≡ cond (is_in x.1 set.group) 1 0
    → ((ms : List Mark) → Saw lines ms → place_of set x.0.time ms ≡ place) → ((many : HowMany) → before many → after (with_photon many place dtime more))
    → IsBehind before set lines h → IsBehind after set lines (h ++ x ∷ [])
photon_step before after set lines place h x input dtime more kind of_group found adds is = record {
  counted = subst after (fun_ext (λ test. sym (met-photon set test h x place input dtime more kind of_group (found (markers h) is.saw))))
      (adds (λ test. count_met set test h) is.counted);
  saw = subst (λ ms. Saw lines ms) (sym (markers-photon h x input dtime kind)) is.saw;
}

pub only_group : (a b : Bool) → b ≡ true → ◌≡◌ {A = ℕ} (if a && b then 1 else 0) (cond a 1 0)
only_group true b is = ap (λ b. if b then 1 else 0) is
only_group false b is = refl

pub few_more : (a : Bool) → cond a 1 0 ≤ 1
few_more a = search (rules, arith)
