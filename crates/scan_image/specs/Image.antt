-- What an image stands for, and what holds of every image.
use Rattle.std.{specs.Prelude.{◌≡◌, true, length, ℕ, ◌≤◌, ◌+◌, Bool, false, [], ◌∷◌, ◌++◌, Option}, proofs.{Common.{rules, ◌∙◌, sym, ap, subst, cond}, Math.Path.fun_ext}}
use Rattle.std.proofs.lemmas.List.Elements.{filter_map-append}
use Rattle.tally_base.specs.{declared.{settings.ImageSet.ImageSet, event.Event.Event}, Settings.{PartSettings, image_view, ImageView, entries, PartSettings.ImageSettings}, Tally.History}
use Rattle.{tally_base.{specs.{Tally.greatest_time, Events.{is_photon, is_in}}, proofs.Sorted.{same_length, same_greatest}}, tcspc_hist.specs.Hist.no_dtime}
use Rattle.scan_image.specs.{declared.{lines.Lines.Lines, image.Image.Image}, Lines.Saw, Places.place_of, Behind.{Counted, IsBehind, HowMany}, ImageCounts.{mark_at, markers, count_behind, is_met}}
use Rattle.scan_image.specs.{ImageCounts.count_met, Pushed.count_behind-push}

-- what it was opened with
abbrev pub set_of : Image → ImageSet
set_of t = t.set

abbrev pub settings : Image → PartSettings
settings t = ImageSettings (image_view t.set)

-- Each cell is the count over the events.
pub record Holds (t : Image) (h : History) : Type 0 where
  pub counts : IsBehind (Counted (image_view t.set) t.counts.cells.items t.counts.outside) (image_view t.set) t.lines h
  pub taken : t.taken ≡ length h
  pub floor : t.floor ≡ greatest_time true h

pub within_bound : (t : Image) → length t.counts.cells.items + 4 ≤ entries (settings t)
within_bound t = search rules

same_markers : (h : History) (e : Event) (groups : ℕ) → markers (h ++ (e, 0) ∷ []) ≡ markers (h ++ (e, groups) ∷ [])
same_markers h e groups = filter_map-append (λ x. mark_at x.0.time x.0.kind) h ((e, 0) ∷ []) ∙ sym (filter_map-append (λ x. mark_at x.0.time x.0.kind) h ((e, groups) ∷ []))

same_met : (set : ImageView) (test : Option (ℕ × ℕ) → ℕ → Bool) (h : History) (e : Event) (groups : ℕ) → is_photon e ≡ false → count_met set test (h ++ (e, 0) ∷ []) ≡ count_met set test (h ++ (e, groups) ∷ [])
same_met set test h e groups marker =
    let none : (groups : ℕ) → is_met set test h (e, groups) ≡ false = λ groups. no_dtime (is_in groups set.group) (test (place_of set e.time (markers h))) e.kind marker in
    count_behind-push (is_met set test) h (e, 0) ∙ (ap (λ b. count_behind (is_met set test) h + cond b 1 0) (none 0 ∙ sym (none groups)) ∙ sym (count_behind-push (is_met set test) h (e, groups)))

-- The groups that come with a marker count for nothing.
pub behind_marker : (over : HowMany → Type 0) (set : ImageView) (lines : Lines) (h : History) (e : Event) (groups : ℕ) → is_photon e ≡ false → IsBehind over set lines (h ++ (e, 0) ∷ []) → IsBehind over set lines (h ++ (e, groups) ∷ [])
behind_marker over set lines h e groups marker is = record {
  counted = subst over (fun_ext (λ test. same_met set test h e groups marker)) is.counted;
  saw = subst (λ ms. Saw lines ms) (same_markers h e groups) is.saw;
}

pub marker_groups : (t : Image) (h : History) (e : Event) (groups : ℕ) → is_photon e ≡ false → Holds t (h ++ (e, 0) ∷ []) → Holds t (h ++ (e, groups) ∷ [])
marker_groups t h e groups marker is = record {
  counts = behind_marker _ _ _ h e groups marker is.counts;
  taken = is.taken ∙ same_length h e groups;
  floor = is.floor ∙ same_greatest true h e groups;
}
