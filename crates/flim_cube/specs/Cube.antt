-- The counts of a cube, what it stands for, and what holds of every cube.
use Rattle.std.{specs.Prelude.{◌≡◌, ℕ, ◌+◌, ◌*◌, ◌/◌, ◌<◌, List, is_none, slice_index, true, length, ◌≤◌, false, [], ◌∷◌, ◌++◌}, proofs.Common.{rules, ◌∙◌}}
use Rattle.tally_base.specs.{Settings.{CubeView, PartSettings, image_view, cube_view, entries, PartSettings.CubeSettings}, declared.{settings.CubeSet.CubeSet, event.Event.Event}, Tally.History}
use Rattle.{tally_base.{specs.{Tally.greatest_time, Events.is_photon}, proofs.Sorted.{same_length, same_greatest}}, scan_image.specs.{Behind.{HowMany, IsBehind}, Image.behind_marker}}
use Rattle.flim_cube.specs.{CubeCounts.{is_in_cell, is_over}, declared.cube.FlimCube.FlimCube, Cells.{counts_of, entries_of, few_entries}}

-- Each of these cells says how many have their place and their bin there.
pub record Counted (set : CubeView) (cells : List ℕ) (outside over : ℕ) (many : HowMany) : Type 0 where
  pub each : (x y b : ℕ) → x < set.image.width → y < set.image.height → b < set.dbins → slice_index cells ((y * set.image.width + x) * set.dbins + b) ≡ many (λ place dtime. is_in_cell x y b place (dtime / set.dwidth))
  pub without : outside ≡ many (λ place dtime. is_none place)
  pub behind : over ≡ many (λ place dtime. is_over set.dbins place (dtime / set.dwidth))

-- what it was opened with
abbrev pub set_of : FlimCube → CubeSet
set_of t = t.bins.set

abbrev pub settings : FlimCube → PartSettings
settings t = CubeSettings (cube_view t.bins.set)

-- Each cell is the count over the events.
pub record Holds (t : FlimCube) (h : History) : Type 0 where
  pub counts : IsBehind (Counted (cube_view t.bins.set) (counts_of t.counts.cells) t.counts.outside t.counts.over) (image_view t.bins.set.image) t.lines h
  pub taken : t.taken ≡ length h
  pub floor : t.floor ≡ greatest_time true h

pub within_bound : (t : FlimCube) → entries_of t.counts.cells + 5 ≤ entries (settings t)
within_bound t = search (rules, few_entries t.counts.cells)

pub marker_groups : (t : FlimCube) (h : History) (e : Event) (groups : ℕ) → is_photon e ≡ false → Holds t (h ++ (e, 0) ∷ []) → Holds t (h ++ (e, groups) ∷ [])
marker_groups t h e groups marker is = record {
  counts = behind_marker _ _ _ h e groups marker is.counts;
  taken = is.taken ∙ same_length h e groups;
  floor = is.floor ∙ same_greatest true h e groups;
}
