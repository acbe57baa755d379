use Rattle.{std.proofs.Common.{◌≡◌, ◌≤◌, ◌+◌, ◌-◌, ◌++◌, true}, tally_base.specs.{Settings.image_view, Tally.{History, floor_after}, Columns.{count, item}}}
use Rattle.{tally_base.specs.Columns.{event_at, rows}, scan_image.specs.{Lines.{image_of, markers_given, line_start}, Behind.IsBehind}}
use Rattle.scan_image.proofs.count.count_block.Given as goal

abbrev pub invariant-runs : goal.invariant-runs
invariant-runs g l =
    let p = g.P.Pixels in
    let set = image_view (p.image l.pixels) in
    record {
      counted : (h : History) → IsBehind (p.over l.pixels l.fn.counts) set l.fn.lines h
          → IsBehind (p.over l.pixels l.counts) set l.lines (h ++ rows (item l.block) l.from);
      within : l.from ≤ count l.block;
      fit : p.fits l.pixels l.counts;
      few : p.total l.counts ≤ p.total l.fn.counts + l.from;
      of_set : image_of l.lines ≡ set;
      few_markers : markers_given l.lines ≤ markers_given l.fn.lines + l.from;
      before : line_start l.lines ≤ floor_after true (line_start l.fn.lines) (rows (event_at l.block) l.from);
    }

abbrev pub decreases-runs : goal.decreases-runs
decreases-runs g l = count l.block - l.from
