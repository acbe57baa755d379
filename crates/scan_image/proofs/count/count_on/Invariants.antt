use Rattle.{std.proofs.Common.{◌≡◌, ◌≤◌, ◌+◌}, tally_base.specs.Settings.image_view, scan_image.specs.{declared.lines.Lines.Lines, Lines.image_of}}
use Rattle.scan_image.specs.Behind.{CountsOn, IsStripOf}
use Rattle.scan_image.proofs.count.count_on.Given as goal

abbrev pub invariant-loop-at : goal.invariant-loop-at
invariant-loop-at g l =
    let p = g.P.Pixels in
    let set = image_view (p.image l.pixels) in
    record {
      counted : (lines : Lines) → IsStripOf lines l.strip → image_of lines ≡ set
          → CountsOn (p.over l.pixels l.fn.counts) (p.over l.pixels l.counts) set lines l.block l.from l.at;
      fit : p.fits l.pixels l.counts;
      few : p.total l.counts + l.from ≤ p.total l.fn.counts + l.at;
    }
