use Rattle.std.proofs.Common.{◌++◌, ◌≡◌, ◌∙◌, ◌%◌, true, List, cond, sym, ap, subst, rules, arith, append_assoc, nat_lt, if◌then◌else◌}
use Rattle.{std.proofs.lemmas.Bool.Decides.nat_tests, tally_base.specs.{declared.event.EventKind.TheVariants.{Photon, Marker}, Events.is_in}}
use Rattle.tally_base.{specs.{Settings.image_view, Columns.{item, rows, code_at, dtime_at, groups_at, time_at}}, proofs.BlockRows.more_rows}
use Rattle.scan_image.specs.{declared.lines.Lines.Lines, Lines.{Saw, image_of}, Places.{Mark, place_of}, Behind.{IsBehind, IsStripOf, HowMany, with_photon}}
use Rattle.scan_image.proofs.Counts.{photon_step, only_group, few_more}
use Rattle.scan_image.proofs.count.count_on.Goals as goal

pub place-place-requires : goal.place-place-requires
place-place-requires g c = omega arith

pub loop-at-preserved : goal.loop-at-preserved
loop-at-preserved g c =
    let p = g.P.Pixels in
    let inv = c.loop-at.invariant in
    let b = c.args.block.now in
    let set = image_view (p.image c.args.pixels.now) in
    let at = c.loop-at.at in
    let code = code_at b at in
    let photon : nat_lt code 256 ≡ true = grind (arith, nat_tests, c.code.ensures) in
    let kind : (item b at).0.kind ≡ Photon code (dtime_at b at) = ap (λ t. if t then Photon code (dtime_at b at) else Marker (code % 256)) photon in
    let more = c.photons_in-more.result in
    let of_group : more ≡ cond (is_in (groups_at b at) set.group) 1 0 = search (rules, arith, only_group) in
    let place = c.place-place.result in
    let found : (lines : Lines) → IsStripOf lines c.args.strip.now → image_of lines ≡ set → (ms : List Mark) → Saw lines ms → place_of set (time_at b at) ms ≡ place = λ lines strip of_set ms saw. sym (ap (λ image. place_of image (time_at b at) ms) of_set) ∙ (sym (strip ms saw (time_at b at)) ∙ sym (rw c.time.ensures at c.place-place.ensures.value)) in
    let before = p.over c.args.pixels.now c.loop-at.counts in
    let after = p.over c.args.pixels.now c.add.new.counts in
    let adds : (many : HowMany) → before many → after (with_photon many place (dtime_at b at) more) = rw c.dtime.ensures at c.add.ensures.follows in
    record {
      counted = λ lines strip of_set h is. rw (more_rows (item b) at, ← append_assoc) (photon_step before after set lines place (h ++ rows (item b) at) (item b at) code (dtime_at b at) more kind of_group (found lines strip of_set) adds (inv.counted lines strip of_set h is));
      fit = c.add.ensures.fit;
      few = omega (arith, c.add.ensures.total, inv.few, few_more (is_in (groups_at b at) set.group), of_group);
    }

pub returns-clause-follows : goal.returns-clause-follows
returns-clause-follows g c = λ lines strip of_set h is.
    let p = g.P.Pixels in
    let b = c.args.block.now in
    let len : c.min-len.result ≡ b.len = search (rules, arith) in
    let end : c.loop-at.at ≡ c.min-len.result = omega (arith, len, c.requires.places.1, c.loop-at-test.false, c.loop-at.auto.at-end) in
    subst (λ n. IsBehind (p.over c.args.pixels.now c.loop-at.counts) (image_view (p.image c.args.pixels.now)) lines (h ++ rows (item b) n)) end
    (c.loop-at.invariant.counted lines strip of_set h is)
