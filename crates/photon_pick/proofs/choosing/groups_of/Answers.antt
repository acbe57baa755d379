use Rattle.{std.proofs.Common.{sym, arith}, gate_plan.{specs.{Groups.sorting_of, Shifting.shifted_dtime}, proofs.Parts.{of_shifted, of_shifted_marker}}}
use Rattle.photon_pick.proofs.choosing.groups_of.Goals as goal

pub returns-in-Photon : goal.returns-in-Photon
returns-in-Photon c =
    let by = sorting_of c.args.gates.now in
    let input = c.in-Photon.input in
    let dtime = c.in-Photon.dtime in
    let none = c.requires c.if-gated.false input (shifted_dtime by input dtime) in
    omega (arith, c.of_input.ensures, of_shifted by c.args.e.now input dtime c.in-Photon.is, none)

pub returns-in-Marker : goal.returns-in-Marker
returns-in-Marker c = sym (of_shifted_marker (sorting_of c.args.gates.now) c.args.e.now c.in-Marker.bits c.in-Marker.is)
