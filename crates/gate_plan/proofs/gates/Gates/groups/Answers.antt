use Rattle.{std.proofs.Common.{◌-◌, ◌∙◌, sym, map}, gate_plan.{specs.{Shifting.shifted, Taking.takes, Groups.sorting_of}, proofs.Parts.{bit_is, of_shifted}}}
use Rattle.gate_plan.proofs.Parts.{of_shifted_marker}
use Rattle.gate_plan.proofs.gates.Gates.groups.Goals as goal

pub returns-in-Photon-clause-number : goal.returns-in-Photon-clause-number
returns-in-Photon-clause-number c = cc (of_shifted (sorting_of c.args.self.now) c.args.e.now c.in-Photon.input c.in-Photon.dtime c.in-Photon.is)

pub returns-in-Marker-clause-number : goal.returns-in-Marker-clause-number
returns-in-Marker-clause-number c = sym (of_shifted_marker (sorting_of c.args.self.now) c.args.e.now c.in-Marker.bits c.in-Marker.is)

pub returns-in-Photon-clause-each : goal.returns-in-Photon-clause-each
returns-in-Photon-clause-each c g some =
    let number = (rw c.shifted_dtime.ensures at c.of_photon.ensures)
    ∙ sym (of_shifted (sorting_of c.args.self.now) c.args.e.now c.in-Photon.input c.in-Photon.dtime c.in-Photon.is) in
    rw number (bit_is (map (λ group. takes group (shifted (sorting_of c.args.self.now) c.args.e.now)) (sorting_of c.args.self.now).groups) (g - 1))

pub returns-in-Marker-clause-each : goal.returns-in-Marker-clause-each
returns-in-Marker-clause-each c g some = rw (sym (of_shifted_marker (sorting_of c.args.self.now) c.args.e.now c.in-Marker.bits c.in-Marker.is)) (bit_is (map (λ group. takes group (shifted (sorting_of c.args.self.now) c.args.e.now)) (sorting_of c.args.self.now).groups) (g - 1))
