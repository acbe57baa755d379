use Rattle.ptu_definitions.proofs.Nests.{header-ends}
use Rattle.ptu_definitions.proofs.laws.a_header_ends.Goals as goal

pub returns : goal.returns
returns c = λ file items front h o.
    let ends = header-ends file h.start front.start h.inner front.items h.last h.header front.bytes h.rest o.rest h.is_header o.is_front h.bytes_are o.parts in
    record { same_start = ends.0; more = ends.1.0; goes_on = ends.1.1 }
