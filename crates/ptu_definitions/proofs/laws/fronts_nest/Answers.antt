use Rattle.ptu_definitions.proofs.Nests.{fronts-nest}
use Rattle.ptu_definitions.proofs.laws.fronts_nest.Goals as goal

pub returns : goal.returns
returns c = λ file one other h o.
    let nest = fronts-nest file one.start other.start one.items other.items one.bytes other.bytes h.rest o.rest h.is_front o.is_front h.parts o.parts in
    record { same_start = nest.0; goes_on = nest.1 }
