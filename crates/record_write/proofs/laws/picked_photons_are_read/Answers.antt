use Rattle.std.proofs.{Common.{◌≡◌, ◌≤◌, List, false, length, map, None, arith, rules}, lemmas.List.Elements.All-from_recursion}
use Rattle.{tally_base.specs.declared.{event.{Event.Event, Policy.Policy}, header.Mode.Mode}, ptu_definitions.specs.Streams.{reading, record_refusal, given}}
use Rattle.minimal_file.{specs.ShortFiles.{minimal_file, short_type, bytes_in}, proofs.ShortHeaders.{short-answer, words_of-bytes_in}}
use Rattle.record_write.{specs.Picked.{picked_words, picked_events, CanBePicked, IsPhotonOrWrap}, proofs.ReadBack.{small-words, photons-and-wraps, within}}
use Rattle.record_write.proofs.ReadBack.{events-photons, kept-events, unrefused, given-events}
use Rattle.record_write.proofs.laws.picked_photons_are_read.Goals as goal

by_mode : (mode : Mode) (photons : List Event) (policy : Policy) → CanBePicked mode photons → policy.settle ≡ 0
    → length (picked_words mode photons) ≤ policy.records → record_refusal (reading (short_type mode) policy) (picked_words mode photons) ≡ None
by_mode mode photons policy can first room = search (rules, arith, unrefused)

given_by_mode : (mode : Mode) (photons : List Event) (policy : Policy) → CanBePicked mode photons
    → policy.settle ≡ 0 → length (picked_words mode photons) ≤ policy.records
    → given (reading (short_type mode) policy) (picked_words mode photons) ≡ map (λ e. (e, false)) (picked_events mode photons)
given_by_mode mode photons policy can first room = search (rules, arith, given-events)

pub returns : goal.returns
unfolding minimal_file
returns c = record {
  header = λ mode photons. short-answer mode (bytes_in (picked_words mode photons));
  words = λ mode photons can. words_of-bytes_in (picked_words mode photons) (small-words mode photons can);
  records = λ mode photons can. All-from_recursion (IsPhotonOrWrap mode) (picked_words mode photons) (photons-and-wraps mode photons can);
  within = within;
  photons = events-photons;
  in_time = kept-events;
  given = search (rules, arith, unrefused, by_mode, given_by_mode);
}
