use Rattle.ptu_made.{specs.Generator.made_words, proofs.MadeEvents.{all-made, all_means, made-events, wraps-le}}
use Rattle.ptu_made.proofs.laws.the_words_are_photons.Goals as goal

pub returns : goal.returns
returns c = record {
  words = λ seed count k d within. (all_means (made_words seed count) (all-made seed count) k d within).means;
  events = made-events;
  wraps = wraps-le;
}
