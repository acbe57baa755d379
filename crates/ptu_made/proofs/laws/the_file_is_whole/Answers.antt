use Rattle.{std.proofs.{Common.{arith, rules}, lemmas.List.length-append}, tally_base.specs.declared.header.Mode.TheVariants.T2}
use Rattle.minimal_file.{specs.ShortFiles.{minimal_file, bytes_in}, proofs.ShortHeaders.{short-answer, size, length-bytes_in}}
use Rattle.ptu_made.{specs.{Generator.made_words, Records.made_file}, proofs.MadeEvents.{all-made, words-bytes, few-words}}
use Rattle.ptu_made.proofs.laws.the_file_is_whole.Goals as goal

pub returns : goal.returns
unfolding made_file minimal_file
returns c = record {
  header = λ seed count. short-answer T2 (bytes_in (made_words seed count));
  words = λ seed count. (words-bytes (made_words seed count) (all-made seed count)).0;
  rest = λ seed count. (words-bytes (made_words seed count) (all-made seed count)).1;
  size = search (rules, arith, length-append, size, length-bytes_in);
  few = few-words;
}
