use Rattle.{std.proofs.{Common.arith, lemmas.List.{length-append, Elements.recursion_from_All}}, minimal_file.specs.ShortFiles.{bytes_in, short_header}}
use Rattle.minimal_file.{specs.ShortFiles.minimal_file, proofs.ShortHeaders.{short-answer, size, IsWord, words_of-bytes_in, rest_of-bytes_in, length-bytes_in}}
use Rattle.minimal_file.proofs.laws.a_short_file_is_read.Goals as goal

pub returns : goal.returns
unfolding minimal_file
returns c = record {
  header = λ mode words. short-answer mode (bytes_in words);
  words = λ words small. words_of-bytes_in words (recursion_from_All IsWord words small);
  rest = rest_of-bytes_in;
  size = λ mode words.
      omega (arith, length-append (short_header mode) (bytes_in words), size mode, length-bytes_in words);
}
