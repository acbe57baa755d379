use Rattle.std.proofs.{Common.{◌≡◌, ◌∙◌, ℕ, ◌+◌, ◌*◌, ◌<◌, length, slice_index, ap, sym, rules, arith, ◌≢◌}, lemmas.Nat.{mul-le, same_from_place}}
use Rattle.{tally_base.proofs.Sums.whole_slice, flim_cube.{specs.{Bytes.{byte_in, length_counts}, Cells.counts_of}, proofs.Bytes.{get_counts, low_byte}}}
use Rattle.flim_cube.proofs.Bytes.{count_more, count_same, counts_set, first_row, row_behind, first_placed}
use Rattle.flim_cube.proofs.spread.Cells.add.Goals as goal

pub byte-requires : goal.byte-requires
byte-requires c =
    let s = c.args.self.now in
    record {
      inside = rw c.deref.ensures.value
          (first_placed s.size s.wide c.args.at (length s.bytes.items) s.there s.some.0 (omega (arith, c.requires.inside, length_counts s.bytes.items s.size)));
    }

pub overflow_add-low : goal.overflow_add-low
overflow_add-low c =
    let s = c.args.self.now in
    let at = c.args.at in
    let inside : at < s.size = omega (arith, c.requires.inside, length_counts s.bytes.items s.size) in
    let low : c.from.result ≡ byte_in s.bytes.items at = c.from.ensures ∙ c.byte.ensures ∙ ap (λ bytes. byte_in bytes at) c.deref.ensures.value in
    omega (arith, c.requires.fits, low, low_byte s.bytes.items s.size at, get_counts s.bytes.items s.size at inside)

pub put_byte-requires : goal.put_byte-requires
put_byte-requires c =
    let s = c.args.self.now in
    record {
      inside = rw c.deref_mut.ensures.value
          (first_placed s.size s.wide c.args.at (length s.bytes.items) s.there s.some.0 (omega (arith, c.requires.inside, length_counts s.bytes.items s.size)));
    }

pub invariant_of-self : goal.invariant_of-self
invariant_of-self c =
    let s = c.args.self.now in
    let at = c.args.at in
    let inside : at < s.size = omega (arith, c.requires.inside, length_counts s.bytes.items s.size) in
    let new = c.put_byte.new.bytes in
    let count : length new ≡ length s.bytes.items = search rules in
    let all : s.bytes.len ≡ length s.bytes.items = search rules in
    let put = rw c.deref_mut.ensures.value at c.put_byte.ensures in
    record {
      few = s.few;
      some = s.some;
      there = rw (whole_slice new s.bytes.items s.bytes.len count all) (count ∙ s.there);
      room = s.room;
      zeros = λ place le. rw (whole_slice new s.bytes.items s.bytes.len count all)
          (put.others place (λ one. omega (arith, one, le, mul-le 1 s.size s.wide s.size s.some.0 (omega arith), inside)) ∙ s.zeros place le);
    }

pub returns-then-low-lt256 : goal.returns-then-low-lt256
returns-then-low-lt256 c =
    let s = c.args.self.now in
    let at = c.args.at in
    let bytes = s.bytes.items in
    let size = s.size in
    let inside : at < size = omega (arith, c.requires.inside, length_counts bytes size) in
    let new = c.put_byte.new.bytes in
    let count : length new ≡ length bytes = search rules in
    let all : s.bytes.len ≡ length bytes = search rules in
    let put = rw c.deref_mut.ensures.value at c.put_byte.ensures in
    let low : c.from.result ≡ byte_in bytes at = c.from.ensures ∙ c.byte.ensures ∙ ap (λ bytes. byte_in bytes at) c.deref.ensures.value in
    let own : byte_in new at ≡ byte_in bytes at + c.args.more = put.own ∙ ap (λ b. b + c.args.more) low in
    let behind : (i : ℕ) → 0 < i → byte_in new (i * size + at) ≡ byte_in bytes (i * size + at) =
    λ i some. put.others (i * size + at) (λ one. omega (arith, one, row_behind i size at some, inside)) in
    let others : (cell : ℕ) → cell < size → cell ≢ at → (i : ℕ) → byte_in new (i * size + cell) ≡ byte_in bytes (i * size + cell) = λ cell in_cell apart i. put.others (i * size + cell) (λ one. apart (same_from_place i cell 0 at size in_cell inside (one ∙ sym (first_row size at))).1) in
    rw (whole_slice new bytes s.bytes.len count all) (counts_set bytes new size at (slice_index (counts_of s) at + c.args.more) inside (count_more bytes new size at c.args.more own (λ i some le. behind i some) ∙ ap (λ n. n + c.args.more) (sym (get_counts bytes size at inside))) (λ cell in_cell apart. count_same bytes new size cell (λ i le. others cell in_cell apart i)))
