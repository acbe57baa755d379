use Rattle.std.proofs.{Common.{◌≡◌, ◌∙◌, ℕ, ◌+◌, ◌*◌, ◌<◌, ◌≤◌, length, slice_index, set, inl, inr, ap, sym, rules, arith, ◌≢◌}, lemmas.Bool.cases_lt}
use Rattle.{std.{proofs.lemmas.Nat.{mul-le, from_le_bytes-to_le_bytes_8}, specs.Int.{w64, from_le_bytes}}, tally_base.proofs.Sums.whole_slice}
use Rattle.flim_cube.{specs.{Bytes.{byte_in, count_in, length_counts}, Cells.counts_of}, proofs.Bytes.{count_from, count_same, counts_set, other_cell}}
use Rattle.flim_cube.proofs.spread.Cells.put.Goals as goal

pub put_bytes-requires-clause-inside : goal.put_bytes-requires-clause-inside
put_bytes-requires-clause-inside c =
    omega (arith, c.requires, ap length c.widen.ensures.counts, length_counts c.widen.new.self.bytes.items c.widen.new.self.size)

pub invariant_of-self : goal.invariant_of-self
invariant_of-self c =
    let s = c.widen.new.self in
    let new = c.put_bytes.new.bytes in
    let count : length new ≡ length s.bytes.items = search rules in
    let all : s.bytes.len ≡ length s.bytes.items = search rules in
    let put = rw c.deref_mut.ensures.value at c.put_bytes.ensures in
    record {
      few = s.few;
      some = s.some;
      there = rw (whole_slice new s.bytes.items s.bytes.len count all) (count ∙ s.there);
      room = s.room;
      zeros = λ place le. rw (whole_slice new s.bytes.items s.bytes.len count all) (put.behind place le ∙ s.zeros place le);
    }

pub returns : goal.returns
returns c =
    let old = c.args.self.now in
    let s = c.widen.new.self in
    let at = c.args.at in
    let bytes = s.bytes.items in
    let size = s.size in
    let inside : at < size = omega (arith, c.requires, ap length c.widen.ensures.counts, length_counts bytes size) in
    let new = c.put_bytes.new.bytes in
    let count : length new ≡ length bytes = search rules in
    let all : s.bytes.len ≡ length bytes = search rules in
    let put = rw c.deref_mut.ensures.value at c.put_bytes.ensures in
    let parts = c.to_le_bytes-parts.result in
    let each : (i : ℕ) → i < 8 → byte_in new (i * size + at) ≡ slice_index parts i = λ i low.
    elim (cases_lt i s.wide) [
      | inl there ↦ put.own i there
      | inr past ↦
          let behind : s.wide * size ≤ i * size + at = omega (arith, mul-le s.wide size i size past (omega arith)) in
          put.behind (i * size + at) behind ∙ s.zeros (i * size + at) behind ∙ sym (c.width_of.ensures.rest i (omega (arith, past, c.widen.ensures.wide)) low)
    ] in
    let own : count_in new size at ≡ c.args.count = count_from new size at parts each ∙ ap (from_le_bytes w64) c.to_le_bytes-parts.ensures ∙ from_le_bytes-to_le_bytes_8 c.args.count c.ranges.count.fits in
    let others : (cell : ℕ) → cell < size → cell ≢ at → count_in new size cell ≡ count_in bytes size cell = λ cell in_cell apart. count_same bytes new size cell (λ i low. put.others (i * size + cell) (other_cell size i cell at in_cell apart)) in
    rw (whole_slice new bytes s.bytes.len count all)
    (counts_set bytes new size at c.args.count inside own others ∙ ap (λ counts. set counts at c.args.count) c.widen.ensures.counts)
