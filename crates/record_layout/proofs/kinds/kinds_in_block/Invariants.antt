use Rattle.{std.{proofs.Common.{◌≡◌, take, count_by}, specs.Int.{from_le_bytes, w32}}, ptu_definitions.specs.Kinds.{is_photon, is_marker, is_wrap}}
use Rattle.record_layout.proofs.kinds.kinds_in_block.Given as goal

abbrev pub invariant-loop-bytes : goal.invariant-loop-bytes
invariant-loop-bytes g l =
    let meaning = g.R.RecordLayout.meaning in
    let words = take l.bytes-index l.words in
    record {
      photons : l.photons ≡ count_by (λ bytes. is_photon (meaning (from_le_bytes w32 bytes))) words;
      markers : l.markers ≡ count_by (λ bytes. is_marker (meaning (from_le_bytes w32 bytes))) words;
      wraps : l.wraps ≡ count_by (λ bytes. is_wrap (meaning (from_le_bytes w32 bytes))) words;
    }
