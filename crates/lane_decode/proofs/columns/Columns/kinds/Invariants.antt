use Rattle.{std.{proofs.Common.{◌≡◌, ◌≤◌, take, count_by}, specs.Int.{from_le_bytes, w32}}, ptu_definitions.specs.Kinds.{is_photon, is_marker, is_wrap}}
use Rattle.lane_decode.proofs.columns.Columns.kinds.Given as goal

abbrev pub invariant-loop-i : goal.invariant-loop-i
invariant-loop-i g l =
    let meaning = g.R.RecordLayout.meaning in
    let words = take l.i l.words in
    record {
      photons : l.photons ≡ count_by (λ bytes. is_photon (meaning (from_le_bytes w32 bytes))) words;
      markers : l.markers ≡ count_by (λ bytes. is_marker (meaning (from_le_bytes w32 bytes))) words;
      wraps : l.wraps ≡ count_by (λ bytes. is_wrap (meaning (from_le_bytes w32 bytes))) words;
      few_photons : l.photons ≤ l.i;
      few_markers : l.markers ≤ l.i;
      few_wraps : l.wraps ≤ l.i;
    }
