-- The fields of eight words, in lanes.
use Rattle.std.specs.Prelude.{ℕ, slice_index}
use Rattle.{record_layout.specs.declared.fields.Fields.Fields, lane_decode.specs.declared.lanes.FieldLanes.FieldLanes}

-- the fields of the word at this place, 0 to 7
abbrev pub fields_at : FieldLanes → ℕ → Fields
fields_at lanes place = record {
  top = slice_index lanes.tops place;
  dtime = slice_index lanes.dtimes place;
  time = slice_index lanes.times place;
}
