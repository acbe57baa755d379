use Rattle.{std.proofs.Common.{◌≡◌, List, ℕ, ◌-◌, ◌^◌, true}, tally_base.specs.declared.slot.Slot.TheVariants.Data, bench_io.specs.Inputs.OnlyReads}
use Rattle.{ptu_header.specs.ReadHeader.{bytes_taken, is_open}, list_out.specs.HeaderText.header_text, command_work.specs.{Behaviours.AsItReads, Endings.span}}
use Rattle.{command_work.proofs.Reading.SoFar, file_work.specs.{BodyPieces.Prints, FileOutcomes.printing}}
use Rattle.file_work.proofs.data.PrintingFileWork.read.Given as goal

-- the text of the bytes that were taken is written
abbrev pub invariant-pieces : goal.invariant-pieces
invariant-pieces g l = record {
  reads : OnlyReads Data (g.I.Inputs.state l.initial.inputs) (g.I.Inputs.state l.inputs);
  taken : (taken : List ℕ) × Prints l.printer taken × SoFar (AsItReads header_text) printing (span g.I.Inputs g.O.Sink l.initial.inputs l.inputs l.initial.out l.out) taken;
  is_open : is_open l.printer.reader ≡ true;
}

abbrev pub decreases-pieces : goal.decreases-pieces
decreases-pieces g l = 2 ^ 24 - bytes_taken l.printer.reader
