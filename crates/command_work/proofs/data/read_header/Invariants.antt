use Rattle.{std.proofs.Common.{◌≡◌, List, ℕ, ◌-◌, ◌^◌, true, None}, tally_base.specs.declared.slot.Slot.TheVariants.Data, bench_io.specs.Given.Consumes}
use Rattle.{bench_io.specs.Inputs.OnlyReads, ptu_header.specs.ReadHeader.{HasRead, bytes_taken, is_open}, command_work.specs.Outcomes.{SaysNoEnd, IsCut}}
use Rattle.command_work.specs.Outcomes.{InputsOnce}
use Rattle.command_work.proofs.data.read_header.Given as goal

-- the reader was given the bytes that were taken
abbrev pub invariant-pieces : goal.invariant-pieces
invariant-pieces g l =
    let state = g.I.Inputs.state in
    record {
      reads : OnlyReads Data (state l.initial.inputs) (state l.inputs);
      once : InputsOnce (state l.initial.inputs) (state l.inputs) None;
      taken : (taken : List ℕ) × Consumes ((state l.initial.inputs).given Data) ((state l.inputs).given Data) taken × HasRead l.reader taken × IsCut taken;
      unended : SaysNoEnd ((state l.initial.inputs).given Data) ((state l.inputs).given Data);
      is_open : is_open l.reader ≡ true;
    }

abbrev pub decreases-pieces : goal.decreases-pieces
decreases-pieces g l = 2 ^ 24 - bytes_taken l.reader
