use Rattle.{std.proofs.Common.{◌∙◌, [], refl, arith, replicate}, ptu_definitions.specs.declared.records.Raw.TheVariants.Reserved}
use Rattle.record_stream.{proofs.Skipped.leads-reserved, specs.Walking.clock_in}
use Rattle.record_stream.proofs.walk.Walk.skip.Goals as goal

pub go_on-requires-clause-stands : goal.go_on-requires-clause-stands
go_on-requires-clause-stands c =
    ∣ (replicate c.args.many Reserved, rw (c.placed.ensures.value, c.base-base.ensures.value, c.greatest-greatest.ensures) (leads-reserved (clock_in c.args.self.now) c.args.many)) ∣₁

pub returns : goal.returns
returns c = record {
  same_how = refl;
  same_given = refl;
  summary = c.add_block.ensures.value [] refl tt;
  placed = omega (arith, c.go_on.ensures.count, c.placed.ensures.value);
  same_base = c.go_on.ensures.base ∙ c.base-base.ensures.value;
  same_greatest = c.go_on.ensures.greatest ∙ c.greatest-greatest.ensures;
}
