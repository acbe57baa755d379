use Rattle.std.proofs.{Common.{◌≡◌, ◌∙◌, true, All, filter, rules, ap, sym, subst, refl, arith, [], append-nil}, lemmas.List.Elements.{All-weaker, All-filter}}
use Rattle.{std.proofs.lemmas.List.Elements.filter_passes, tally_base.{specs.{Events.is_photon, Columns.gathered}, proofs.BlockRows.length-rows}}
use Rattle.{ptu_definitions.{specs.Layouts.KindFits, proofs.DeliveredLaws.not_marked-false}, gate_plan.specs.Groups.sorting_of}
use Rattle.{abs_time.specs.Floors.orders_markers, record_stream.{specs.Blocks.on_time, proofs.{Steps.length-on_time, Gathering.floor_of-block}}}
use Rattle.{record_write.specs.Picker.{mode_of, last_by}, photon_pick.specs.{Chosen.is_chosen, Giving.{pen_on, CanBeGiven, Gave, Stopped}}}
use Rattle.photon_pick.proofs.{Parts.chosen-photon, Takes.{order-chosen, last-chosen, TookPhotons-more, Refused-more}}
use Rattle.photon_pick.proofs.taker.PicksEventTaker.take_block.Goals as goal

pub give_photons-given-requires-clause-can : goal.give_photons-given-requires-clause-can
give_photons-given-requires-clause-can g c =
    let t = c.args.self.now in
    let es = gathered c.args.block.now in
    let p = is_chosen (sorting_of t.gates.now) t.group in
    let mode = mode_of t.picker.now in
    let all : All (λ e. is_photon e ≡ true) (filter p es) =
    All-weaker (λ e. p e ≡ true) (λ e. is_photon e ≡ true) (λ e is. chosen-photon (sorting_of t.gates.now) t.group e is) _ (filter_passes p es) in
    let fits : All (λ e. KindFits mode e.kind) es = subst (λ m. All (λ e. KindFits m e.kind) es) (sym t.of_mode) c.requires.fit in
    subst (CanBeGiven t.picker.now) (sym c.choose-many.ensures.chosen) (record {
      going = t.going (search rules);
      are_photons = all;
      fit = All-filter p (λ e. KindFits mode e.kind) es fits;
      in_order = (order-chosen (sorting_of t.gates.now) t.group (orders_markers t.mode) (last_by t.picker.now) t.floor es t.before c.requires.in_order).0;
    })

pub invariant_of-self-in_default-clause-of_mode : goal.invariant_of-self-in_default-clause-of_mode
invariant_of-self-in_default-clause-of_mode g c = c.give_photons-given.ensures.same_mode ∙ c.args.self.now.of_mode

pub invariant_of-self-in_default-clause-before : goal.invariant_of-self-in_default-clause-before
invariant_of-self-in_default-clause-before g c =
    let t = c.args.self.now in
    last-chosen (sorting_of t.gates.now) t.group (orders_markers t.mode) (last_by t.picker.now) t.floor (gathered c.args.block.now) t.before c.requires.in_order _ _ c.choose-many.ensures.chosen _ c.give_photons-given.ensures.last (rw c.orders_markers.ensures at c.floor_after-self.ensures)

pub invariant_of-self-in-Err-clause-of_mode : goal.invariant_of-self-in-Err-clause-of_mode
invariant_of-self-in-Err-clause-of_mode g c = c.give_photons-given.ensures.same_mode ∙ c.args.self.now.of_mode

pub invariant_of-self-in-Err-clause-before : goal.invariant_of-self-in-Err-clause-before
invariant_of-self-in-Err-clause-before g c =
    let t = c.args.self.now in
    last-chosen (sorting_of t.gates.now) t.group (orders_markers t.mode) (last_by t.picker.now) t.floor (gathered c.args.block.now) t.before c.requires.in_order _ _ c.choose-many.ensures.chosen _ c.give_photons-given.ensures.last (rw c.orders_markers.ensures at c.floor_after-self.ensures)

pub returns-in-Err-clause-broken : goal.returns-in-Err-clause-broken
returns-in-Err-clause-broken g c =
    let t = c.args.self.now in
    let p = is_chosen (sorting_of t.gates.now) t.group in
    let es = gathered c.args.block.now in
    let old = pen_on g.O.Sink t.picker.now t.out.now t.block in
    let new = pen_on g.O.Sink c.give_photons-given.new.picker c.give_photons-given.new.out c.give_photons-given.new.block in
    record {
      front = es;
      back = [];
      some = search (rules, arith, length-rows);
      are = sym (append-nil es);
      broken = λ start l h none. Refused-more _ _ l h (on_time es) (filter p es) (ap (filter p) (not_marked-false es)) c.in-Err.fault _
          (subst (λ ps. Stopped old new ps c.in-Err.fault) c.choose-many.ensures.chosen c.in-Err.ensures.stopped) refl;
    }

pub returns-clause-follows : goal.returns-clause-follows
returns-clause-follows g c = λ start l h.
    let t = c.args.self.now in
    let p = is_chosen (sorting_of t.gates.now) t.group in
    let es = gathered c.args.block.now in
    let old = pen_on g.O.Sink t.picker.now t.out.now t.block in
    let new = pen_on g.O.Sink c.give_photons-given.new.picker c.give_photons-given.new.out c.give_photons-given.new.block in
    TookPhotons-more _ _ l h (on_time es) (filter p es) (ap (filter p) (not_marked-false es)) new _ _ (subst (Gave old new) c.choose-many.ensures.chosen c.in_default.ensures.gave)
    (omega (arith, c.len-2.ensures.value, length-on_time es))
    (rw c.orders_markers.ensures at c.floor_after-self.ensures ∙ floor_of-block t.mode l es _ t.floor (rw h.same_mode h.moved) c.requires.in_order)
