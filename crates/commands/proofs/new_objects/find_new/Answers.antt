use Rattle.std.proofs.Common.{ℕ, List, ap, inr, refl, subst, sym, ◌∙◌}
use Rattle.base.specs.declared.names.ObjectId.{ObjectId}
use Rattle.object_names.specs.NameTables.{has_object}
use Rattle.pool_threads.specs.Objects.{Lists}
use Rattle.commands.specs.NewObjects.{all_objects}
use Rattle.commands.proofs.new_objects.find_new.Goals as goal

pub returns-in-None : goal.returns-in-None
returns-in-None g c = inr (record {
  objects = c.deref.result.now;
  listed = c.objects.new.self;
  lists = subst (λ (l : List (ObjectId × ℕ)). Lists 0 all_objects l c.args.handle.now c.objects.new.self) (sym c.deref.ensures.value) c.in-Ok.ensures.listed;
  finds = (refl, c.in-None.ensures.none, refl);
})

pub returns-then-lacks_room_beside : goal.returns-then-lacks_room_beside
returns-then-lacks_room_beside g c = inr (record {
  objects = c.deref.result.now;
  listed = c.objects.new.self;
  lists = subst (λ (l : List (ObjectId × ℕ)). Lists 0 all_objects l c.args.handle.now c.objects.new.self) (sym c.deref.ensures.value) c.in-Ok.ensures.listed;
  finds = (refl, record { status = c.status-status.result; asks = c.status-status.ensures.made; room = sym c.lacks_room_beside.ensures ∙ c.if-lacks_room_beside.true });
})

pub returns : goal.returns
returns g c = inr (record {
  objects = c.deref.result.now;
  listed = c.objects.new.self;
  lists = subst (λ (l : List (ObjectId × ℕ)). Lists 0 all_objects l c.args.handle.now c.objects.new.self) (sym c.deref.ensures.value) c.in-Ok.ensures.listed;
  finds = (
    record { free = c.in-Some.ensures.free; lowest = c.in-Some.ensures.lowest },
    c.has_first-has_table.ensures ∙ ap (λ (l : List (ObjectId × ℕ)). has_object l 0) (c.deref-2.ensures.value ∙ sym c.deref.ensures.value),
    record { status = c.status-status.result; asks = c.status-status.ensures.made; room = sym c.lacks_room_beside.ensures ∙ c.if-lacks_room_beside.false },
  );
})
