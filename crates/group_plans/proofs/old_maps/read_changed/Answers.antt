use Rattle.std.proofs.Common.{◌≡◌, ◌∙◌, ℕ, Bool, ap, subst}
use Rattle.std.specs.Prelude.{Option, unwrap_or}
use Rattle.std.specs.FinMap as finite
use Rattle.std.specs.Cmp.{unsigned_tied}
use Rattle.tree_blocks.specs.TreeObjects.{objects_of}
use Rattle.tree_blocks.specs.Pointers.{pointers_of}
use Rattle.tree_blocks.specs.declared.object_map.ObjectMap.{ObjectMap}
use Rattle.tree_plans.specs.Changes.{has_two_levels}
use Rattle.tree_blocks.specs.Entries.{is_long_size}
use Rattle.tree_plans.specs.Pointers.{IsPut}
use Rattle.tree_plans.proofs.Walks.{put_of}
use Rattle.group_plans.specs.GroupPlans.{objects_with}
use Rattle.group_plans.specs.OldMaps.{ArePointersOf, IsMapBefore, IsReadFor, size_in}
use Rattle.group_plans.proofs.OldMaps.{put_each, put_here, put_other}
use Rattle.group_plans.proofs.old_maps.read_changed.Goals as goal

pub returns-clause-read : goal.returns-clause-read
returns-clause-read g c = λ low.
    let put : IsPut c.args.maps.now.entries c.args.id c.in_ok-map.map c.insert.new.self.entries = put_of _ (λ a b. unsigned_tied a.0 b.0) c.args.maps.now c.insert.new.self c.args.id c.in_ok-map.map c.in_ok-insert.ensures.updates.0 in
    let long : c.is_long.result ≡ has_two_levels (finite.get (objects_with c.args.extents.now c.args.source.now.tree.now) c.args.id.0) = c.is_long.ensures ∙ ap is_long_size (rw c.new.ensures at c.length-2.ensures) in
    record {
      map = c.in_ok-map.map;
      map_is = put_here c.args.maps.now.entries c.insert.new.self.entries c.args.id c.in_ok-map.map put;
      read = subst (λ (b : Bool). IsReadFor b c.args.changes.now c.in_ok-map.map) long c.in_ok-map.ensures.read;
    }

pub returns-clause-others : goal.returns-clause-others
returns-clause-others g c =
    let put : IsPut c.args.maps.now.entries c.args.id c.in_ok-map.map c.insert.new.self.entries = put_of _ (λ a b. unsigned_tied a.0 b.0) c.args.maps.now c.insert.new.self c.args.id c.in_ok-map.map c.in_ok-insert.ensures.updates.0 in
    put_other c.args.maps.now.entries c.insert.new.self.entries c.args.id c.in_ok-map.map put

pub returns-clause-maps : goal.returns-clause-maps
returns-clause-maps g c = λ before.
    let put : IsPut c.args.maps.now.entries c.args.id c.in_ok-map.map c.insert.new.self.entries = put_of _ (λ a b. unsigned_tied a.0 b.0) c.args.maps.now c.insert.new.self c.args.id c.in_ok-map.map c.in_ok-insert.ensures.updates.0 in
    put_each (λ (n : ℕ) (m : ObjectMap). IsMapBefore c.args.frame.now.blocks c.args.source.now.tree.now (size_in (objects_of c.args.source.now.tree.now) n) n m) c.args.maps.now.entries c.insert.new.self.entries c.args.id c.in_ok-map.map put
    (subst (λ (size : ℕ). IsMapBefore c.args.frame.now.blocks c.args.source.now.tree.now size c.args.id.0 c.in_ok-map.map) (c.unwrap_or.ensures ∙ ap (λ (o : Option ℕ). unwrap_or o 0) c.length.ensures) c.in_ok-map.ensures.map) before

pub returns-clause-exact : goal.returns-clause-exact
returns-clause-exact g c = λ keeps held before.
    let put : IsPut c.args.maps.now.entries c.args.id c.in_ok-map.map c.insert.new.self.entries = put_of _ (λ a b. unsigned_tied a.0 b.0) c.args.maps.now c.insert.new.self c.args.id c.in_ok-map.map c.in_ok-insert.ensures.updates.0 in
    put_each (λ (n : ℕ) (m : ObjectMap). ArePointersOf (pointers_of c.args.source.now.tree.now) n m) c.args.maps.now.entries c.insert.new.self.entries c.args.id c.in_ok-map.map put
    (c.in_ok-map.ensures.exact keeps held (c.unwrap_or.ensures ∙ ap (λ (o : Option ℕ). unwrap_or o 0) c.length.ensures)) before
