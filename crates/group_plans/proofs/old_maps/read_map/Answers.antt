use Rattle.std.proofs.Common.{◌<◌, ◌∙◌, ℕ, List, length, ap, subst, sym, arith}
use Rattle.std.proofs.lemmas.Result.{err_from_is_err_and}
use Rattle.base.specs.declared.pointer.Pointer.{Pointer}
use Rattle.base.specs.disk.Disk.{Disk, bytes_of}
use Rattle.tree_blocks.specs.Pointers.{ObjectPointers, pointers_of}
use Rattle.tree_blocks.specs.TreeObjects.{objects_of}
use Rattle.group_plans.specs.OldMaps.{AreStripsRead, HoldsOwn, HoldsStripsOf}
use Rattle.group_plans.proofs.OldMaps.{own_is, read_for}
use Rattle.group_plans.proofs.old_maps.read_map.Goals as goal

pub returns-in_err-strips-clause-sound : goal.returns-in_err-strips-clause-sound
returns-in_err-strips-clause-sound g c = λ keeps held size.
    let tree = c.args.tree.now in
    let still = subst (λ (d : Disk). HoldsOwn (bytes_of d.now) c.args.frame.now tree) (sym (c.in_ok-indirects.ensures.reads.disk keeps)) held in
    let holds : HoldsStripsOf (bytes_of (g.B.SectorDevice.disk c.read_indirects.new.reader).now) c.args.frame.now c.args.object.now c.in_ok-indirects.indirects.items (pointers_of tree) =
    record { objects = objects_of tree; tree = still; size = size; strips = c.in_ok-indirects.ensures.exact keeps held } in
    let p = err_from_is_err_and c.from_residual-in_err-strips.result c.from_residual-in_err-strips.ensures.1 in
    rw (p.1, p.2) (c.in_err-strips.ensures.sound keeps (pointers_of tree)
    (subst (λ (l : List Pointer). HoldsStripsOf (bytes_of (g.B.SectorDevice.disk c.read_indirects.new.reader).now) c.args.frame.now c.args.object.now l (pointers_of tree)) (sym c.deref.ensures.value) holds))

pub returns-clause-map : goal.returns-clause-map
returns-clause-map g c =
    let tree = c.args.tree.now in
    let n : ℕ = c.args.object.now.id.0 in
    let low : n < length tree.entries.items = omega (arith, c.requires.number, tree.all_objects, tree.entries.ok.0) in
    record {
      low = c.requires.number;
      top = c.top-top.ensures ∙ sym (ap (λ (o : ObjectPointers). o.top) (own_is tree n c.index.result.now low c.index.ensures));
      strips = c.in_ok-indirects.ensures.strips;
      records = λ j j_low. (c.in_ok-strips.ensures.read.each j j_low).records;
    }

pub returns-clause-read : goal.returns-clause-read
returns-clause-read g c =
    read_for c.args.frame.now.blocks c.args.object.now _
    (subst (λ (l : List Pointer). AreStripsRead c.args.frame.now.blocks c.args.object.now 84 l c.in_ok-strips.strips.entries) c.deref.ensures.value c.in_ok-strips.ensures.read)

pub returns-clause-exact : goal.returns-clause-exact
returns-clause-exact g c = λ keeps held size.
    let tree = c.args.tree.now in
    let still = subst (λ (d : Disk). HoldsOwn (bytes_of d.now) c.args.frame.now tree) (sym (c.in_ok-indirects.ensures.reads.disk keeps)) held in
    let strips = c.in_ok-indirects.ensures.exact keeps held in
    let holds : HoldsStripsOf (bytes_of (g.B.SectorDevice.disk c.read_indirects.new.reader).now) c.args.frame.now c.args.object.now c.in_ok-indirects.indirects.items (pointers_of tree) =
    record { objects = objects_of tree; tree = still; size = size; strips = strips } in
    record {
      strips = strips;
      records = c.in_ok-strips.ensures.exact keeps (pointers_of tree)
          (subst (λ (l : List Pointer). HoldsStripsOf (bytes_of (g.B.SectorDevice.disk c.read_indirects.new.reader).now) c.args.frame.now c.args.object.now l (pointers_of tree)) (sym c.deref.ensures.value) holds);
    }
