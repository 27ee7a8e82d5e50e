use Rattle.std.proofs.Common.{◌≡◌, ◌<◌, length, arith, refl}
use Rattle.std.specs.Prelude.{slice_index_or}
use Rattle.std.proofs.lemmas.Result.{IfOk-weaker}
use Rattle.base.specs.declared.record_state.RecordState.TheVariants.{Dirty, Hole}
use Rattle.base.specs.formats.Fields.{no_pointer}
use Rattle.checked_blocks.specs.Sealing.{padded}
use Rattle.tree_plans.specs.Pointers.{entry_pointer_of}
use Rattle.tree_plans.specs.Walks.{AreEntriesWritten}
use Rattle.tree_plans.proofs.Parts.{cleared, directory_done, state_told, taken}
use Rattle.tree_blocks.proofs.Payloads.{padded-full}
use Rattle.tree_plans.proofs.Walks.{at_any}
use Rattle.tree_plans.proofs.walk.place_directory.Goals as goal

pub returns-then-not-has_object_in-clause-planned : goal.returns-then-not-has_object_in-clause-planned
returns-then-not-has_object_in-clause-planned g c =
    let tree = c.args.source.now.tree.now in
    let low : c.args.index < length tree.directories.items = omega (arith, tree.all_directories, tree.directories.ok.0, c.requires.index) in
    let was : c.index.result.now ≡ slice_index_or tree.directories.items c.args.index no_pointer = at_any tree.directories.items c.args.index c.index.result.now no_pointer low c.index.ensures in
    let is = state_told _ _ _ Hole Hole (rw (c.if-not-touched.false, c.if-not-has_object_in.true) refl) c.has_object_in.ensures refl in
    IfOk-weaker c.clear.result _ _ (λ pointer done. directory_done _ _ _ _ _ _ _ _ _ was (cleared _ _ _ _ _ is _ _ _ done)) c.clear.ensures.cleared

pub returns-clause-planned : goal.returns-clause-planned
returns-clause-planned g c =
    let tree = c.args.source.now.tree.now in
    let low : c.args.index < length tree.directories.items = omega (arith, tree.all_directories, tree.directories.ok.0, c.requires.index) in
    let was : c.index.result.now ≡ slice_index_or tree.directories.items c.args.index no_pointer = at_any tree.directories.items c.args.index c.index.result.now no_pointer low c.index.ensures in
    let is = state_told _ _ _ Dirty Dirty (rw (c.if-not-touched.false, c.if-not-has_object_in.false) refl) c.has_object_in.ensures refl in
    let payload = c.directory_payload-payload.result in
    let fits : AreEntriesWritten (entry_pointer_of c.args.source.now.tree.now.entries.items) c.args.entries.now.entries (g.O.ObjectSource.objects c.args.after.now) c.args.index 63 (padded payload) = rw (padded-full payload c.directory_payload-payload.ensures.size) c.directory_payload-payload.ensures.entries in
    IfOk-weaker c.place.result _ _ (λ pointer done. directory_done _ _ _ _ _ _ _ _ _ was (taken _ _ _ _ _ _ is fits _ _ _ done)) c.place.ensures.taken
