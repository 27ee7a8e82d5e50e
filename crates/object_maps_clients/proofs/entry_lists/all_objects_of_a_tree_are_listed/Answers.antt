use Rattle.std.proofs.Common.{ℕ, List, arith, subst}
use Rattle.std.specs.Prelude.{Contains, Option}
use Rattle.std.proofs.lemmas.Result.{IfOk-weaker}
use Rattle.base.specs.disk.Disk.{bytes_of}
use Rattle.trees.specs.ObjectPaths.{IsOnPath}
use Rattle.object_maps_clients.proofs.FoundEntries.{as_many_listed}
use Rattle.object_maps_clients.proofs.entry_lists.all_objects_of_a_tree_are_listed.Goals as goal

pub returns-clause-each : goal.returns-clause-each
returns-clause-each g c = λ objects bytes tree is.
    let image : List ℕ = bytes_of (g.D.SectorDevice.disk c.args.device.now).now in
    let path = subst (λ (o : Option (List ℕ)). IsOnPath image c.args.frame.now c.args.root 130 o) is (c.trees_are_by_paths.ensures image c.args.frame.now c.args.root objects tree 130 (omega arith)) in
    IfOk-weaker c.list_entries.result _ _ (λ l lists. subst (λ (size : ℕ). Contains l.items (record { 0 = 130 }, size)) path.size (lists.all 130 (omega arith) path.there))
    (c.list_entries.ensures.listed c.requires.keeps)

pub returns-clause-as_many : goal.returns-clause-as_many
returns-clause-as_many g c = λ objects tree.
    IfOk-weaker c.list_entries.result _ _ (λ l is. as_many_listed objects l.items is) (c.list_entries.ensures.exact c.requires.keeps objects tree)
