use Rattle.std.proofs.Common.{ℕ, List, subst, arith}
use Rattle.std.specs.Prelude.{Option}
use Rattle.base.specs.disk.Disk.{bytes_of}
use Rattle.trees.specs.ObjectPaths.{IsOnPath}
use Rattle.object_maps_clients.proofs.FoundEntries.{none_found, some_found}
use Rattle.object_maps_clients.proofs.paths.an_object_is_found_by_its_path.Goals as goal

pub returns-clause-found : goal.returns-clause-found
returns-clause-found g c = λ objects bytes tree is.
    let image : List ℕ = bytes_of (g.D.SectorDevice.disk c.args.device.now).now in
    let path = c.trees_are_by_paths.ensures image c.args.frame.now c.args.root objects tree 130 (omega arith) in
    some_found image c.args.frame.now c.args.root 130 bytes c.find_entry.result (c.find_entry.ensures.found c.requires.keeps)
    (subst (λ (o : Option (List ℕ)). IsOnPath image c.args.frame.now c.args.root 130 o) is path)

pub returns-clause-none : goal.returns-clause-none
returns-clause-none g c = λ objects tree is.
    let image : List ℕ = bytes_of (g.D.SectorDevice.disk c.args.device.now).now in
    let path = c.trees_are_by_paths.ensures image c.args.frame.now c.args.root objects tree 130 (omega arith) in
    none_found image c.args.frame.now c.args.root 130 c.find_entry.result c.find_entry.ensures.form (c.find_entry.ensures.found c.requires.keeps)
    (subst (λ (o : Option (List ℕ)). IsOnPath image c.args.frame.now c.args.root 130 o) is path)
