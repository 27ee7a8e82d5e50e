use Rattle.std.proofs.Common.{◌≡◌, ◌∙◌, ℕ, List, [], refl, subst, arith}
use Rattle.std.specs.FinMap as finite
use Rattle.std.proofs.lemmas.Result.{err_from_is_err_and}
use Rattle.base.specs.disk.Disk.{bytes_of}
use Rattle.space.specs.FreeSets.{HasAllOf}
use Rattle.trees.specs.DamageLists.{AddsDamages}
use Rattle.trees.specs.Walking.{directory_index}
use Rattle.trees.specs.declared.damages.BlockDamage.{BlockDamage}
use Rattle.trees.proofs.DamageLists.{whole_list}
use Rattle.trees.proofs.FreeBlocks.{marked_new}
use Rattle.trees.proofs.LoadedTrees.{no_pointers, whole_tree}
use Rattle.trees.proofs.NotedWalks.{refused_reading}
use Rattle.trees.proofs.WalkParts.{first_damage}
use Rattle.trees.proofs.walk.walk_through.Goals as goal

pub walk_tree-requires-clause-no_directories : goal.walk_tree-requires-clause-no_directories
walk_tree-requires-clause-no_directories g c =
    no_pointers c.deref_mut.result.now 84 (c.deref_mut.ensures.value ∙ c.in_ok-directories.ensures.items_if_clones_equal (λ p same. same))

pub returns-in_err-whole-clause-goes_on : goal.returns-in_err-whole-clause-goes_on
returns-in_err-whole-clause-goes_on g c = λ on.
    let p = err_from_is_err_and c.from_residual-in_err-whole.result c.from_residual-in_err-whole.ensures.1 in
    rw (p.1, p.2) (refused_reading c.args.damages c.in_err-whole.field-0.0 on c.in_err-whole.ensures.notes c.in_err-whole.ensures.cause)

pub returns-in_err-whole-clause-damage : goal.returns-in_err-whole-clause-damage
returns-in_err-whole-clause-damage g c = λ keeps.
    let p = err_from_is_err_and c.from_residual-in_err-whole.result c.from_residual-in_err-whole.ensures.1 in
    let image : List ℕ = bytes_of (g.D.SectorDevice.disk c.args.device.now).now in
    rw (p.1, p.2) (first_damage image c.args.frame.now c.args.root c.in_err-whole.field-0.0 (c.in_err-whole.ensures.found keeps image refl))

pub returns-then-not-whole-clause-listed : goal.returns-then-not-whole-clause-listed
returns-then-not-whole-clause-listed g c = λ keeps.
    let image : List ℕ = bytes_of (g.D.SectorDevice.disk c.args.device.now).now in
    let list : List BlockDamage = c.walk_tree.new.damages.list.items in
    whole_list image c.args.frame.now c.args.root list
    (subst (λ (l : List BlockDamage). AddsDamages image c.args.frame.now c.args.root 0 (directory_index 84) l list) c.requires.none (c.in_ok-whole.ensures.found keeps image refl))

pub returns-clause-listed : goal.returns-clause-listed
returns-clause-listed g c = λ keeps.
    let image : List ℕ = bytes_of (g.D.SectorDevice.disk c.args.device.now).now in
    let none : c.walk_tree.new.damages.list.items ≡ [] = c.in_ok-whole.ensures.notes.kept c.if-not-whole.false ∙ c.requires.none in
    whole_list image c.args.frame.now c.args.root []
    (subst (λ (l : List BlockDamage). AddsDamages image c.args.frame.now c.args.root 0 (directory_index 84) [] l) none
    (subst (λ (l : List BlockDamage). AddsDamages image c.args.frame.now c.args.root 0 (directory_index 84) l c.walk_tree.new.damages.list.items) c.requires.none
    (c.in_ok-whole.ensures.found keeps image refl)))

pub returns-clause-examined : goal.returns-clause-examined
returns-clause-examined g c =
    let image : List ℕ = bytes_of (g.D.SectorDevice.disk c.args.device.now).now in
    let made = c.in_ok-objects.ensures in
    let of = c.into_loaded.ensures in
    let (objects, stands, marks, tree) = c.in_ok-whole.ensures.loaded image (λ keeps. refl) c.if-not-whole.false finite.empty made.objects made.empty in
    let whole = whole_tree g.D.SectorDevice.keeps_model image c.args.frame.now c.args.root c.walk_tree.new.directories c.in_ok-directories.directories.items objects
    c.walk_tree.new.objects.entries.items c.in_ok-directories.directories.len (c.walk_tree.auto.directories ∙ c.deref_mut.ensures.len) tree c.walk_tree.new.objects.told.value stands in
    record {
      root_is = of.root;
      placed = rw (of.root, of.directories, of.entries) whole.placed;
      unnamed = of.free c.args.frame.now.blocks (marks c.args.frame.now.blocks
          (marked_new c.in_ok-objects.objects.entries.items c.args.frame.now.blocks c.in_ok-free.free (λ n. (made.empty.each n (omega arith)).pointers)
          (c.in_ok-free.ensures.blocks ∙ c.blocks-2.ensures) (subst (λ (n : ℕ). HasAllOf n c.in_ok-free.free.free) c.blocks-2.ensures c.in_ok-free.ensures.all) c.in_ok-free.ensures.idle));
      objects = rw of.objects whole.bounded;
      held = λ keeps. rw (of.root, of.directories, of.entries, of.objects) (whole.held keeps);
    }
