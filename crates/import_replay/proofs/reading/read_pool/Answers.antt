use Rattle.std.proofs.Common.{ℕ, List, ap, subst, ◌∙◌}
use Rattle.base.specs.tree.Mount.{IsChainOf}
use Rattle.base.specs.disk.Disk.{Disk, bytes_of}
use Rattle.uberblocks.specs.Slots.{fields_of}
use Rattle.import_replay.specs.ImportRefusals.{IsReason}
use Rattle.base.specs.formats.Blocks.{Frame}
use Rattle.base.specs.kept.PlacedTrees.{ArePlaced}
use Rattle.tree_blocks.specs.TreeObjects.{objects_of}
use Rattle.tree_blocks.specs.Pointers.{pointers_of}
use Rattle.import_replay.proofs.ReadPools.{is_read_damaged, is_read_pool}
use Rattle.import_replay.proofs.Reasons.{passed_on, reason-chain, reason-load}
use Rattle.import_replay.proofs.reading.read_pool.Goals as goal

pub returns-in_err-loaded-clause-reason : goal.returns-in_err-loaded-clause-reason
returns-in_err-loaded-clause-reason g c = λ keeps.
    let image : List ℕ = bytes_of (g.D.SectorDevice.disk c.args.device.now).now in
    let u = fields_of c.in_ok-found.found.uberblock in
    let x = c.in_err-loaded.field-0.0 in
    passed_on c.from_residual-in_err-loaded.result x (IsReason image) c.from_residual-in_err-loaded.ensures.1
    (reason-load image x c.in_err-loaded.ensures.cause (λ kind address is.
    is_read_damaged image (g.D.SectorDevice.disk c.find_pool.new.device) c.args.geometry _ u c.in_ok-found.found.name
    (g.met.D.SectorDevice.sized keeps c.args.device.now ∙ c.requires.sized.size) (ap (λ (d : Disk). bytes_of d.now) (c.find_pool.ensures.reads.disk keeps))
    (c.in_ok-found.ensures.pool keeps) c.frame_of-frame.ensures kind address (c.in_err-loaded.ensures.damage keeps kind address is)))

pub returns-in_err-logged-clause-reason : goal.returns-in_err-logged-clause-reason
returns-in_err-logged-clause-reason g c = λ keeps.
    let image : List ℕ = bytes_of (g.D.SectorDevice.disk c.args.device.now).now in
    let x = c.in_err-logged.field-0.0 in
    passed_on c.from_residual-in_err-logged.result x (IsReason image) c.from_residual-in_err-logged.ensures.1 (reason-chain image x c.in_err-logged.ensures.refused)

pub returns-clause-pool : goal.returns-clause-pool
returns-clause-pool g c = λ keeps.
    let image : List ℕ = bytes_of (g.D.SectorDevice.disk c.args.device.now).now in
    let u = fields_of c.in_ok-found.found.uberblock in
    is_read_pool image (g.D.SectorDevice.disk c.find_pool.new.device) c.args.geometry _ u c.in_ok-found.found.name
    (g.met.D.SectorDevice.sized keeps c.args.device.now ∙ c.requires.sized.size) (ap (λ (d : Disk). bytes_of d.now) (c.find_pool.ensures.reads.disk keeps))
    (c.in_ok-found.ensures.pool keeps) c.frame_of-frame.ensures
    c.in_ok-loaded.loaded.tree (objects_of c.in_ok-loaded.loaded.tree) c.in_ok-logged.logged.items (c.in_ok-loaded.ensures.tree keeps) c.in_ok-loaded.ensures.root
    (subst (λ (d : Disk). IsChainOf (bytes_of d.now) u c.in_ok-logged.logged.items) (c.load.ensures.reads.disk keeps ∙ c.find_pool.ensures.reads.disk keeps) (c.in_ok-logged.ensures.chain keeps))

pub returns-clause-loaded : goal.returns-clause-loaded
returns-clause-loaded g c =
    let loaded = c.in_ok-loaded.loaded in
    let told = c.in_ok-loaded.ensures in
    record {
      root = told.root;
      placed = subst (λ (f : Frame). ArePlaced f.blocks (pointers_of loaded.tree)) c.frame_of-frame.ensures told.placed;
      bounded = told.objects;
      sound = c.in_ok-logged.ensures.sound;
    }
