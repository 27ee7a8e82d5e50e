use Rattle.std.proofs.Common.{ℕ, List, ap, inl, subst, ◌∙◌}
use Rattle.std.specs.Prelude.{IsTrue}
use Rattle.base.specs.tree.Mount.{IsChainOf}
use Rattle.base.specs.disk.Disk.{Disk, bytes_of}
use Rattle.trees.specs.DamageLists.{ListsDamages}
use Rattle.trees.specs.Examined.{IsExamined, damages_of}
use Rattle.trees.specs.declared.damages.Examined.{Examined}
use Rattle.uberblocks.specs.Slots.{fields_of}
use Rattle.import_replay.specs.ImportRefusals.{IsReason}
use Rattle.import_replay.proofs.Reasons.{passed_on, reason-chain}
use Rattle.inspections.proofs.PoolDamages.{has_tree_damages}
use Rattle.inspections.proofs.ReadForInspection.{is_read}
use Rattle.inspections.proofs.damages.examine_pool.Goals as goal

pub returns-in_err-examined-clause-reason : goal.returns-in_err-examined-clause-reason
returns-in_err-examined-clause-reason g c = λ keeps.
    let image : List ℕ = bytes_of (g.D.SectorDevice.disk c.args.device.now).now in
    let x = c.in_err-examined.field-0.0 in
    passed_on c.from_residual-in_err-examined.result x (IsReason image) c.from_residual-in_err-examined.ensures.1 (reason-chain image x c.in_err-examined.ensures.cause)

pub returns-in_err-logged-in-Whole-clause-reason : goal.returns-in_err-logged-in-Whole-clause-reason
returns-in_err-logged-in-Whole-clause-reason g c = λ keeps.
    let image : List ℕ = bytes_of (g.D.SectorDevice.disk c.args.device.now).now in
    let x = c.in_err-logged-in-Whole.field-0.0 in
    passed_on c.from_residual-in_err-logged-in-Whole.result x (IsReason image) c.from_residual-in_err-logged-in-Whole.ensures.1 (reason-chain image x c.in_err-logged-in-Whole.ensures.refused)

pub returns-in_ok-logged-in-Whole-clause-examined : goal.returns-in_ok-logged-in-Whole-clause-examined
returns-in_ok-logged-in-Whole-clause-examined g c =
    let keeps_model = g.D.SectorDevice.keeps_model in
    let image : List ℕ = bytes_of (g.D.SectorDevice.disk c.args.device.now).now in
    let found = c.in_ok-found.found in
    let logged = c.in_ok-logged-in-Whole.logged in
    is_read keeps_model image (g.D.SectorDevice.disk c.find_pool.new.device) c.args.geometry _ found c.in-Whole.loaded logged.items
    (λ keeps. g.met.D.SectorDevice.sized keeps c.args.device.now ∙ c.requires.sized.size) (λ keeps. ap (λ (d : Disk). bytes_of d.now) (c.find_pool.ensures.reads.disk keeps))
    c.in_ok-found.ensures.pool c.frame_of-frame.ensures
    (subst (λ (e : Examined). IsExamined keeps_model (bytes_of (g.D.SectorDevice.disk c.find_pool.new.device).now) c.frame_of-frame.result found.uberblock.root e) c.in-Whole.is c.in_ok-examined.ensures.examined)
    c.in_ok-logged-in-Whole.ensures.sound
    (λ (keeps : IsTrue keeps_model). subst (λ (d : Disk). IsChainOf (bytes_of d.now) (fields_of found.uberblock) logged.items)
    (c.examine.ensures.reads.disk keeps ∙ c.find_pool.ensures.reads.disk keeps) (c.in_ok-logged-in-Whole.ensures.chain keeps))

pub returns-in-Damaged-clause-examined : goal.returns-in-Damaged-clause-examined
returns-in-Damaged-clause-examined g c = λ keeps.
    let image : List ℕ = bytes_of (g.D.SectorDevice.disk c.args.device.now).now in
    let now : List ℕ = bytes_of (g.D.SectorDevice.disk c.find_pool.new.device).now in
    let found = c.in_ok-found.found in
    let frame = c.frame_of-frame.result in (
      subst (λ (e : Examined). IsExamined g.D.SectorDevice.keeps_model now frame found.uberblock.root e) c.in-Damaged.is c.in_ok-examined.ensures.examined,
      inl (has_tree_damages image now c.args.geometry _ (fields_of found.uberblock) found.name c.in-Damaged.damages.items (g.met.D.SectorDevice.sized keeps c.args.device.now ∙ c.requires.sized.size)
          (ap (λ (d : Disk). bytes_of d.now) (c.find_pool.ensures.reads.disk keeps)) (c.in_ok-found.ensures.pool keeps) c.frame_of-frame.ensures
          (subst (λ (e : Examined). ListsDamages now frame found.uberblock.root (damages_of e)) c.in-Damaged.is (c.in_ok-examined.ensures.listed keeps))),
    )
