use Rattle.std.proofs.Common.{ℕ, List, ◌+◌, ◌∙◌, ap, arith, inl, inr, subst}
use Rattle.std.specs.Global.{Vec}
use Rattle.std.proofs.lemmas.Result.{err_from_is_err_and}
use Rattle.base.specs.formats.Geometry.{block_count}
use Rattle.space.specs.FreeSets.{FreeSpace, after_take}
use Rattle.trees.specs.FreeBlocks.{BlocksTaken}
use Rattle.tree_plans.specs.declared.planner.PlannedBlock.{PlannedBlock}
use Rattle.tree_plans.specs.declared.planner.TreePlan.{TreePlan}
use Rattle.extents.specs.Tables.{patches_of}
use Rattle.group_plans.proofs.LaidLengths.{lengths_laid}
use Rattle.import_replay.specs.FreeBlocks.{AreAllPlanned, IsLeftByPlan, IsLowestLeft, is_planned}
use Rattle.mounted.specs.GivenBlocks.{after_gives}
use Rattle.import_replay.proofs.LeftBlocks.{left_idle, left_sized}
use Rattle.import_replay.proofs.Reasons.{passed_on}
use Rattle.import_replay.proofs.Refused.{next_full}
use Rattle.import_replay.proofs.next_pool.plan_pool.Goals as goal

pub returns-in_err-planned-clause-refused : goal.returns-in_err-planned-clause-refused
returns-in_err-planned-clause-refused g c =
    let told = c.in_err-planned.ensures in
    passed_on c.from_residual.result c.in_err-planned.field-0.0 _ c.from_residual.ensures.1 (record { kind = told.refused; sound = told.sound; full = λ is. inl (told.no_space is); lacks = λ held is. inl (told.short held is) })

pub returns-in_err-log_block-clause-refused : goal.returns-in_err-log_block-clause-refused
returns-in_err-log_block-clause-refused g c =
    let plan : TreePlan = c.in_ok-planned.planned in
    let all : AreAllPlanned c.args.pool.spare plan.blocks.items = subst (λ (bs : List PlannedBlock). AreAllPlanned c.args.pool.spare bs) c.deref.ensures.value c.in_err-log_block.ensures.full in
    passed_on c.from_residual-in_err-log_block.result c.in_err-log_block.field-0.0 _ c.from_residual-in_err-log_block.ensures.1
    (next_full _ _ _ c.args.pool _ c.in_err-log_block.ensures.refused (inr (plan, c.in_ok-planned.ensures.tree, all))
    (λ held. inr (plan, c.in_ok-planned.ensures.objects held, all)))

pub returns-in_err-log_block-clause-reads : goal.returns-in_err-log_block-clause-reads
returns-in_err-log_block-clause-reads g c =
    let p = err_from_is_err_and c.from_residual-in_err-log_block.result c.from_residual-in_err-log_block.ensures.1 in
    let reads = c.in_ok-planned.ensures.reads in
    record { size = reads.size; disk = reads.disk; count = rw (p.1, p.2, c.in_err-log_block.ensures.refused) reads.count }

pub block_address-requires : goal.block_address-requires
block_address-requires g c = let within = c.in_ok-log_block.ensures.lowest.within in omega (arith, within, c.requires.sized)

pub lay_plan-blocks-requires : goal.lay_plan-blocks-requires
lay_plan-blocks-requires g c =
    let pool = c.args.pool in
    lengths_laid (c.args.uberblock.now.group.0 + 4) pool.replayed.records.items pool.synced.tree (patches_of pool.replayed.extents) _ c.requires.changes c.in_ok-planned.ensures.tree.1.lengths

pub returns-clause-planned : goal.returns-clause-planned
returns-clause-planned g c =
    let plan : TreePlan = c.in_ok-planned.planned in
    let log_block : ℕ = c.in_ok-log_block.log_block in
    let counted = c.args.pool.replayed.records.ok.0 in
    let left : FreeSpace = c.take_planned.new.free in
    let free : IsLeftByPlan plan log_block c.args.pool.free c.take.new.self = record {
      left = left;
      taken = subst (λ (bs : List PlannedBlock). BlocksTaken (λ k. is_planned k bs) c.args.pool.free left) c.deref-2.ensures.value c.take_planned.ensures;
      new_is = c.take.ensures ∙ ap (after_take log_block) (c.give_all.ensures ∙ ap (λ (freed : List ℕ). after_gives freed left) c.deref-3.ensures.value);
    } in
    record {
      plan = plan;
      fits = c.in_ok-planned.ensures.fits;
      taken = c.in_ok-planned.ensures.taken;
      made = c.in_ok-planned.ensures.tree;
      objects = c.in_ok-planned.ensures.objects;
      blocks_are = ap (λ (v : Vec PlannedBlock). v.items) c.lay_plan-blocks.ensures.blocks;
      pointers = c.lay_plan-blocks.ensures.pointers;
      contents_are = c.lay_plan-blocks.ensures.contents;
      log_block = log_block;
      log_is = c.block_address.ensures.address;
      lowest = subst (λ (bs : List PlannedBlock). IsLowestLeft c.args.pool.spare bs log_block) c.deref.ensures.value c.in_ok-log_block.ensures.lowest;
      free = free;
      sized = left_sized c.args.pool.synced.tree (block_count c.args.geometry) c.args.pool.free c.take.new.self plan log_block c.requires.free free;
      idle = left_idle c.args.pool.synced.tree (block_count c.args.geometry) c.args.pool.free c.take.new.self plan log_block c.requires.free free;
      records_are = omega (arith, c.len.ensures, counted);
    }
