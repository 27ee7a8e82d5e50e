-- What a sync's calls write, and that no two of them write one byte.
use Rattle.std.proofs.Common.{◌≡◌, ◌⊎◌, inl, inr, ℕ, zero, suc, ◌+◌, ◌-◌, ◌<◌, ◌≤◌, false, List, [], ◌∷◌, map, Option, Some, None, Result, sym, ◌∙◌, ap, subst, arith, vec_len}
use Rattle.std.specs.Prelude.{All, slice_get, is_some, nat_eq}
use Rattle.std.specs.List.{AllByRecursion, IsDistinct}
use Rattle.std.specs.Option.{IsSomeAnd, option_map}
use Rattle.std.proofs.lemmas.Bool.{cases_eq, cases_lt, cases_order, eqb-false}
use Rattle.std.proofs.lemmas.Option.{slice_get-map}
use Rattle.base.specs.disk.DiskCalls.{DiskCall, MakesDiskCall}
use Rattle.base.specs.disk.DiskCalls.DiskCall.{Put}
use Rattle.base.specs.declared.error.PoolError.{PoolError}
use Rattle.base.specs.disk.Disk.{Disk}
use Rattle.base.specs.formats.Geometry.{IsGeometry, IsWritable, block_address, block_count, block_size, label_place, slot_place}
use Rattle.base.specs.disk.SyncOrder.{DeviceCall, calls_in_order}
use Rattle.base.specs.disk.SyncOrder.DeviceCall.{Block, Config, Uberblock, Flush}
use Rattle.base.proofs.disk.Put.{Apart, apart_turned}
use Rattle.labels.specs.declared.stage.Stage.{Stage}
use Rattle.labels.specs.declared.stage.Stage.TheVariants.{Even, Odd}
use Rattle.base.proofs.formats.Geometry.{labels-apart, blocks-end, IsGeometry-IsSize, config-writable, slot-writable, block-writable}
use Rattle.tree_plans.specs.declared.planner.PlannedBlock.{PlannedBlock}
use Rattle.sync.specs.declared.run.LabelStages.{LabelStages}
use Rattle.sync.specs.declared.run.SyncRun.{SyncRun}
use Rattle.sync.specs.CallOrder.{calls_behind_staged_blocks}
use Rattle.sync.specs.Calls.{Target, block_target, config_target, target_of, calls_of, first_labels, last_labels}
use Rattle.sync.specs.Made.{IsTarget, targets_of, HasDistinctBlocks}
use Rattle.base.proofs.disk.SyncOrder.{block_stands, others_stand}
use Rattle.base.proofs.common.KeptLists.{All-at, mapped}

-- a call into a label is one into the labels 0 to 3
abbrev pub InLabels : DeviceCall → Type 0
InLabels (Block k) = Unit {0}
InLabels (Config label) = label < 4
InLabels (Uberblock label) = label < 4
InLabels Flush = Unit {0}

pub each-at : (P : DeviceCall → Type 0) (calls : List DeviceCall) (k : ℕ) (call : DeviceCall) → AllByRecursion P calls → slice_get calls k ≡ Some call → P call
each-at P [] k call each at = absurd (let no_way : None ≡ Some call = at in cc)
each-at P (c ∷ calls) zero call each at = let same : c ≡ call = cc in subst P same each.0
each-at P (c ∷ calls) (suc k) call each at = each-at P calls k call each.1 at

-- the calls after the blocks
behind_in_labels : (stages : Option LabelStages) → AllByRecursion InLabels (calls_in_order 0 (is_some stages) (first_labels stages) (last_labels stages))
behind_in_labels None = (tt, (omega arith, (omega arith, (omega arith, (omega arith, (tt, tt))))))
behind_in_labels (Some stages) = by_stage stages.first
  where
    by_stage : (first : Stage) → AllByRecursion InLabels (calls_behind_staged_blocks first)
    by_stage Even = (tt, (omega arith, (omega arith, (tt, (omega arith, (omega arith, (omega arith, (omega arith, (tt, (omega arith, (omega arith, (tt, tt))))))))))))
    by_stage Odd = (tt, (omega arith, (omega arith, (tt, (omega arith, (omega arith, (omega arith, (omega arith, (tt, (omega arith, (omega arith, (tt, tt))))))))))))

pub call_in_labels : (run : SyncRun) (k : ℕ) (call : DeviceCall) → slice_get (calls_of run) k ≡ Some call → InLabels call
call_in_labels run k call at = elim (cases_lt k (vec_len run.blocks)) [
  | inl before ↦
      let stands : slice_get (calls_of run) k ≡ Some (Block k) = block_stands (vec_len run.blocks) (is_some run.stages) (first_labels run.stages) (last_labels run.stages) k before in
      let same : Block k ≡ call = cc in
      subst InLabels same tt
  | inr behind ↦
      each-at InLabels (calls_in_order 0 (is_some run.stages) (first_labels run.stages) (last_labels run.stages)) (k - vec_len run.blocks) call (behind_in_labels run.stages)
      (sym (others_stand (vec_len run.blocks) (is_some run.stages) (first_labels run.stages) (last_labels run.stages) k (k - vec_len run.blocks) (omega (arith, behind))) ∙ at)
]

-- the call after a target
pub call_of_target : (run : SyncRun) (k : ℕ) (t : Target) → IsTarget (targets_of run) k t → (call : DeviceCall) × (slice_get (calls_of run) k ≡ Some call) × (target_of run call ≡ Some t)
call_of_target run k t at = mapped (target_of run) (slice_get (calls_of run) k) (Some t) (sym (slice_get-map (target_of run) (calls_of run) k) ∙ at)

-- the target of a call
pub target_of_call : (run : SyncRun) (k : ℕ) (call : DeviceCall) → slice_get (calls_of run) k ≡ Some call → slice_get (targets_of run) k ≡ Some (target_of run call)
target_of_call run k call at = slice_get-map (target_of run) (calls_of run) k ∙ ap (λ (o : Option DeviceCall). option_map (target_of run) o) at

-- the target is put
abbrev pub WritesTarget : Option Target → Disk → Result (Unit {0}) PoolError → Disk → Type 0
WritesTarget o old result new = IsSomeAnd (option_map (λ (t : Target). Put t.place t.content) o) (λ (c : DiskCall). MakesDiskCall c old result new)

-- The size is one of a device, and each block and the slot have their places.
pub record IsSound (run : SyncRun) : Type 0 where
  pub geometry : IsGeometry run.geometry
  pub placed : All (λ (b : PlannedBlock). b.index < block_count run.geometry) run.blocks.items
  pub slot : run.slot < 128

-- two of these its ghost fields keep
pub is_sound : (run : SyncRun) → IsGeometry run.geometry → IsSound run
is_sound run g = record { geometry = g; placed = run.placed; slot = run.slot_in_range }

target_writable : (run : SyncRun) → IsSound run → (call : DeviceCall) (t : Target) → InLabels call → target_of run call ≡ Some t → IsWritable run.geometry t.place t.size
target_writable run sound (Block k) t within is =
    let (b, at, same) = mapped block_target (slice_get run.blocks.items k) t is in
    subst (λ (u : Target). IsWritable run.geometry u.place u.size) same
    (block-writable run.geometry b.index (All-at (λ (b : PlannedBlock). b.index < block_count run.geometry) run.blocks.items k b sound.placed at))
target_writable run sound (Config label) t within is =
    let (stages, at, same) = mapped (config_target run.geometry label) run.stages t is in
    subst (λ (u : Target). IsWritable run.geometry u.place u.size) same (config-writable run.geometry label within)
target_writable run sound (Uberblock label) t within is =
    let same : record { place = slot_place run.geometry label run.slot; size = 1024; content = run.uberblock } ≡ t = cc in
    subst (λ (u : Target). IsWritable run.geometry u.place u.size) same (slot-writable run.geometry label run.slot within sound.slot)
target_writable run sound Flush t within is = absurd (let no_way : None ≡ Some t = is in cc)

-- Every write of a sync lies in the block area or after the boot header of a label.
pub calls-writable : (run : SyncRun) → IsSound run → (k : ℕ) (t : Target) → IsTarget (targets_of run) k t → IsWritable run.geometry t.place t.size
calls-writable run sound k t at =
    let (call, stands, is) = call_of_target run k t at in
    target_writable run sound call t (call_in_labels run k call stands) is

-- Two parts of labels are apart where the labels differ.
labels_parted : (size k l : ℕ) → IsGeometry size → k < 4 → l < 4 → (k ≡ l → ⊥) → (place n other m : ℕ) → label_place size k ≤ place → place + n ≤ label_place size k + 262144 → label_place size l ≤ other
    → other + m ≤ label_place size l + 262144 → Apart place n other m
labels_parted size k l g k_in l_in differ place n other m from to other_from other_to = elim (cases_order k l) [
  | inl same ↦ absurd (differ same)
  | inr (inl less) ↦ inl (omega (arith, labels-apart size k l g less l_in, to, other_from))
  | inr (inr more) ↦ inr (omega (arith, labels-apart size l k g more k_in, from, other_to))
]

-- a block and a part of a label are apart
block_parted : (size index label : ℕ) → IsGeometry size → index < block_count size → label < 4 → (place n : ℕ) → label_place size label ≤ place → place + n ≤ label_place size label + 262144
    → Apart (block_address index) block_size place n
block_parted size index zero g below within place n from to = inr (omega (arith, to))
block_parted size index (suc zero) g below within place n from to = inr (omega (arith, to))
block_parted size index (suc (suc zero)) g below within place n from to = inl (omega (arith, blocks-end size g, below, from))
block_parted size index (suc (suc (suc label))) g below within place n from to =
    let s = IsGeometry-IsSize size g in inl (omega (arith, blocks-end size g, below, from, s.least))

-- different blocks are apart
blocks_parted : (index other : ℕ) → (index ≡ other → ⊥) → Apart (block_address index) block_size (block_address other) block_size
blocks_parted index other differ = elim (cases_order index other) [
  | inl same ↦ absurd (differ same)
  | inr (inl less) ↦ inl (omega (arith, less))
  | inr (inr more) ↦ inr (omega (arith, more))
]

all_differ : (x : ℕ) (xs : List ℕ) (k y : ℕ) → AllByRecursion (λ z. nat_eq x z ≡ false) xs → slice_get xs k ≡ Some y → nat_eq x y ≡ false
all_differ x [] k y each at = absurd (let no_way : None ≡ Some y = at in cc)
all_differ x (z ∷ xs) zero y each at = let same : z ≡ y = cc in subst (λ (w : ℕ). nat_eq x w ≡ false) same each.0
all_differ x (z ∷ xs) (suc k) y each at = all_differ x xs k y each.1 at

-- in a list of distinct numbers those at different places differ
distinct_differ : (xs : List ℕ) (k l x y : ℕ) → IsDistinct nat_eq xs → k < l → slice_get xs k ≡ Some x → slice_get xs l ≡ Some y → nat_eq x y ≡ false
unfolding IsDistinct
distinct_differ [] k l x y distinct less at_k at_l = absurd (let no_way : None ≡ Some x = at_k in cc)
distinct_differ (z ∷ xs) k zero x y distinct less at_k at_l = absurd (omega (arith, less))
distinct_differ (z ∷ xs) zero (suc l) x y distinct less at_k at_l =
    let same : z ≡ x = cc in subst (λ (w : ℕ). nat_eq w y ≡ false) same (all_differ z xs l y distinct.0 at_l)
distinct_differ (z ∷ xs) (suc k) (suc l) x y distinct less at_k at_l = distinct_differ xs k l x y distinct.1 (omega (arith, less)) at_k at_l

-- the index of the k-th block
index_at : (blocks : List PlannedBlock) (k : ℕ) (b : PlannedBlock) → slice_get blocks k ≡ Some b → slice_get (map (λ (c : PlannedBlock). c.index) blocks) k ≡ Some b.index
index_at blocks k b at = slice_get-map (λ (c : PlannedBlock). c.index) blocks k ∙ ap (λ (o : Option PlannedBlock). option_map (λ (c : PlannedBlock). c.index) o) at

indices_differ : (blocks : List PlannedBlock) (k l : ℕ) (b c : PlannedBlock) → IsDistinct nat_eq (map (λ (b : PlannedBlock). b.index) blocks) → (k ≡ l → ⊥) → slice_get blocks k ≡ Some b → slice_get blocks l ≡ Some c → b.index ≡ c.index → ⊥
indices_differ blocks k l b c distinct differ at_k at_l same = elim (cases_order k l) [
  | inl equal ↦ differ equal
  | inr (inl less) ↦ eqb-false b.index c.index (distinct_differ (map (λ (b : PlannedBlock). b.index) blocks) k l b.index c.index distinct less (index_at blocks k b at_k) (index_at blocks l c at_l)) same
  | inr (inr more) ↦ eqb-false c.index b.index (distinct_differ (map (λ (b : PlannedBlock). b.index) blocks) l k c.index b.index distinct more (index_at blocks l c at_l) (index_at blocks k b at_k)) (sym same)
]

-- Two targets of one call are one, and two of different calls are apart.
abbrev SameOrApart : Target → Target → Type 0
SameOrApart t u = (u ≡ t) ⊎ Apart t.place t.size u.place u.size

one_target : (o : Option Target) (t u : Target) → o ≡ Some t → o ≡ Some u → SameOrApart t u
one_target o t u is_t is_u = let same : u ≡ t = cc in inl same

-- a target that lies in a label
pub record LiesIn (size label : ℕ) (t : Target) : Type 0 where
  pub from : label_place size label ≤ t.place
  pub to : t.place + t.size ≤ label_place size label + 262144

pub config_lies : (run : SyncRun) (label : ℕ) (t : Target) → target_of run (Config label) ≡ Some t → LiesIn run.geometry label t × (t.place + t.size ≤ label_place run.geometry label + 131072)
config_lies run label t is =
    let (stages, at, same) = mapped (config_target run.geometry label) run.stages t is in
    subst (λ (u : Target). LiesIn run.geometry label u × (u.place + u.size ≤ label_place run.geometry label + 131072)) same (record { from = omega arith; to = omega arith }, omega arith)

pub uberblock_lies : (run : SyncRun) → IsSound run → (label : ℕ) (t : Target) → target_of run (Uberblock label) ≡ Some t → LiesIn run.geometry label t × (label_place run.geometry label + 131072 ≤ t.place)
uberblock_lies run sound label t is =
    let same : record { place = slot_place run.geometry label run.slot; size = 1024; content = run.uberblock } ≡ t = cc in
    subst (λ (u : Target). LiesIn run.geometry label u × (label_place run.geometry label + 131072 ≤ u.place)) same (record { from = omega arith; to = omega (arith, sound.slot) }, omega arith)

-- the block of a target
pub block_lies : (run : SyncRun) → IsSound run → (k : ℕ) (t : Target) → target_of run (Block k) ≡ Some t → (b : PlannedBlock) × (slice_get run.blocks.items k ≡ Some b) × (b.index < block_count run.geometry) × (block_target b ≡ t)
block_lies run sound k t is =
    let (b, at, same) = mapped block_target (slice_get run.blocks.items k) t is in
    (b, at, All-at (λ (b : PlannedBlock). b.index < block_count run.geometry) run.blocks.items k b sound.placed at, same)

block_and_label : (run : SyncRun) → IsSound run → (k label : ℕ) (t u : Target) → label < 4 → target_of run (Block k) ≡ Some t → LiesIn run.geometry label u → Apart t.place t.size u.place u.size
block_and_label run sound k label t u within is lies =
    let (b, at, below, same) = block_lies run sound k t is in
    subst (λ (v : Target). Apart v.place v.size u.place u.size) same (block_parted run.geometry b.index label sound.geometry below within u.place u.size lies.from lies.to)

module _ (run : SyncRun) (sound : IsSound run) (distinct : HasDistinctBlocks run) where
  calls_parted : (c d : DeviceCall) (t u : Target) → InLabels c → InLabels d → target_of run c ≡ Some t → target_of run d ≡ Some u → SameOrApart t u
  calls_parted (Block k) (Block l) t u c_in d_in is_t is_u = elim (cases_eq k l) [
    | inl same ↦ one_target (target_of run (Block k)) t u is_t (ap (λ (i : ℕ). target_of run (Block i)) same ∙ is_u)
    | inr differ ↦
        let (b, at_b, b_below, is_b) = block_lies run sound k t is_t in
        let (c, at_c, c_below, is_c) = block_lies run sound l u is_u in
        let parted : Apart (block_address b.index) block_size (block_address c.index) block_size = blocks_parted b.index c.index (indices_differ run.blocks.items k l b c distinct differ at_b at_c) in
        let first : Apart t.place t.size (block_address c.index) block_size = subst (λ (v : Target). Apart v.place v.size (block_address c.index) block_size) is_b parted in
        inr (subst (λ (v : Target). Apart t.place t.size v.place v.size) is_c first)
  ]
  calls_parted (Block k) (Config label) t u c_in d_in is_t is_u = inr (block_and_label run sound k label t u d_in is_t (config_lies run label u is_u).0)
  calls_parted (Block k) (Uberblock label) t u c_in d_in is_t is_u = inr (block_and_label run sound k label t u d_in is_t (uberblock_lies run sound label u is_u).0)
  calls_parted (Config label) (Block k) t u c_in d_in is_t is_u = inr (apart_turned u.place u.size t.place t.size (block_and_label run sound k label u t c_in is_u (config_lies run label t is_t).0))
  calls_parted (Uberblock label) (Block k) t u c_in d_in is_t is_u = inr (apart_turned u.place u.size t.place t.size (block_and_label run sound k label u t c_in is_u (uberblock_lies run sound label t is_t).0))
  calls_parted (Config k) (Config l) t u c_in d_in is_t is_u = elim (cases_eq k l) [
    | inl same ↦ one_target (target_of run (Config k)) t u is_t (ap (λ (i : ℕ). target_of run (Config i)) same ∙ is_u)
    | inr differ ↦
        let in_k = (config_lies run k t is_t).0 in
        let in_l = (config_lies run l u is_u).0 in
        inr (labels_parted run.geometry k l sound.geometry c_in d_in differ t.place t.size u.place u.size in_k.from in_k.to in_l.from in_l.to)
  ]
  calls_parted (Uberblock k) (Uberblock l) t u c_in d_in is_t is_u = elim (cases_eq k l) [
    | inl same ↦ one_target (target_of run (Uberblock k)) t u is_t (ap (λ (i : ℕ). target_of run (Uberblock i)) same ∙ is_u)
    | inr differ ↦
        let in_k = (uberblock_lies run sound k t is_t).0 in
        let in_l = (uberblock_lies run sound l u is_u).0 in
        inr (labels_parted run.geometry k l sound.geometry c_in d_in differ t.place t.size u.place u.size in_k.from in_k.to in_l.from in_l.to)
  ]
  calls_parted (Config k) (Uberblock l) t u c_in d_in is_t is_u =
      let (in_k, before) = config_lies run k t is_t in
      let (in_l, behind) = uberblock_lies run sound l u is_u in
      elim (cases_eq k l) [
        | inl same ↦ let one : label_place run.geometry k ≡ label_place run.geometry l = ap (λ (i : ℕ). label_place run.geometry i) same in inr (inl (omega (arith, before, behind, one)))
        | inr differ ↦ inr (labels_parted run.geometry k l sound.geometry c_in d_in differ t.place t.size u.place u.size in_k.from in_k.to in_l.from in_l.to)
      ]
  calls_parted (Uberblock k) (Config l) t u c_in d_in is_t is_u =
      let (in_k, behind) = uberblock_lies run sound k t is_t in
      let (in_l, before) = config_lies run l u is_u in
      elim (cases_eq k l) [
        | inl same ↦ let one : label_place run.geometry k ≡ label_place run.geometry l = ap (λ (i : ℕ). label_place run.geometry i) same in inr (inr (omega (arith, before, behind, one)))
        | inr differ ↦ inr (labels_parted run.geometry k l sound.geometry c_in d_in differ t.place t.size u.place u.size in_k.from in_k.to in_l.from in_l.to)
      ]
  calls_parted Flush d t u c_in d_in is_t is_u = absurd (let no_way : None ≡ Some t = is_t in cc)
  calls_parted (Block k) Flush t u c_in d_in is_t is_u = absurd (let no_way : None ≡ Some u = is_u in cc)
  calls_parted (Config k) Flush t u c_in d_in is_t is_u = absurd (let no_way : None ≡ Some u = is_u in cc)
  calls_parted (Uberblock k) Flush t u c_in d_in is_t is_u = absurd (let no_way : None ≡ Some u = is_u in cc)

  -- two targets of the sync are one or apart
  pub targets_parted : (k l : ℕ) (t u : Target) → IsTarget (targets_of run) k t → IsTarget (targets_of run) l u → (u ≡ t) ⊎ Apart t.place t.size u.place u.size
  targets_parted k l t u at_t at_u =
      let (c, c_stands, c_is) = call_of_target run k t at_t in
      let (d, d_stands, d_is) = call_of_target run l u at_u in
      calls_parted c d t u (call_in_labels run k c c_stands) (call_in_labels run l d d_stands) c_is d_is
