-- What a pool keeps of its device, while its bytes change and nothing that is shown does.
use Rattle.std.proofs.Common.{◌≡◌, ℕ, ◌+◌, ◌-◌, ◌*◌, ◌/◌, ◌<◌, ◌≤◌, true, List, length, refl, ap, sym, subst, ◌∙◌, arith, ◌⊎◌, inl, inr}
use Rattle.std.specs.Prelude.{Some, is_some, slice_get, ◌≢◌}
use Rattle.std.specs.Ordering.{nat_cmp}
use Rattle.std.specs.FinMap.{FinMap}
use Rattle.std.proofs.lemmas.Bool.{cases_lt, cases_order}
use Rattle.std.proofs.lemmas.Option.{slice_get_within}
use Rattle.base.specs.declared.pointer.Pointer.{Pointer}
use Rattle.base.specs.formats.Fields.{part, number_at}
use Rattle.base.specs.formats.Geometry.{block_area, block_size, block_address, block_count, label_place, IsGeometry, IsBlockAddress}
use Rattle.base.specs.formats.Blocks.{Frame}
use Rattle.base.specs.formats.Labels.{even_labels, odd_labels}
use Rattle.base.specs.disk.Disk.{put, Apart}
use Rattle.base.specs.steps.Locks.{is_in}
use Rattle.base.specs.tree.Places.{Place, IsPlace, IsInTree}
use Rattle.base.specs.tree.Places.Place.{Root}
use Rattle.base.specs.tree.Tree.{IsTree}
use Rattle.base.specs.kept.PlacedTrees.{HoldsTree, ArePlaced}
use Rattle.base.specs.kept.PlannedTrees.{NewBlock, SameBlock, IsBlockWritten}
use Rattle.base.specs.history.Past.{Past}
use Rattle.base.specs.steps.Shown.{Shown, taken_of}
use Rattle.base.specs.steps.Exact.{AreFree, IsInLog}
use Rattle.base.specs.steps.Explains.{IsSyncedTree}
use Rattle.base.specs.kept.LabelConfigs.{WritesName}
use Rattle.base.specs.kept.ShownLabels.{HasNoLogBlock}
use Rattle.base.specs.kept.Stored.{NewTree, IsStored, IsSyncing, SameBlocks, total_calls, frame_at}
use Rattle.base.proofs.disk.SyncOrder.{length-calls}
use Rattle.base.proofs.disk.Put.{length-put, part-put_same, part-put_apart}
use Rattle.base.proofs.formats.LabelPlaces.{label-apart}
use Rattle.base.proofs.tree.PlacedTrees.{holds-tree, holds-placed, none_or_opens, in-tree, told-in_tree}
use Rattle.base.proofs.tree.PlannedTrees.{holds-elsewhere}
use Rattle.base.proofs.disk.WrittenBlocks.{blocks-apart}
use Rattle.base.proofs.common.KeptLists.{Some-injective}

-- the device holds the tree of the objects that the entries up to the synced group leave
pub stored-synced_tree : (now : List ℕ) (s : Shown) (pointers : Place → Pointer) (past : Past) → IsStored now s pointers past → IsSyncedTree now s past
stored-synced_tree now s pointers past x = record {
  synced = x.synced;
  replayed = x.replayed;
  blocks = x.blocks;
  tree = subst (λ (root : Pointer). IsTree now (frame_at s s.line.synced) root x.synced.objects) x.root (holds-tree now (frame_at s s.line.synced) pointers x.synced.objects x.tree);
}

-- each pointer is none, or one to a block of the area
pub stored-placed : (now : List ℕ) (s : Shown) (pointers : Place → Pointer) (past : Past) → IsStored now s pointers past → ArePlaced s.blocks pointers
stored-placed now s pointers past x = holds-placed now (frame_at s s.line.synced) pointers x.synced.objects x.tree

-- and is of no group above the synced one
pub stored-births : (now : List ℕ) (s : Shown) (pointers : Place → Pointer) (past : Past) → IsStored now s pointers past → (place : Place) → IsPlace place → (pointers place).birth ≤ s.line.synced
stored-births now s pointers past x place in_range =
    elim (none_or_opens now (frame_at s s.line.synced) pointers x.synced.objects x.tree place in_range) as (λ _. (pointers place).birth ≤ s.line.synced) [
      | inl none ↦ let zero_is : (pointers place).birth ≡ 0 = ap (λ (p : Pointer). p.birth) none in omega (arith, zero_is)
      | inr o ↦ (o.1).born
    ]

-- a tree has the same addresses wherever it is held with its pointers
pub tree-along : (image other : List ℕ) (frame grown : Frame) (pointers : Place → Pointer) (before after : FinMap nat_cmp (List ℕ)) → HoldsTree image frame pointers before → HoldsTree other grown pointers after
    → (address : ℕ) → IsInTree image (pointers Root) address → IsInTree other (pointers Root) address
tree-along image other frame grown pointers before after olds news address is =
    let t = in-tree image frame pointers before olds address is in
    subst (λ (a : ℕ). IsInTree other (pointers Root) a) t.2 (told-in_tree other grown pointers after news t.0 t.1 t.3)

-- the free blocks are the same where the tree has the same addresses
pub free-along : (image other : List ℕ) (s : Shown) → ((address : ℕ) → IsInTree image s.root address → IsInTree other s.root address)
    → ((address : ℕ) → IsInTree other s.root address → IsInTree image s.root address) → AreFree image s → AreFree other s
free-along image other s there back x = record {
  in_area = x.in_area;
  not_in_tree = λ address free is. x.not_in_tree address free (back address is);
  not_in_log = x.not_in_log;
  not_taken = x.not_taken;
  all_others = λ address used area. elim (x.all_others address used area) as (λ _. IsInTree other s.root address ⊎ IsInLog s.log address ⊎ (is_in address (taken_of s.sync) ≡ true)) [
    | inl is ↦ inl (there address is)
    | inr h ↦ inr h
  ];
}

-- where each block is the same, so is each block of a tree
pub blocks-along : (blocks : ℕ) (image other : List ℕ) (pointers : Place → Pointer) → ArePlaced blocks pointers → SameBlocks blocks image other → (place : Place) → IsPlace place → SameBlock image other (pointers place)
blocks-along blocks image other pointers placed same place in_range some = elim (placed place in_range) as (λ _. part other (pointers place).address block_size ≡ part image (pointers place).address block_size) [
  | inl none ↦ absurd (some none)
  | inr is ↦ same.each (pointers place).address is
]

-- no block becomes a log block then
pub same-no_log : (now later : List ℕ) → HasNoLogBlock now → SameBlocks (block_count (length now)) now later → HasNoLogBlock later
same-no_log now later none same address area =
    let before : IsBlockAddress (block_count (length now)) address = subst (λ (n : ℕ). IsBlockAddress (block_count n) address) same.size area in
    subst (λ (l : List ℕ). number_at l 0 ≢ 6) (sym (same.each address before)) (none address before)

-- so does no change at all
pub no-change : (blocks : ℕ) (now : List ℕ) → SameBlocks blocks now now
no-change blocks now = record { size = refl; each = λ address is. refl }

-- a block of the area lies within the bytes
pub address-fits : (blocks size address : ℕ) → blocks ≡ block_count size → IsBlockAddress blocks address → address + block_size ≤ size
address-fits blocks size address counted is =
    let at : address ≡ 4194304 + 4096 * is.0 = is.2 in
    let below : is.0 < blocks = is.1 in
    let count : blocks ≡ (size - 524288 - 4194304) / 4096 = counted in
    omega (arith, at, below, count)

module _ (now later : List ℕ) (s : Shown) (pointers : Place → Pointer) (past : Past) where
  -- what is stored stays where the blocks of the tree are the same
  pub stored-along : IsStored now s pointers past → length later ≡ length now → ((place : Place) → IsPlace place → SameBlock now later (pointers place)) → IsStored later s pointers past
  stored-along x size same = record {
    synced = x.synced;
    replayed = x.replayed;
    blocks = x.blocks ∙ ap (λ (n : ℕ). block_count n) (sym size);
    tree = tree;
    root = x.root;
    free = free-along now later s there back x.free;
    log_in_area = x.log_in_area;
    log_places = x.log_places;
    log_apart = λ address in_log is. x.log_apart address in_log (back address is);
  }
    where
      frame : Frame
      frame = frame_at s s.line.synced

      tree : HoldsTree later frame pointers x.synced.objects
      tree = holds-elsewhere now later frame frame refl refl (omega arith) (omega arith) pointers x.synced.objects x.tree same

      there : (address : ℕ) → IsInTree now s.root address → IsInTree later s.root address
      there address = subst (λ (root : Pointer). IsInTree now root address → IsInTree later root address) x.root (tree-along now later frame frame pointers x.synced.objects x.synced.objects x.tree tree address)

      back : (address : ℕ) → IsInTree later s.root address → IsInTree now s.root address
      back address = subst (λ (root : Pointer). IsInTree later root address → IsInTree now root address) x.root (tree-along later now frame frame pointers x.synced.objects x.synced.objects tree x.tree address)

  -- a running sync goes on where what it has written stands
  pub syncing-along : (new : NewTree) (more : ℕ) → (x : IsSyncing now s pointers new past) → more ≤ total_calls new → length later ≡ length now
      → ((i : ℕ) (b : NewBlock) → i < more → slice_get new.blocks i ≡ Some b → IsBlockWritten later s.blocks b) → IsSyncing later s pointers (record new { done = more }) past
  syncing-along new more x bound size stands = record {
    group = x.group;
    plan = x.plan;
    syncing = x.syncing;
    running = x.running;
    synced = x.synced;
    replayed = x.replayed;
    planned = x.planned;
    are = x.are;
    leaves = x.leaves;
    log_apart = x.log_apart;
    not_log = x.not_log;
    header = x.header;
    slot = x.slot;
    named = subst (λ (n : ℕ). WritesName new.stages n s.guid x.group x.synced.name x.plan.contents.name) (sym size) x.named;
    done = bound;
    written = stands;
  }

  -- one more block is written
  module _ (new : NewTree) (b : NewBlock) (x : IsStored now s pointers past) (y : IsSyncing now s pointers new past) (at : slice_get new.blocks new.done ≡ Some b) (is : later ≡ put b.address b.content now) where
    area : IsBlockAddress s.blocks b.address
    area = y.are.in_area new.done b at

    fits : b.address + length b.content ≤ length now
    fits =
        let low = address-fits s.blocks (length now) b.address x.blocks area in
        let long = y.are.whole new.done b at in
        omega (arith, low, long)

    size : length later ≡ length now
    size = ap (λ (l : List ℕ). length l) is ∙ length-put b.address b.content now fits

    -- a block at another address is as before
    other : (address : ℕ) → IsBlockAddress s.blocks address → b.address ≢ address → part later address block_size ≡ part now address block_size
    other address in_area differ =
        let side : Apart b.address (length b.content) address block_size =
        subst (λ (n : ℕ). Apart b.address n address block_size) (sym (y.are.whole new.done b at)) (blocks-apart s.blocks b.address address area in_area differ) in
        ap (λ (l : List ℕ). part l address block_size) is ∙ part-put_apart b.address b.content now address block_size fits side

    -- and this one has its bytes
    here : part later b.address block_size ≡ b.content
    here = ap (λ (l : List ℕ). part l b.address block_size) is ∙ ap (λ (n : ℕ). part (put b.address b.content now) b.address n) (sym (y.are.whole new.done b at)) ∙ part-put_same b.address b.content now fits

    pub written-stored : IsStored later s pointers past
    written-stored = stored-along x size (λ place in_range some. same place in_range some)
      where
        same : (place : Place) → IsPlace place → SameBlock now later (pointers place)
        same place in_range some = elim (stored-placed now s pointers past x place in_range) as (λ _. part later (pointers place).address block_size ≡ part now (pointers place).address block_size) [
          | inl none ↦ absurd (some none)
          | inr in_area ↦ other (pointers place).address in_area (y.leaves place in_range some new.done b at)
        ]

    pub written-syncing : IsSyncing later s pointers (record new { done = new.done + 1 }) past
    written-syncing = syncing-along new (new.done + 1) y (
        let below = slice_get_within new.blocks new.done b at in
        let long = length-calls (length new.blocks) (is_some new.stages) even_labels odd_labels in
        omega (arith, below, long)
        ) size stands
      where
        stands : (i : ℕ) (c : NewBlock) → i < new.done + 1 → slice_get new.blocks i ≡ Some c → IsBlockWritten later s.blocks c
        stands i c below at_c = elim (cases_lt i new.done) as (λ _. IsBlockWritten later s.blocks c) [
          | inl before ↦
              let differ : b.address ≢ c.address = λ same. (let one = y.are.apart new.done i b c at at_c same in omega (arith, one, before)) in
              record { in_area = y.are.in_area i c at_c; stands = other c.address (y.are.in_area i c at_c) differ ∙ (y.written i c before at_c).stands }
          | inr from ↦
              let one : new.done ≡ i = omega (arith, from, below) in
              let same : b ≡ c = Some-injective (sym at ∙ ap (λ (j : ℕ). slice_get new.blocks j) one ∙ at_c) in
              subst (λ (d : NewBlock). IsBlockWritten later s.blocks d) same (record { in_area = area; stands = here })
        ]

    -- which is no log block
    pub written-no_log : HasNoLogBlock now → HasNoLogBlock later
    written-no_log none address area = by_address (cases_order b.address address)
      where
        before : IsBlockAddress (block_count (length now)) address
        before = subst (λ (n : ℕ). IsBlockAddress (block_count n) address) size area

        differs : b.address ≢ address → number_at (part later address block_size) 0 ≢ 6
        differs differ = subst (λ (l : List ℕ). number_at l 0 ≢ 6) (sym (other address (subst (λ (n : ℕ). IsBlockAddress n address) (sym x.blocks) before) differ)) (none address before)

        by_address : (b.address ≡ address) ⊎ ((b.address < address) ⊎ (address < b.address)) → number_at (part later address block_size) 0 ≢ 6
        by_address (inl same) = subst (λ (l : List ℕ). number_at l 0 ≢ 6) (sym (ap (λ (a : ℕ). part later a block_size) (sym same) ∙ here)) (y.not_log new.done b at)
        by_address (inr (inl less)) = differs (λ same. omega (arith, same, less))
        by_address (inr (inr more)) = differs (λ same. omega (arith, same, more))

  -- each block is as it was
  pub same-stored : IsStored now s pointers past → SameBlocks s.blocks now later → IsStored later s pointers past
  same-stored x same = stored-along x same.size (blocks-along s.blocks now later pointers (stored-placed now s pointers past x) same)

  -- a call of a running sync after its blocks
  pub same-syncing : (new : NewTree) → IsSyncing now s pointers new past → length new.blocks ≤ new.done → new.done + 1 ≤ total_calls new → SameBlocks s.blocks now later
      → IsSyncing later s pointers (record new { done = new.done + 1 }) past
  same-syncing new y behind bound same = syncing-along new (new.done + 1) y bound same.size (λ i b below at. record {
    in_area = y.are.in_area i b at;
    stands = same.each b.address (y.are.in_area i b at) ∙ (y.written i b (let within = slice_get_within new.blocks i b at in omega (arith, within, behind)) at).stands;
  })

-- bytes that are put outside the block area leave each block as it was
pub outside-put : (blocks : ℕ) (now : List ℕ) (place : ℕ) (content : List ℕ) → place + length content ≤ length now → (place + length content ≤ block_area) ⊎ (block_area + block_size * blocks ≤ place)
    → SameBlocks blocks now (put place content now)
outside-put blocks now place content fits out = record {
  size = length-put place content now fits;
  each = λ address is. part-put_apart place content now address block_size fits (away address is out);
}
  where
    away : (address : ℕ) → IsBlockAddress blocks address → (place + length content ≤ block_area) ⊎ (block_area + block_size * blocks ≤ place) → Apart place (length content) address block_size
    away address is (inl before) = let at : address ≡ block_address is.0 = is.2 in inl (omega (arith, at, before))
    away address is (inr behind) =
        let at : address ≡ block_address is.0 = is.2 in
        let below : is.0 < blocks = is.1 in
        inr (omega (arith, at, below, behind))

-- so a write of a config or an uberblock leaves each block as it was
pub label-put : (now : List ℕ) (label place : ℕ) (content : List ℕ) → IsGeometry (length now) → label < 4 → label_place (length now) label ≤ place
    → place + length content ≤ label_place (length now) label + 262144 → SameBlocks (block_count (length now)) now (put place content now)
label-put now label place content geometry below from to =
    let apart = label-apart (length now) label place (length content) geometry below from to in
    outside-put (block_count (length now)) now place content apart.0 apart.1
