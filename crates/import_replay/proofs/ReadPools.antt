-- What is read of a device without a write or a flush is of its image: an active pool, the tree under its root and its
-- chain, or the first damage of that tree. A flush before it leaves that image.
use Rattle.std.proofs.Common.{◌≡◌, ⊎_elim, ℕ, suc, List, [], ◌∷◌, length, Ok, sym, subst, arith}
use Rattle.std.specs.Prelude.{All, Contains}
use Rattle.std.specs.Ordering.{nat_cmp}
use Rattle.std.specs.FinMap.{FinMap}
use Rattle.std.proofs.lemmas.List.Elements.{All-contains, Contains-append_cases}
use Rattle.base.specs.tree.Mount.{HasPool, IsChainOf, IsTreeDamaged, header_of}
use Rattle.base.specs.disk.Calls.{Flushes}
use Rattle.base.specs.disk.Disk.{Disk, bytes_of}
use Rattle.base.specs.formats.Blocks.{Frame}
use Rattle.base.specs.formats.Chain.{IsChain, LogPiece, addresses_of, chain_addresses}
use Rattle.base.specs.formats.Geometry.{IsBlockAddress}
use Rattle.base.specs.formats.Uberblocks.{Uberblock}
use Rattle.base.specs.tree.Damages.{IsFirstDamage}
use Rattle.base.specs.kept.PlacedTrees.{HoldsTree}
use Rattle.base.proofs.disk.Regions.{flushed_clean}
use Rattle.intent_log.specs.Chains.{IsSoundPiece}
use Rattle.tree_blocks.specs.declared.tree.Tree.{Tree}
use Rattle.tree_blocks.specs.Pointers.{pointers_of}
use Rattle.import_replay.specs.ReadPools.{HoldsPool, IsReadPool, frame_of_size}

module _ (image : List ℕ) (found : Disk) (size : ℕ) (frame : Frame) (u : Uberblock) (name : List ℕ) (long : length image ≡ size) (same : bytes_of found.now ≡ image)
    (pool : HasPool image u name) (framed : frame ≡ frame_of_size u size) where
  pub is_read_pool : (tree : Tree) (objects : FinMap nat_cmp (List ℕ)) (chain : List LogPiece) → HoldsTree (bytes_of found.now) frame (pointers_of tree) objects → tree.root ≡ u.root → IsChainOf image u chain
      → HoldsPool image size u name tree objects chain
  is_read_pool tree objects chain held root chain_is = record {
    long = long;
    pool = pool;
    held = subst (λ (b : List ℕ). HoldsTree b (frame_of_size u size) (pointers_of tree) objects) same
        (subst (λ (f : Frame). HoldsTree (bytes_of found.now) f (pointers_of tree) objects) framed held);
    root = root;
    chain_is = chain_is;
  }

  pub is_read_damaged : (kind address : ℕ) → IsFirstDamage (bytes_of found.now) frame u.root kind address → IsTreeDamaged image kind address
  is_read_damaged kind address damage = record {
    u = u;
    name = name;
    pool = pool;
    damage = subst (λ (n : ℕ). IsFirstDamage image (frame_of_size u n) u.root kind address) (sym long)
        (subst (λ (b : List ℕ). IsFirstDamage b (frame_of_size u size) u.root kind address) same
        (subst (λ (f : Frame). IsFirstDamage (bytes_of found.now) f u.root kind address) framed damage));
  }

-- the chain that was read in this frame, by the rules of the uberblock's version, is the uberblock's
pub is_read_chain : (image : List ℕ) (size : ℕ) (frame : Frame) (u : Uberblock) (chain : List LogPiece) → length image ≡ size → frame ≡ frame_of_size u size
    → IsChain image (record frame { version = u.version }) u.import_number (header_of u) chain → IsChainOf image u chain
is_read_chain image size frame u chain long framed is =
    subst (λ (n : ℕ). IsChain image (frame_of_size u n) u.import_number (header_of u) chain) (sym long)
    (subst (λ (f : Frame). IsChain image (record f { version = u.version }) u.import_number (header_of u) chain) framed is)

-- what is read after a good flush is of the image before it
pub same_flushed : (old mid : Disk) → Flushes old (Ok tt) mid → bytes_of mid.now ≡ bytes_of old.now
same_flushed old mid flushes = (flushed_clean old mid flushes).1

pub read_behind_flush : (old mid : Disk) (size : ℕ) (u : Uberblock) (name : List ℕ) (tree : Tree) (chain : List LogPiece) → Flushes old (Ok tt) mid
    → IsReadPool (bytes_of mid.now) size u name tree chain → IsReadPool (bytes_of old.now) size u name tree chain
read_behind_flush old mid size u name tree chain flushes read = subst (λ (b : List ℕ). IsReadPool b size u name tree chain) (same_flushed old mid flushes) read

-- the blocks of a chain that was read lie in the area
pub sound_in_area : (blocks : ℕ) (chain : List LogPiece) → All (IsSoundPiece blocks) chain → (address : ℕ) → Contains (chain_addresses chain) address → IsBlockAddress blocks address
sound_in_area blocks [] sound address (i, low, is) = absurd (omega (arith, low))
sound_in_area blocks (b ∷ bs) sound address there =
    ⊎_elim (λ here. All-contains (IsBlockAddress blocks) (addresses_of b) address (sound 0 b (omega arith)).in_area here)
    (λ behind. sound_in_area blocks bs (λ k d h. sound (suc k) d (omega (arith, h))) address behind) (Contains-append_cases (addresses_of b) (chain_addresses bs) address there)
