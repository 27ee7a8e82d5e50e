-- The stages of a create: what the calls so far make of the disk, and where a refused call stops them.
use Rattle.std.proofs.Common.{◌≡◌, ℕ, List, [], ◌∷◌, ◌++◌, Result, Ok, Err}
use Rattle.std.specs.Prelude.{IsErrAnd}
use Rattle.base.specs.disk.DiskCalls.{DiskCall, MakesInOrder, after_disk_calls}
use Rattle.base.specs.disk.DiskCalls.DiskCall.{Settle}
use Rattle.base.specs.declared.error.PoolError.{PoolError}
use Rattle.base.specs.disk.Disk.{Disk}
use Rattle.import_replay.specs.Creations.{first_config, first_uberblock}
use Rattle.import_replay.specs.CreateCalls.{clear_block, clear_tail, create_calls, each_block, each_label, write_config, write_uberblock}
use Rattle.import_replay.proofs.CreateCalls.{made_then, stops_early}

module _ (size : ℕ) (name : List ℕ) (guid moment : ℕ) where
  -- the stages
  abbrev tails : List DiskCall
  tails = each_label (clear_tail size)

  abbrev blocks : List DiskCall
  blocks = each_block size clear_block

  abbrev configs : List DiskCall
  configs = each_label (write_config size (first_config name guid size))

  abbrev uberblocks : List DiskCall
  uberblocks = each_label (write_uberblock size (first_uberblock guid moment))

  abbrev flush : List DiskCall
  flush = Settle ∷ []

  -- what has been made once all is cleared, and flushed; and once the configs are written, and flushed
  abbrev pub cleared : List DiskCall
  cleared = tails ++ blocks

  abbrev pub certain : List DiskCall
  certain = cleared ++ flush

  abbrev pub with_configs : List DiskCall
  with_configs = certain ++ configs

  abbrev pub certain_configs : List DiskCall
  certain_configs = with_configs ++ flush

  abbrev pub with_uberblocks : List DiskCall
  with_uberblocks = certain_configs ++ uberblocks

  module _ (start old new : Disk) where
    pub blocks_made : old ≡ after_disk_calls tails start → new ≡ after_disk_calls blocks old → new ≡ after_disk_calls cleared start
    blocks_made before made = made_then tails blocks (Ok tt) start old new before made

    pub first_flush_made : old ≡ after_disk_calls cleared start → new ≡ after_disk_calls flush old → new ≡ after_disk_calls certain start
    first_flush_made before made = made_then cleared flush (Ok tt) start old new before made

    pub configs_made : old ≡ after_disk_calls certain start → new ≡ after_disk_calls configs old → new ≡ after_disk_calls with_configs start
    configs_made before made = made_then certain configs (Ok tt) start old new before made

    pub second_flush_made : old ≡ after_disk_calls with_configs start → new ≡ after_disk_calls flush old → new ≡ after_disk_calls certain_configs start
    second_flush_made before made = made_then with_configs flush (Ok tt) start old new before made

    pub uberblocks_made : old ≡ after_disk_calls certain_configs start → new ≡ after_disk_calls uberblocks old → new ≡ after_disk_calls with_uberblocks start
    uberblocks_made before made = made_then certain_configs uberblocks (Ok tt) start old new before made

    pub last_flush_made : (r : Result (Unit {0}) PoolError) → old ≡ after_disk_calls with_uberblocks start → MakesInOrder flush r old new → MakesInOrder (create_calls size name guid moment) r start new
    last_flush_made r before made = made_then with_uberblocks flush r start old new before made

    -- a refusal in each of them, which is passed on
    module _ (r : Result (Unit {0}) PoolError) (x : PoolError) (is : IsErrAnd r (λ e. e ≡ x)) where
      pub stops_in_tails : MakesInOrder tails (Err x) start new → MakesInOrder (create_calls size name guid moment) r start new
      stops_in_tails refused = stops_early tails (blocks ∷ flush ∷ configs ∷ flush ∷ uberblocks ∷ flush ∷ []) r x start new is refused

      pub stops_in_blocks : old ≡ after_disk_calls tails start → MakesInOrder blocks (Err x) old new → MakesInOrder (create_calls size name guid moment) r start new
      stops_in_blocks before refused =
          stops_early cleared (flush ∷ configs ∷ flush ∷ uberblocks ∷ flush ∷ []) r x start new is (made_then tails blocks (Err x) start old new before refused)

      pub stops_in_first_flush : old ≡ after_disk_calls cleared start → MakesInOrder flush (Err x) old new → MakesInOrder (create_calls size name guid moment) r start new
      stops_in_first_flush before refused =
          stops_early certain (configs ∷ flush ∷ uberblocks ∷ flush ∷ []) r x start new is (made_then cleared flush (Err x) start old new before refused)

      pub stops_in_configs : old ≡ after_disk_calls certain start → MakesInOrder configs (Err x) old new → MakesInOrder (create_calls size name guid moment) r start new
      stops_in_configs before refused =
          stops_early with_configs (flush ∷ uberblocks ∷ flush ∷ []) r x start new is (made_then certain configs (Err x) start old new before refused)

      pub stops_in_second_flush : old ≡ after_disk_calls with_configs start → MakesInOrder flush (Err x) old new → MakesInOrder (create_calls size name guid moment) r start new
      stops_in_second_flush before refused =
          stops_early certain_configs (uberblocks ∷ flush ∷ []) r x start new is (made_then with_configs flush (Err x) start old new before refused)

      pub stops_in_uberblocks : old ≡ after_disk_calls certain_configs start → MakesInOrder uberblocks (Err x) old new → MakesInOrder (create_calls size name guid moment) r start new
      stops_in_uberblocks before refused =
          stops_early with_uberblocks (flush ∷ []) r x start new is (made_then certain_configs uberblocks (Err x) start old new before refused)
