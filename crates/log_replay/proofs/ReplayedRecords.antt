-- A replay of some records, with one more that takes place, is the replay of all of them.
use Rattle.std.proofs.Common.{◌≡◌, ℕ, ◌+◌, List, [], ◌∷◌, ◌++◌, map, None, Ok, Err, refl, ap, sym, ◌∙◌, append-nil}
use Rattle.std.specs.Prelude.{unwrap_or}
use Rattle.std.proofs.lemmas.Grind.{flat_map-append}
use Rattle.std.proofs.lemmas.List.{map-append}
use Rattle.std.proofs.lemmas.List.Elements.{All-nil, All-push}
use Rattle.base.specs.declared.error.PoolError.{PoolError}
use Rattle.base.specs.tree.Mount.{Placed, apply_records, entry_of_record}
use Rattle.base.specs.formats.Records as formats
use Rattle.base.specs.history.Contents.{Contents}
use Rattle.base.specs.history.History.{Entry, apply_all, run}
use Rattle.base.specs.history.Sequences.{in_turn}
use Rattle.base.proofs.common.Sequences.{in_turn-append, joined}
use Rattle.contents.specs.declared.synced_tree.SyncedTree.{SyncedTree}
use Rattle.contents.specs.ContentsShown.{contents_of}
use Rattle.contents.specs.Judging.{ApplyTo}
use Rattle.contents.specs.Ops.{AreOpsAllowed}
use Rattle.extents.specs.Patches.{laid_over, no_patch, patched}
use Rattle.extents.specs.Synced.{patched_contents}
use Rattle.extents.specs.Tables.{AppliesOps, name_of, patches_of}
use Rattle.extents.proofs.LaidObjects.{laid_nothing}
use Rattle.extents.proofs.PatchedObjects.{patched_nothing}
use Rattle.extents.proofs.SamePatches.{added_changes}
use Rattle.records.specs.declared.record.Record.{Record}
use Rattle.records.specs.Records.{record_fields}
use Rattle.tree_blocks.proofs.TreeObjects.{tree_numbered}
use Rattle.log_replay.specs.declared.replaying.Replayed.{Replayed}
use Rattle.log_replay.specs.Replays.{IsRecordRefused, IsReplayOf, ops_of_records, record_in}
use Rattle.log_replay.proofs.AppliedRecords.{reached_contents}

-- a record that takes place after others
pub records_reached : (records : List Placed) (p : Placed) (c mid after : Contents) → apply_records records c ≡ Ok mid → apply_all p.logged.ops mid ≡ Ok after
    → apply_records (records ++ p ∷ []) c ≡ Ok after
records_reached records p c mid after before last =
    let entry : Placed → Entry = λ q. entry_of_record q.logged in
    ap (λ entries. in_turn run entries c) (map-append entry records (p ∷ []))
    ∙ in_turn-append run (map entry records) (entry p ∷ []) c mid after before (joined (run (entry p) mid) (in_turn run []) after after last refl)

-- at first there are no changes and no records
pub nothing_replayed : (group : ℕ) (c : SyncedTree) (r : Replayed) → ((n : ℕ) → patches_of r.extents n ≡ no_patch) → name_of r.extents ≡ None → r.records.items ≡ [] → IsReplayOf group (contents_of c) [] r
nothing_replayed group c r none unnamed empty = record {
  applied = let same : laid_over (patches_of r.extents) (contents_of c).objects ≡ (contents_of c).objects = laid_nothing (patches_of r.extents) (contents_of c).objects none (tree_numbered c.tree) in
      λ i. Ok (record { name = unwrap_or ((sym unnamed) i) (contents_of c).name; objects = sym same i });
  patches = λ n below. ap (λ p. patched p below) (none n) ∙ patched_nothing below ∙ rw empty refl;
  records_are = ap (map record_fields) empty;
  allowed = rw empty (All-nil (λ (x : Record). AreOpsAllowed x.ops));
}

-- With one record more, which takes place on what was reached, and whose operations are added to the changes.
module _ (group : ℕ) (synced : Contents) (records : List Placed) (p : Placed) (old new : Replayed) (x : Record) (is : IsReplayOf group synced records old)
    (fields : record_fields x ≡ record_in (group + 4) p) (allowed : AreOpsAllowed x.ops) (applies : ApplyTo x.ops (laid_over (patches_of old.extents) synced.objects))
    (added : AppliesOps x.ops old.extents new.extents) (pushed : new.records.items ≡ old.records.items ++ x ∷ []) where
  same_ops : x.ops ≡ p.logged.ops
  same_ops = ap (λ (r : formats.Record). r.ops) fields

  abbrev after : Contents
  after = (applies (unwrap_or (name_of old.extents) synced.name)).0

  reaches : apply_all x.ops (patched_contents (patches_of old.extents) (name_of old.extents) synced) ≡ Ok after
  reaches = (applies (unwrap_or (name_of old.extents) synced.name)).1

  pub one_more_replayed : IsReplayOf group synced (records ++ p ∷ []) new
  one_more_replayed = record {
    applied = records_reached records p synced _ after is.applied (ap (λ ops. apply_all ops (patched_contents (patches_of old.extents) (name_of old.extents) synced)) (sym same_ops) ∙ reaches)
        ∙ ap Ok (reached_contents x.ops old.extents new.extents synced after allowed added reaches);
    patches = rw (pushed, flat_map-append (λ (r : Record). r.ops) old.records.items (x ∷ []), append-nil x.ops)
        (added_changes (ops_of_records old.records.items) x.ops old.extents new.extents is.patches added);
    records_are = ap (map record_fields) pushed ∙ map-append record_fields old.records.items (x ∷ [])
        ∙ (λ i. is.records_are i ++ fields i ∷ []) ∙ sym (map-append (record_in (group + 4)) records (p ∷ []));
    allowed = rw pushed (All-push (λ (r : Record). AreOpsAllowed r.ops) old.records.items x is.allowed allowed);
  }

-- A record that can't take place on what was reached is the first such one of any records that go on with it.
pub one_refused : (group : ℕ) (synced : Contents) (records rest : List Placed) (p : Placed) (r : Replayed) (e : PoolError) → IsReplayOf group synced records r
    → apply_all p.logged.ops (patched_contents (patches_of r.extents) (name_of r.extents) synced) ≡ Err e → IsRecordRefused (records ++ p ∷ rest) synced p.address
one_refused group synced records rest p r e is refused = record {
  before = records;
  refused = p;
  after = rest;
  split = refl;
  reached = patched_contents (patches_of r.extents) (name_of r.extents) synced;
  reaches = is.applied;
  error = e;
  refuses = refused;
  address_is = refl;
}
