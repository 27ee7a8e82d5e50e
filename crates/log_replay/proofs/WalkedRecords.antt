-- A replay that comes from record to record and from piece to piece of a chain is that of the chain.
use Rattle.std.proofs.Common.{◌≡◌, ℕ, ◌+◌, true, false, List, [], ◌∷◌, ◌++◌, map, filter, Err, refl, ap, sym, ◌∙◌, append-nil, append_assoc}
use Rattle.std.specs.Prelude.{nat_lt}
use Rattle.std.proofs.lemmas.Grind.{flat_map-append}
use Rattle.std.proofs.lemmas.List.Elements.{filter-append}
use Rattle.base.specs.declared.error.PoolError.{PoolError}
use Rattle.base.specs.tree.Mount.{Placed, placed_records, records_above}
use Rattle.base.specs.formats.Chain.{LogPiece}
use Rattle.base.specs.formats.Records as formats
use Rattle.base.specs.history.Contents.{Contents}
use Rattle.base.specs.history.History.{apply_all}
use Rattle.contents.specs.Judging.{ApplyTo}
use Rattle.contents.specs.Ops.{AreOpsAllowed}
use Rattle.extents.specs.Patches.{laid_over}
use Rattle.extents.specs.Synced.{patched_contents}
use Rattle.extents.specs.Tables.{AppliesOps, name_of, patches_of}
use Rattle.records.specs.declared.record.Record.{Record}
use Rattle.records.specs.Records.{record_fields}
use Rattle.log_replay.specs.declared.replaying.Replayed.{Replayed}
use Rattle.log_replay.specs.Replays.{IsRecordRefused, IsReplayOf, record_in}
use Rattle.log_replay.specs.Walked.{HasReplayedTo, above_at, placed_at}
use Rattle.log_replay.proofs.ReplayedRecords.{one_more_replayed, one_refused}

-- the records above a group of a piece and of the pieces after it
pub above-cons : (group : ℕ) (b : LogPiece) (bs : List LogPiece) → records_above group (b ∷ bs) ≡ records_above group (b ∷ []) ++ records_above group bs
above-cons group b bs =
    let placed : LogPiece → List Placed = λ (x : LogPiece). map (λ r. record { address = x.address; logged = r }) x.records in
    ap (filter (λ (p : Placed). nat_lt group p.logged.group)) (flat_map-append placed (b ∷ []) bs)
    ∙ filter-append (λ (p : Placed). nat_lt group p.logged.group) (placed_records (b ∷ [])) (placed_records bs)

map-map : {A B C : Type 0} (g : B → C) (f : A → B) (xs : List A) → map g (map f xs) ≡ map (λ x. g (f x)) xs
map-map g f [] = refl
map-map g f (x ∷ xs) = ap (λ ys. g (f x) ∷ ys) (map-map g f xs)

-- those of one piece, as its records are taken out of it
pub above-piece : (group : ℕ) (b : LogPiece) (records : List Record) → map record_fields records ≡ b.records → records_above group (b ∷ []) ≡ above_at group b.address records
above-piece group b records fields =
    let place : formats.Record → Placed = λ r. record { address = b.address; logged = r } in
    let placed : placed_records (b ∷ []) ≡ map (placed_at b.address) records =
    append-nil (map place b.records) ∙ ap (map place) (sym fields) ∙ map-map place record_fields records in
    ap (filter (λ (p : Placed). nat_lt group p.logged.group)) placed

-- the next record is one of a group above, or is passed over
pub above-next : (group address : ℕ) (r : Record) (records : List Record) → nat_lt group r.group.0 ≡ true → above_at group address (r ∷ records) ≡ placed_at address r ∷ above_at group address records
above-next group address r records above = rw above refl

pub above-passed : (group address : ℕ) (r : Record) (records : List Record) → nat_lt group r.group.0 ≡ false → above_at group address (r ∷ records) ≡ above_at group address records
above-passed group address r records up_to = rw up_to refl

module _ (group : ℕ) (synced : Contents) (records : List Placed) where
  -- no record is left, or all are
  pub begun : (r : Replayed) → IsReplayOf group synced [] r → HasReplayedTo group synced records records r
  begun r is = record { done = []; split = refl; replayed = is }

  pub ended : (r : Replayed) → HasReplayedTo group synced records [] r → IsReplayOf group synced records r
  ended r is = rw (is.split, append-nil is.done) is.replayed

  module _ (p : Placed) (rest : List Placed) (old : Replayed) (is : HasReplayedTo group synced records (p ∷ rest) old) where
    -- a record that is left takes place
    pub came_on : (new : Replayed) (x : Record) → record_fields x ≡ record_in (group + 4) p → AreOpsAllowed x.ops
        → ApplyTo x.ops (laid_over (patches_of old.extents) synced.objects) → AppliesOps x.ops old.extents new.extents
        → new.records.items ≡ old.records.items ++ x ∷ [] → HasReplayedTo group synced records rest new
    came_on new x fields allowed applies added pushed = record {
      done = is.done ++ p ∷ [];
      split = is.split ∙ sym (append_assoc is.done (p ∷ []) rest);
      replayed = one_more_replayed group synced is.done p old new x is.replayed fields allowed applies added pushed;
    }

    -- or it can't
    pub came_to_refused : (e : PoolError) → apply_all p.logged.ops (patched_contents (patches_of old.extents) (name_of old.extents) synced) ≡ Err e → IsRecordRefused records synced p.address
    came_to_refused e refused = rw is.split (one_refused group synced is.done rest p old e is.replayed refused)
