-- The name of a pool by its paths is that of what the image mounts.
use Rattle.std.proofs.Common.{◌≡◌, ◌+◌, ◌<◌, ◌++◌, [], ◌∷◌, Bool, List, Ok, Option, None, Some, false, get_or, length, map, refl, sym, ap, subst, take, true, ◌∙◌, append-nil, ℕ}
use Rattle.std.specs.Prelude.{All, nat_lt, unwrap_or}
use Rattle.std.specs.List.{flat_map}
use Rattle.std.proofs.lemmas.Bool.{true≢false}
use Rattle.std.proofs.lemmas.Grind.{flat_map-append}
use Rattle.std.proofs.lemmas.List.{take_more}
use Rattle.std.proofs.lemmas.List.Elements.{All-append, All-filter, All-head, All-map, All-nil, All-tail}
use Rattle.base.specs.declared.operation.Op.{Op}
use Rattle.base.specs.declared.operation.Op.TheVariants.{Create, Remove, SetLength, SetName, Write}
use Rattle.base.specs.formats.Chain.{LogPiece}
use Rattle.base.specs.formats.Names.{is_name}
use Rattle.base.specs.formats.Records as formats
use Rattle.base.specs.formats.Records.{IsAllowed}
use Rattle.base.specs.formats.Uberblocks.{Uberblock}
use Rattle.base.specs.history.Contents.{Contents, name_given_by_all}
use Rattle.base.specs.history.History.{Entry}
use Rattle.base.specs.tree.Mount.{MountsTo, Placed, apply_records, entry_of_record, placed_records, records_above}
use Rattle.base.proofs.crash.OneMount.{one-name}
use Rattle.base.proofs.history.Names.{name-replay}
use Rattle.contents.specs.Ops.{AreOpsAllowed, IsOpAllowed}
use Rattle.log_replay.specs.Replays.{IsChainAllowed, IsPieceAllowed}
use Rattle.log_replay.specs.Walked.{above_at, placed_at}
use Rattle.log_replay.proofs.ChainWalks.{record_ops}
use Rattle.log_replay.proofs.WalkedRecords.{above-cons, above-next, above-passed, above-piece}
use Rattle.records.specs.Records.{record_fields}
use Rattle.records.specs.declared.record.Record.{Record}
use Rattle.object_views.specs.Listings.{records_of}
use Rattle.object_views.specs.PoolNames.{name_after, name_by, name_of, ops_above, ops_in}
use Rattle.object_views.specs.PoolPaths.{ArePathsOf, uberblock_of}
use Rattle.object_views.specs.declared.paths.PoolPaths.{PoolPaths}
use Rattle.object_views.proofs.ObjectViews.{mine, same_chain}

-- operations after others
after-append : (xs ys : List Op) (name : List ℕ) → name_after (xs ++ ys) name ≡ name_after ys (name_after xs name)
after-append [] ys name = refl
after-append (op ∷ xs) ys name = after-append xs ys (name_by op name)

-- the operations that the items of a list have, item by item
module _ {X : Type 0} (f : X → List Op) (xs : List X) (i : ℕ) (x : X) (low : i < length xs) (is : x ≡ get_or xs i x) where
  front : flat_map f (take (i + 1) xs) ≡ flat_map f (take i xs) ++ f x
  front =
      ap (λ (ys : List X). flat_map f ys) (take_more xs i x low ∙ ap (λ (y : X). take i xs ++ y ∷ []) (sym is))
      ∙ flat_map-append f (take i xs) (x ∷ []) ∙ ap (λ (ops : List Op). flat_map f (take i xs) ++ ops) (append-nil (f x))

  pub named_next : (old mid new : List ℕ) → mid ≡ name_after (flat_map f (take i xs)) old → new ≡ name_after (f x) mid → new ≡ name_after (flat_map f (take (i + 1) xs)) old
  named_next old mid new first second =
      second ∙ ap (name_after (f x)) first ∙ sym (after-append (flat_map f (take i xs)) (f x) old) ∙ ap (λ (ops : List Op). name_after ops old) (sym front)

-- all operations, piece by piece, record by record, and one by one
pub each_piece : (group : ℕ) (bs : List LogPiece) → flat_map (λ (b : LogPiece). ops_in (records_above group (b ∷ []))) bs ≡ ops_in (records_above group bs)
each_piece group [] = refl
each_piece group (b ∷ bs) =
    ap (λ (ops : List Op). ops_in (records_above group (b ∷ [])) ++ ops) (each_piece group bs)
    ∙ sym (ap ops_in (above-cons group b bs) ∙ flat_map-append (λ (p : Placed). p.logged.ops) (records_above group (b ∷ [])) (records_above group bs))

each_record : (group address : ℕ) (rs : List Record) → flat_map (ops_above group) rs ≡ ops_in (above_at group address rs)
each_record group address [] = refl
each_record group address (r ∷ rs) = by (nat_lt group r.group.0) refl (each_record group address rs)
  where
    by : (above : Bool) → nat_lt group r.group.0 ≡ above → flat_map (ops_above group) rs ≡ ops_in (above_at group address rs) → ops_above group r ++ flat_map (ops_above group) rs ≡ ops_in (above_at group address (r ∷ rs))
    by true is rest =
        let own : ops_above group r ≡ r.ops = rw is refl in
        ap (λ (ops : List Op). ops ++ flat_map (ops_above group) rs) own ∙ ap (λ (ops : List Op). r.ops ++ ops) rest ∙ sym (ap ops_in (above-next group address r rs is))
    by false is rest =
        let own : ops_above group r ≡ [] = rw is refl in
        ap (λ (ops : List Op). ops ++ flat_map (ops_above group) rs) own ∙ rest ∙ sym (ap ops_in (above-passed group address r rs is))

pub piece_ops : (group : ℕ) (piece : LogPiece) (records : List Record) → map record_fields records ≡ piece.records → flat_map (ops_above group) records ≡ ops_in (records_above group (piece ∷ []))
piece_ops group piece records fields = each_record group piece.address records ∙ sym (ap ops_in (above-piece group piece records fields))

pub each_op : (ops : List Op) → flat_map (λ (op : Op). op ∷ []) ops ≡ ops
each_op [] = refl
each_op (op ∷ ops) = ap (λ (rest : List Op). op ∷ rest) (each_op ops)

-- a name that is allowed is taken, so the name is the one that was given last
is_taken : (bytes name : List ℕ) → IsOpAllowed (SetName bytes) → name_by (SetName bytes) name ≡ bytes
is_taken bytes name allowed = by (is_name bytes) refl
  where
    by : (good : Bool) → is_name bytes ≡ good → name_by (SetName bytes) name ≡ bytes
    by true is = rw is refl
    by false is = absurd (true≢false (rw is at allowed.0))

taken : (ops : List Op) → AreOpsAllowed ops → (given : Option (List ℕ)) (first : List ℕ) → name_after ops (unwrap_or given first) ≡ unwrap_or (name_given_by_all ops given) first
taken [] allowed given first = refl
taken (Create n ∷ ops) allowed given first = taken ops (All-tail IsOpAllowed (Create n) ops allowed) given first
taken (Remove n ∷ ops) allowed given first = taken ops (All-tail IsOpAllowed (Remove n) ops allowed) given first
taken (Write n offset bytes ∷ ops) allowed given first = taken ops (All-tail IsOpAllowed (Write n offset bytes) ops allowed) given first
taken (SetLength n size ∷ ops) allowed given first = taken ops (All-tail IsOpAllowed (SetLength n size) ops allowed) given first
taken (SetName bytes ∷ ops) allowed given first =
    ap (name_after ops) (is_taken bytes (unwrap_or given first) (All-head IsOpAllowed (SetName bytes) ops allowed)) ∙ taken ops (All-tail IsOpAllowed (SetName bytes) ops allowed) (Some bytes) first

-- all operations of a chain's records are allowed
abbrev IsPlacedAllowed : Placed → Type 0
IsPlacedAllowed p = IsAllowed p.logged

placed_allowed : (chain : List LogPiece) → IsChainAllowed chain → All IsPlacedAllowed (placed_records chain)
placed_allowed [] allowed = All-nil IsPlacedAllowed
placed_allowed (b ∷ chain) allowed =
    All-append IsPlacedAllowed (map (λ (r : formats.Record). record { address = b.address; logged = r }) b.records) (placed_records chain)
    (All-map IsPlacedAllowed (λ (r : formats.Record). record { address = b.address; logged = r }) b.records (All-head IsPieceAllowed b chain allowed))
    (placed_allowed chain (All-tail IsPieceAllowed b chain allowed))

ops_allowed : (records : List Placed) → All IsPlacedAllowed records → AreOpsAllowed (ops_in records)
ops_allowed [] allowed = All-nil IsOpAllowed
ops_allowed (p ∷ records) allowed =
    All-append IsOpAllowed p.logged.ops (ops_in records) (record_ops p.logged (All-head IsPlacedAllowed p records allowed)) (ops_allowed records (All-tail IsPlacedAllowed p records allowed))

entries_ops : (records : List Placed) → flat_map (λ (e : Entry). e.ops) (map (λ (p : Placed). entry_of_record p.logged) records) ≡ ops_in records
entries_ops [] = refl
entries_ops (p ∷ records) = ap (λ (ops : List Op). p.logged.ops ++ ops) (entries_ops records)

-- so it is the name of what the image mounts
pub name_mounted : (p : PoolPaths) → IsChainAllowed p.logged.items → (image : List ℕ) → ArePathsOf image p → (contents : Contents) → MountsTo image contents → name_of p ≡ contents.name
name_mounted p allowed image paths contents mounts =
    let u : Uberblock = uberblock_of p in
    let m = mine image u p.found.name paths.pool contents mounts in
    let named : m.synced.name ≡ p.found.name = one-name image u.guid u.group m.found.pool.config_group paths.pool.config_group m.synced.name p.found.name m.found.pool.chosen paths.pool.chosen in
    let applied : apply_records (records_of p) m.synced ≡ Ok contents =
    subst (λ (c : List LogPiece). apply_records (records_above u.group c) m.synced ≡ Ok contents) (same_chain image u p.found.name paths.pool contents mounts p.logged.items paths.chain_is) m.applied in
    let last = name-replay (map (λ (q : Placed). entry_of_record q.logged) (records_of p)) None p.found.name m.synced contents named applied in
    let all = ops_allowed (records_of p) (All-filter (λ (q : Placed). nat_lt u.group q.logged.group) IsPlacedAllowed (placed_records p.logged.items) (placed_allowed p.logged.items allowed)) in
    taken (ops_in (records_of p)) all None p.found.name ∙ ap (λ (ops : List Op). unwrap_or (name_given_by_all ops None) p.found.name) (sym (entries_ops (records_of p))) ∙ sym last
