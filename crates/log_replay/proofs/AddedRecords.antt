-- What the records of a chain change of contents: piece by piece, up to the first that can't take place.
use Rattle.std.proofs.Common.{◌≡◌, ℕ, ◌+◌, ◌<◌, ◌≤◌, inl, inr, None, true, false, List, [], ◌∷◌, ◌++◌, length, map, take, drop, get_or, Ok, Err, refl, sym, subst, ap, ◌∙◌, arith, length-append, append-nil, append_assoc}
use Rattle.std.specs.Prelude.{All, nat_lt, unwrap_or}
use Rattle.std.specs.List.{flat_map}
use Rattle.std.proofs.lemmas.Grind.{flat_map-append}
use Rattle.std.proofs.lemmas.List.{get_or-map, length-map, take_all, take_more, take-append-drop}
use Rattle.std.proofs.lemmas.List.Elements.{filter-append}
use Rattle.base.specs.tree.Mount.{Placed, apply_records, entry_of_record, records_above}
use Rattle.base.specs.declared.error.PoolError.{PoolError}
use Rattle.base.specs.declared.error.PoolError.TheVariants.{Damaged}
use Rattle.base.specs.formats.Chain.{LogPiece}
use Rattle.base.specs.formats.Records as formats
use Rattle.base.specs.formats.Records.{IsAllowed}
use Rattle.base.specs.history.Contents.{Contents}
use Rattle.base.specs.history.History.{replay, run}
use Rattle.base.proofs.common.Sequences.{joined, parted}
use Rattle.contents.specs.Judging.{ApplyTo}
use Rattle.contents.specs.Ops.{AreOpsAllowed}
use Rattle.extents.specs.declared.extents.Extents.{Extents}
use Rattle.extents.specs.Patches.{AreNumbered, laid_over, no_patch}
use Rattle.extents.specs.Tables.{AppliesOps, name_of, patches_of}
use Rattle.extents.proofs.LaidObjects.{laid_nothing}
use Rattle.records.specs.Records.{record_fields}
use Rattle.records.specs.declared.record.Record.{Record}
use Rattle.log_replay.specs.AddedRecords.{AddsRecords, LeadsTo, counted_up_to_last, with_changes}
use Rattle.log_replay.specs.Judged.{IsRefusedOver}
use Rattle.log_replay.specs.Replays.{IsReplayRefusal}
use Rattle.log_replay.specs.Walked.{above_at, placed_at}
use Rattle.log_replay.proofs.AppliedRecords.{reached_contents}
use Rattle.log_replay.proofs.WalkedRecords.{above-piece, above-cons, above-next, above-passed}

-- records after others that take place
apply_records-append : (xs ys : List Placed) (c d : Contents) → apply_records xs c ≡ Ok d → apply_records (xs ++ ys) c ≡ apply_records ys d
apply_records-append [] ys c d h = let e : c ≡ d = cc in rw e refl
apply_records-append (x ∷ xs) ys c d h =
    let p = parted (run (entry_of_record x.logged) c) (replay (map (λ (q : Placed). entry_of_record q.logged) xs)) d h in
    rw p.1 (apply_records-append xs ys p.0 d p.2)

-- no record changes nothing
pub adds_none : (before synced : Contents) (e : Extents) → before ≡ with_changes e synced → LeadsTo before synced [] (Ok 0) e
adds_none before synced e is = (omega arith, ap Ok is)

pub begun : (c : Contents) (e : Extents) → AreNumbered c.objects → ((n : ℕ) → patches_of e n ≡ no_patch) → name_of e ≡ None → c ≡ with_changes e c
begun c e numbered none unnamed =
    let same : laid_over (patches_of e) c.objects ≡ c.objects = laid_nothing (patches_of e) c.objects none numbered in
    λ i. record { name = unwrap_or ((sym unnamed) i) c.name; objects = (sym same) i }

module _ (before synced : Contents) (xs ys : List Placed) (n : ℕ) (mid new : Extents) (first : LeadsTo before synced xs (Ok n) mid) where
  adds_both : (m k : ℕ) → AddsRecords synced ys mid (Ok m) new → k ≡ counted_up_to_last (n + m) → LeadsTo before synced (xs ++ ys) (Ok k) new
  adds_both m k second is = (
    (let long = length-append xs ys in let a = first.0 in let b = second.0 in omega (arith, long, a, b, is)),
    apply_records-append xs ys before (with_changes mid synced) first.1 ∙ second.1,
  )

  adds_refused : (zs : List Placed) (e : PoolError) → AddsRecords synced ys mid (Err e) new → IsReplayRefusal (xs ++ (ys ++ zs)) before e
  adds_refused zs e (inl none) = inl none
  adds_refused zs e (inr (address, is, r)) = inr (
    address,
    is,
    record {
      before = xs ++ r.before;
      refused = r.refused;
      after = r.after ++ zs;
      split = ap (λ (ps : List Placed). xs ++ (ps ++ zs)) r.split ∙ ap (λ (ps : List Placed). xs ++ ps) (append_assoc r.before (r.refused ∷ r.after) zs) ∙ sym (append_assoc xs r.before (r.refused ∷ (r.after ++ zs)));
      reached = r.reached;
      reaches = apply_records-append xs r.before before (with_changes mid synced) first.1 ∙ r.reaches;
      error = r.error;
      refuses = r.refuses;
      address_is = r.address_is;
    },
  )

-- the records that the items of a list have, item by item
module _ (before synced : Contents) {X : Type 0} (f : X → List Placed) (xs : List X) (i : ℕ) (x : X) (low : i < length xs) (is : x ≡ get_or xs i x) where
  front : flat_map f (take (i + 1) xs) ≡ flat_map f (take i xs) ++ f x
  front =
      ap (λ (ys : List X). flat_map f ys) (take_more xs i x low ∙ ap (λ (y : X). take i xs ++ y ∷ []) (sym is))
      ∙ flat_map-append f (take i xs) (x ∷ []) ∙ ap (λ (ps : List Placed). flat_map f (take i xs) ++ ps) (append-nil (f x))

  whole : flat_map f xs ≡ flat_map f (take i xs) ++ (f x ++ flat_map f (drop (i + 1) xs))
  whole =
      ap (λ (ys : List X). flat_map f ys) (sym (take-append-drop (i + 1) xs)) ∙ flat_map-append f (take (i + 1) xs) (drop (i + 1) xs)
      ∙ ap (λ (ps : List Placed). ps ++ flat_map f (drop (i + 1) xs)) front ∙ append_assoc (flat_map f (take i xs)) (f x) (flat_map f (drop (i + 1) xs))

  pub adds_next : (n m k : ℕ) (mid new : Extents) → LeadsTo before synced (flat_map f (take i xs)) (Ok n) mid → AddsRecords synced (f x) mid (Ok m) new → k ≡ counted_up_to_last (n + m)
      → LeadsTo before synced (flat_map f (take (i + 1) xs)) (Ok k) new
  adds_next n m k mid new first second counted =
      subst (λ (ps : List Placed). LeadsTo before synced ps (Ok k) new) (sym front) (adds_both before synced (flat_map f (take i xs)) (f x) n mid new first m k second counted)

  pub adds_stop : (n : ℕ) (e : PoolError) (mid new : Extents) → LeadsTo before synced (flat_map f (take i xs)) (Ok n) mid → AddsRecords synced (f x) mid (Err e) new → IsReplayRefusal (flat_map f xs) before e
  adds_stop n e mid new first second =
      subst (λ (ps : List Placed). IsReplayRefusal ps before e) (sym whole) (adds_refused before synced (flat_map f (take i xs)) (f x) n mid new first (flat_map f (drop (i + 1) xs)) e second)

-- the records of a piece, one by one
pub each_record : (group address : ℕ) (rs : List Record) → flat_map (λ (r : Record). above_at group address (r ∷ [])) rs ≡ above_at group address rs
each_record group address [] = refl
each_record group address (r ∷ rs) =
    ap (λ (ps : List Placed). above_at group address (r ∷ []) ++ ps) (each_record group address rs)
    ∙ sym (filter-append (λ (p : Placed). nat_lt group p.logged.group) (placed_at address r ∷ []) (map (placed_at address) rs))

-- and those of a chain, piece by piece
pub each_piece : (group : ℕ) (bs : List LogPiece) → flat_map (λ (b : LogPiece). records_above group (b ∷ [])) bs ≡ records_above group bs
each_piece group [] = refl
each_piece group (b ∷ bs) = ap (λ (ps : List Placed). records_above group (b ∷ []) ++ ps) (each_piece group bs) ∙ sym (above-cons group b bs)

-- one record of a group above, or none
module _ (synced : Contents) (group address : ℕ) (r : Record) (old new : Extents) where
  abbrev p : Placed
  p = placed_at address r

  pub one_passed : nat_lt group r.group.0 ≡ false → AddsRecords synced (above_at group address (r ∷ [])) old (Ok 0) old
  one_passed up_to = rw (above-passed group address r [] up_to) (adds_none (with_changes old synced) synced old refl)

  module _ (above : nat_lt group r.group.0 ≡ true) where
    pub one_added : AreOpsAllowed r.ops → ApplyTo r.ops (laid_over (patches_of old) synced.objects) → AppliesOps r.ops old new → AddsRecords synced (above_at group address (r ∷ [])) old (Ok 1) new
    one_added allowed applies added =
        let (after, reaches) = applies (unwrap_or (name_of old) synced.name) in
        rw (above-next group address r [] above) (
          omega arith,
          joined (run (entry_of_record p.logged) (with_changes old synced)) (replay []) after after reaches refl ∙ ap Ok (reached_contents r.ops old new synced after allowed added reaches),
        )

    pub one_damaged : (e : PoolError) (last : Extents) → e ≡ Damaged 6 address → IsRefusedOver r.ops (laid_over (patches_of old) synced.objects) → AddsRecords synced (above_at group address (r ∷ [])) old (Err e) last
    one_damaged e last is (error, refuses) = rw (above-next group address r [] above) (inr (
      address,
      is,
      record {
        before = [];
        refused = p;
        after = [];
        split = refl;
        reached = with_changes old synced;
        reaches = refl;
        error = error;
        refuses = refuses (unwrap_or (name_of old) synced.name);
        address_is = refl;
      },
    ))

-- the records of a piece as they are read out of it
module _ (group : ℕ) (piece : LogPiece) (records : List Record) (fields : map record_fields records ≡ piece.records) where
  above_each : flat_map (λ (r : Record). above_at group piece.address (r ∷ [])) records ≡ records_above group (piece ∷ [])
  above_each = each_record group piece.address records ∙ sym (above-piece group piece records fields)

  pub slice_allowed : All IsAllowed piece.records → (i : ℕ) (r : Record) → i < length records → r ≡ get_or records i r → IsAllowed (record_fields r)
  slice_allowed allowed i r low is =
      let there : record_fields r ≡ get_or piece.records i (record_fields r) =
      ap record_fields is ∙ sym (get_or-map record_fields records i r (record_fields r) low) ∙ ap (λ (rs : List formats.Record). get_or rs i (record_fields r)) fields in
      rw there (allowed i (record_fields r) (rw (← fields, length-map) low))

  pub piece_added : (synced : Contents) (i n : ℕ) (old new : Extents) → length records ≤ i → AddsRecords synced (flat_map (λ (r : Record). above_at group piece.address (r ∷ [])) (take i records)) old (Ok n) new
      → AddsRecords synced (records_above group (piece ∷ [])) old (Ok n) new
  piece_added synced i n old new all is = rw (← above_each, ← take_all i records all) is

  pub piece_stops : (synced : Contents) (i : ℕ) (r : Record) → i < length records → r ≡ get_or records i r → (n : ℕ) (e : PoolError) (old mid new : Extents)
      → AddsRecords synced (flat_map (λ (r : Record). above_at group piece.address (r ∷ [])) (take i records)) old (Ok n) mid → AddsRecords synced (above_at group piece.address (r ∷ [])) mid (Err e) new
      → IsReplayRefusal (records_above group (piece ∷ [])) (with_changes old synced) e
  piece_stops synced i r low is n e old mid new first second =
      rw (← above_each) (adds_stop (with_changes old synced) synced (λ (r : Record). above_at group piece.address (r ∷ [])) records i r low is n e mid new first second)
