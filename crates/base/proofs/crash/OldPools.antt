-- A pool of version 1 has room for an import if its free blocks are more than a program of that version reserved for
-- the records of its log.
use Rattle.std.proofs.Common.{◌≡◌, inl, inr, ℕ, ◌≤◌, Bool, true, false, List, [], ◌∷◌, map, take, refl, ◌∙◌, subst, arith}
use Rattle.std.specs.Prelude.{All, filter, cond, nat_lt}
use Rattle.std.specs.List.{list_all}
use Rattle.std.proofs.lemmas.Bool.{and_from}
use Rattle.std.proofs.lemmas.List.Elements.{All-head, All-tail, All-nil, All-append}
use Rattle.std.proofs.lemmas.List.Folds.{list_all-append}
use Rattle.base.specs.declared.operation.Op.{Op}
use Rattle.base.specs.formats.Chain.{LogBlock, LogPiece, AreCut, IsWholePiece, records_of_chain}
use Rattle.base.specs.formats.Records.{Record, IsOneLevelRecord, is_one_level_op}
use Rattle.base.specs.history.Plans.{shape_of, one_level_estimate_of, one_level_estimate_of_shape}
use Rattle.base.specs.kept.LogRoom.{OldPoolsHaveRoom, ops_of_records, records_to_apply, has_block_in}
use Rattle.base.specs.kept.LogRule.{with_front}
use Rattle.base.specs.kept.Views.{Logged, HasCut, blocks_of, ended_in, view_frame}
use Rattle.base.proofs.crash.CutViews.{cut_front, cut_records}
use Rattle.base.proofs.crash.LogRoom.{front_within, shapes-ops}
use Rattle.base.proofs.tree.Estimates.{one_level_syncs_fit}
use Rattle.base.proofs.tree.ShortObjects.{all_short, tree_short}

-- in version 1 each record of a chain ends within one level
chain_fits : (version : ℕ) (blocks : List LogBlock) (chain : List LogPiece) → version ≤ 1 → AreCut version blocks chain → All IsOneLevelRecord (records_of_chain chain)
chain_fits version blocks [] old cut = All-nil IsOneLevelRecord
chain_fits version blocks (p ∷ ps) old (bs, rest, same, whole, addresses, next, cut) =
    All-append IsOneLevelRecord p.records (records_of_chain ps) (piece whole) (chain_fits version rest ps old cut)
  where
    piece : IsWholePiece version bs p.records → All IsOneLevelRecord p.records
    piece (inl short) = short.one_level old
    piece (inr (later, long)) = absurd (omega (arith, old, later))

log_fits : (version : ℕ) (ls : List Logged) → version ≤ 1 → HasCut version ls → All IsOneLevelRecord (ended_in ls)
log_fits version ls old has = subst (λ (rs : List Record). All IsOneLevelRecord rs) (cut_records version ls has) (chain_fits version (blocks_of ls) has.chain old has.cut)

ops_fit : (keep : Record → Bool) (rs : List Record) → All IsOneLevelRecord rs → list_all is_one_level_op (ops_of_records (filter keep rs)) ≡ true
ops_fit keep [] all = refl
ops_fit keep (r ∷ rs) all = by_test (keep r) (All-head IsOneLevelRecord r rs all) (ops_fit keep rs (All-tail IsOneLevelRecord r rs all))
  where
    by_test : (b : Bool) → list_all is_one_level_op r.ops ≡ true → list_all is_one_level_op (ops_of_records (filter keep rs)) ≡ true
        → list_all is_one_level_op (ops_of_records (cond b (r ∷ filter keep rs) (filter keep rs))) ≡ true
    by_test true one rest = list_all-append is_one_level_op r.ops (ops_of_records (filter keep rs)) ∙ and_from (list_all is_one_level_op r.ops) (list_all is_one_level_op (ops_of_records (filter keep rs))) one rest
    by_test false one rest = rest

pub old_pools_have_room : OldPoolsHaveRoom
old_pools_have_room size v room = record {
  spare = room.spare;
  each = room.each;
  enough = λ n.
      let ops : List Op = ops_of_records (records_to_apply (with_front n v)) in
      let old : v.u.version ≤ 1 = let is = room.version in omega (arith, is) in
      let fits = ops_fit (λ (r : Record). nat_lt v.u.group r.group) (ended_in (take n v.logged)) (log_fits v.u.version (take n v.logged) old (cut_front v.u.version n v.logged room.view.cut)) in
      let written = one_level_syncs_fit ops v.synced (has_block_in v) (all_short ops v.synced fits (tree_short room.image (view_frame size v) v.pointers v.synced.objects room.holds old)) in
      let as_many = shapes-ops one_level_estimate_of_shape (records_to_apply (with_front n v)) in
      let front = front_within (λ (r : Record). one_level_estimate_of (map shape_of r.ops)) v.u.group n v.logged in
      omega (arith, written, as_many, front, room.enough);
}
