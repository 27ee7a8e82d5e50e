-- An import of an image writes the places of the records of a front of the log of the view that it is found as.
use Rattle.std.proofs.Common.{◌≡◌, ℕ, Bool, true, false, not, List, [], ◌∷◌, ◌++◌, map, take, refl, sym, ◌∙◌, ap, subst}
use Rattle.std.specs.Prelude.{◌==◌, filter, cond, nat_lt}
use Rattle.std.specs.List.{flat_map}
use Rattle.base.specs.declared.operation.Op.{Op}
use Rattle.base.specs.declared.pointer.Pointer.{Pointer}
use Rattle.base.specs.formats.Chain.{LogPiece}
use Rattle.base.specs.formats.Records.{Record}
use Rattle.base.specs.formats.Uberblocks.{Uberblock}
use Rattle.base.specs.history.Contents.{Contents}
use Rattle.base.specs.kept.LogRoom.{has_block_in, ops_of_records, places_to_write, records_to_apply}
use Rattle.base.specs.kept.LogRule.{with_front}
use Rattle.base.specs.kept.PlacedTrees.{HoldsTree}
use Rattle.base.specs.kept.Views.{View, IsFoundAs, view_frame}
use Rattle.base.specs.tree.Mount.{IsFound, Placed, frame_of, header_of, placed_records, records_above}
use Rattle.base.specs.tree.Places.{Place, IsPlace, has_block}
use Rattle.base.specs.tree.Places.Place.{Root, Indirect, Data}
use Rattle.base.specs.tree.Syncs.{group_changes, written_places}
use Rattle.base.proofs.crash.CutViews.{chain-unplaced, cut_records}
use Rattle.base.proofs.crash.OneMount.{one-active, one-chain, one-synced}
use Rattle.base.proofs.tree.PlacedTrees.{pointers-told}
use Rattle.base.proofs.tree.WrittenPlaces.{written_by-same}

-- the operations of records, with and without the places where these lie
above-ops : (group : ℕ) (ps : List Placed) → flat_map (λ (p : Placed). p.logged.ops) (filter (λ (p : Placed). nat_lt group p.logged.group) ps)
    ≡ ops_of_records (filter (λ (r : Record). nat_lt group r.group) (map (λ (p : Placed). p.logged) ps))
above-ops group [] = refl
above-ops group (p ∷ ps) = by_group (nat_lt group p.logged.group) (above-ops group ps)
  where
    placed : List Placed
    placed = filter (λ (q : Placed). nat_lt group q.logged.group) ps

    plain : List Record
    plain = filter (λ (r : Record). nat_lt group r.group) (map (λ (q : Placed). q.logged) ps)

    by_group : (b : Bool) → flat_map (λ (q : Placed). q.logged.ops) placed ≡ ops_of_records plain → flat_map (λ (q : Placed). q.logged.ops) (cond b (p ∷ placed) placed) ≡ ops_of_records (cond b (p.logged ∷ plain) plain)
    by_group true rest = ap (λ (os : List Op). p.logged.ops ++ os) rest
    by_group false rest = rest

-- trees that have blocks at the same places
places-same : (ops : List Op) (synced : Contents) (had other : Place → Bool) → ((place : Place) → IsPlace place → had place ≡ other place) → written_places ops synced had ≡ written_places ops synced other
places-same ops synced had other same = written_by-same (group_changes ops synced had) (group_changes ops synced other) (record {
  states = λ n r low below. refl;
  blocks = λ m k low below. same (Data m k) (low, below);
  strips = λ m low. same (Indirect m) low;
  changed = λ n low. refl;
  touched = λ n low. refl;
  present = λ n low. refl;
  long = λ n low. refl;
})

pub found-places : (size : ℕ) (image : List ℕ) (flushed : ℕ) (v : View) (found : IsFoundAs image flushed v) → HoldsTree image (view_frame size v) v.pointers v.synced.objects → v.pointers Root ≡ v.u.root
    → (u : Uberblock) (synced : Contents) (chain : List LogPiece) → IsFound image u synced chain
    → written_places (flat_map (λ (p : Placed). p.logged.ops) (records_above u.group chain)) synced (has_block image u.root) ≡ places_to_write (with_front found.count v)
found-places size image flushed v found holds root u synced chain is =
    (λ i. written_places (flat_map (λ (p : Placed). p.logged.ops) (records_above (same i).group (chains i))) (contents i) (has_block image (same i).root))
    ∙ ap (λ (ops : List Op). written_places ops v.synced (has_block image v.u.root)) operations
    ∙ places-same (ops_of_records (records_to_apply (with_front found.count v))) v.synced (has_block image v.u.root) (has_block_in v)
    (λ place in_range. ap (λ (q : Pointer). has_block image q place) (sym root)
    ∙ ap (λ (q : Pointer). not (q.address == 0)) (pointers-told image (view_frame size v) v.pointers v.synced.objects holds place in_range))
  where
    same : u ≡ v.u
    same = one-active image u v.u is.pool.active found.found.pool.active

    of_view : IsFound image v.u synced chain
    of_view = subst (λ (w : Uberblock). IsFound image w synced chain) same is

    chains : chain ≡ found.cut.chain
    chains = one-chain image (frame_of image v.u) v.u.import_number (header_of v.u) chain found.cut.chain of_view.chain_is found.found.chain_is

    contents : synced ≡ v.synced
    contents = one-synced image v.u synced v.synced chain found.cut.chain of_view found.found

    operations : flat_map (λ (p : Placed). p.logged.ops) (records_above v.u.group found.cut.chain) ≡ ops_of_records (records_to_apply (with_front found.count v))
    operations = above-ops v.u.group (placed_records found.cut.chain)
        ∙ ap (λ (rs : List Record). ops_of_records (filter (λ (r : Record). nat_lt v.u.group r.group) rs)) (chain-unplaced found.cut.chain ∙ cut_records v.u.version (take found.count v.logged) found.cut)
