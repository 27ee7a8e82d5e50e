-- Records within the limits keep contents within the limits of a pool.
use Rattle.std.proofs.Common.{◌≡◌, List, [], ◌∷◌, map, Ok, subst}
use Rattle.std.specs.Prelude.{All, nat_lt}
use Rattle.std.specs.List.{list_all}
use Rattle.std.proofs.lemmas.Bool.{and_parts}
use Rattle.std.proofs.lemmas.List.Elements.{All-append, All-filter, All-head, All-map, All-nil, All-tail}
use Rattle.base.specs.tree.Mount.{Placed, apply_records, entry_of_record, placed_records, records_above}
use Rattle.base.specs.formats.Chain.{LogPiece}
use Rattle.base.specs.formats.Records as formats
use Rattle.base.specs.formats.Records.{IsAllowed}
use Rattle.base.specs.history.Contents.{Contents}
use Rattle.base.specs.history.History.{run}
use Rattle.base.specs.history.Plans.{is_shape_allowed, shape_of}
use Rattle.base.specs.history.Sequences.{in_turn}
use Rattle.base.specs.steps.Exact.{IsBounded}
use Rattle.base.proofs.common.Sequences.{parted}
use Rattle.base.proofs.history.KeptContents.{operations_keep}
use Rattle.log_replay.specs.Laws.{ReplaysStayBounded}
use Rattle.log_replay.specs.Replays.{IsPieceAllowed, IsChainAllowed}

abbrev IsPlacedAllowed : Placed → Type 0
IsPlacedAllowed p = IsAllowed p.logged

placed_allowed : (chain : List LogPiece) → IsChainAllowed chain → All IsPlacedAllowed (placed_records chain)
placed_allowed [] allowed = All-nil IsPlacedAllowed
placed_allowed (b ∷ chain) allowed =
    All-append IsPlacedAllowed (map (λ (r : formats.Record). record { address = b.address; logged = r }) b.records) (placed_records chain)
    (All-map IsPlacedAllowed (λ (r : formats.Record). record { address = b.address; logged = r }) b.records (All-head IsPieceAllowed b chain allowed))
    (placed_allowed chain (All-tail IsPieceAllowed b chain allowed))

records_keep : (records : List Placed) (c d : Contents) → All IsPlacedAllowed records → IsBounded c → apply_records records c ≡ Ok d → IsBounded d
records_keep [] c d allowed bounded reaches = let same : c ≡ d = cc in subst IsBounded same bounded
records_keep (p ∷ records) c d allowed bounded reaches =
    let q = parted (run (entry_of_record p.logged) c) (in_turn run (map (λ (x : Placed). entry_of_record x.logged) records)) d reaches in
    let first : IsAllowed p.logged = All-head IsPlacedAllowed p records allowed in
    records_keep records q.0 d (All-tail IsPlacedAllowed p records allowed)
    (operations_keep p.logged.ops c q.0 (and_parts (nat_lt 0 _) (list_all is_shape_allowed (map shape_of p.logged.ops)) first.shapes).1 first.contents q.1 bounded) q.2

pub replays_stay_bounded : ReplaysStayBounded
replays_stay_bounded group chain synced after allowed bounded reaches =
    records_keep (records_above group chain) synced after (All-filter (λ (p : Placed). nat_lt group p.logged.group) IsPlacedAllowed (placed_records chain) (placed_allowed chain allowed)) bounded reaches
