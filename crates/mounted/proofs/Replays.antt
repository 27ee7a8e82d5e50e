-- A history's operations, one after another, and objects within their limit.
use Rattle.std.proofs.Common.{◌≡◌, ℕ, ◌<◌, ◌≤◌, true, List, [], ◌∷◌, length, Ok, None, Some, nat_lt}
use Rattle.std.specs.Prelude.{IfSome, Option}
use Rattle.std.specs.List.{flat_map, list_all}
use Rattle.base.specs.formats.Limits.{max_length, object_count}
use Rattle.base.specs.history.Contents.{Contents, apply}
use Rattle.base.specs.history.History.{Entry, apply_all, replay, run}
use Rattle.base.specs.history.Sequences.{in_turn}
use Rattle.base.proofs.common.Sequences.{in_turn-append, parted}

-- transactions in order are their operations in order
pub flat_replay : (es : List Entry) (a b : Contents) → replay es a ≡ Ok b → apply_all (flat_map (λ (e : Entry). e.ops) es) a ≡ Ok b
flat_replay [] a b h = h
flat_replay (e ∷ es) a b h =
    let p = parted (run e a) (in_turn run es) b h in
    in_turn-append apply e.ops (flat_map (λ (x : Entry). x.ops) es) a p.0 b p.1 (flat_replay es p.0 b p.2)

pub sized_object : (o : Option (List ℕ)) (n : ℕ) → IfSome o (λ bytes. (n < object_count) × (length bytes ≤ max_length) × (list_all (λ b. nat_lt b 256) bytes ≡ true)) → IfSome o (λ bytes. length bytes ≤ max_length)
sized_object None n h = tt
sized_object (Some x) n h = h.1
