-- What holds of an object's own operations among the log's records.
use Rattle.std.specs.Prelude.{ℕ, ◌≡◌, List, Ok}
use Rattle.std.specs.FinMap as finite
use Rattle.base.specs.history.Contents.{Contents}
use Rattle.base.specs.tree.Mount.{Placed, apply_records}
use Rattle.object_views.specs.OwnRecords.{TakePlace, object_after_all, ops_of, own_of_records}

-- Records that take place leave of an object what its own operations make of it, and these can take place.
abbrev pub OwnOperationsSuffice : Type 0
OwnOperationsSuffice = (n : ℕ) (records : List Placed) (before after : Contents) → apply_records records before ≡ Ok after
    → (finite.get after.objects n ≡ object_after_all n (ops_of (own_of_records n records)) (finite.get before.objects n))
    × TakePlace n (ops_of (own_of_records n records)) (finite.get before.objects n)
