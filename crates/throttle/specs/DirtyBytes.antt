-- The dirty bytes of the unsynced groups, a sum for each: what each call makes of them, and when a charge is throttled.
use Rattle.std.specs.Prelude.{ℕ, zero, suc, refl, ◌≡◌, ◌+◌, ◌-◌, ◌<◌, ◌≤◌, Bool, Option, Some, None, sum_by, nat_lt, unwrap_or}
use Rattle.std.specs.List.{range_with_len}
use Rattle.std.specs.Coded.{Coded, code_by, coded×, coded_ℕ}
use Rattle.std.specs.Ordering.{nat_cmp}
use Rattle.std.specs.FinMap as finite
use Rattle.std.specs.FinMap.{FinMap}
use Rattle.base.specs.steps.Charges.{with_sum}

-- the limit of all sums, the synced group, and the bytes charged to each group after it; a group without bytes has no
-- entry
pub record DirtyBytes : Type 0 where
  pub limit : ℕ
  pub synced : ℕ
  pub sums : FinMap nat_cmp ℕ

-- they are stored as the tuple of these three
abbrev pub dirty_code : Coded DirtyBytes
dirty_code = code_by (ℕ × (ℕ × FinMap nat_cmp ℕ)) (coded× coded_ℕ (coded× coded_ℕ (finite.code coded_ℕ coded_ℕ)))
    (λ d. (d.limit, (d.synced, d.sums))) (λ p. record { limit = p.0; synced = p.1.0; sums = p.1.1 }) (λ _. refl)

-- the groups that can be unsynced: one is syncing, one in the middle, one open
abbrev pub MayBeUnsynced : DirtyBytes → ℕ → Type 0
MayBeUnsynced d group = (d.synced < group) × (group ≤ d.synced + 3)

-- the bytes charged to a group
abbrev pub sum_of : DirtyBytes → ℕ → ℕ
sum_of d group = unwrap_or (finite.get d.sums group) 0

-- those of the three groups after the synced one
abbrev pub total_of : DirtyBytes → ℕ
total_of d = sum_by (sum_of d) (range_with_len (d.synced + 1) 3)

-- no sum is of another group, none is zero, and all are within the limit
pub record AreWithinLimit (d : DirtyBytes) : Type 0 where
  pub unsynced : (group sum : ℕ) → finite.get d.sums group ≡ Some sum → MayBeUnsynced d group × (0 < sum)
  pub within : total_of d ≤ d.limit

-- whether so many more bytes would pass the limit
abbrev pub is_throttled : ℕ → DirtyBytes → Bool
is_throttled charge d = nat_lt d.limit (total_of d + charge)

-- what a map has of a sum
abbrev pub kept_sum : ℕ → Option ℕ
kept_sum zero = None
kept_sum (suc n) = Some (suc n)

abbrev pub dirty_behind : ℕ → ℕ → DirtyBytes
dirty_behind limit synced = record { limit = limit; synced = synced; sums = finite.empty }

-- so many more bytes are charged to a group
abbrev pub after_admit : ℕ → ℕ → DirtyBytes → DirtyBytes
after_admit group charge d = record d { sums = with_sum group (sum_of d group + charge) d.sums }

-- so many of its bytes are charged no more
abbrev pub after_cancel : ℕ → ℕ → DirtyBytes → DirtyBytes
after_cancel group charge d = record d { sums = with_sum group (sum_of d group - charge) d.sums }

-- a group is synced, and its sum ends
abbrev pub after_synced : ℕ → DirtyBytes → DirtyBytes
after_synced group d = record d { synced = group; sums = finite.remove d.sums group }
