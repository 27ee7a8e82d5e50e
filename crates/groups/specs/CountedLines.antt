-- The line of groups with its holds, one for each open transaction of a group (`txg.c`): what each call makes of it,
-- and when it is refused.
use Rattle.std.specs.Prelude.{ℕ, ◌≡◌, ◌+◌, ◌-◌, ◌==◌, ◌||◌, Bool, false, not, Option, Some, None, is_some, is_none, nat_le, option_map, if◌then◌else◌}
use Rattle.std.specs.Option.{option_map_or}
use Rattle.base.specs.declared.names.Group.{Group}
use Rattle.base.specs.formats.Limits.{last_number, max_transactions}
use Rattle.base.specs.steps.Groups.{Line, Middle, IsLine}
use Rattle.base.specs.steps.Refusals.{quiescing_group, quiesced_group}
use Rattle.base.specs.steps.Steps.{line_after_close, line_after_quiesce}

-- the line, and how many transactions of the open group and of the middle are open
pub record CountedLine : Type 0 where
  pub line : Line
  pub open_holds : ℕ
  pub middle_holds : ℕ

-- the groups are a line, and only a quiescing middle has holds
pub record IsCounted (l : CountedLine) : Type 0 where
  pub line : IsLine l.line
  pub quiesced : quiescing_group l.line ≡ None → l.middle_holds ≡ 0

abbrev pub number_of : Group → ℕ
number_of group = group.0

abbrev pub middle_group : Line → Option ℕ
middle_group l = option_map (λ (m : Middle). m.group) l.middle

-- the holds of a group
abbrev pub holds_of : CountedLine → ℕ → ℕ
holds_of l group = if group == l.line.open_group then l.open_holds
    else option_map_or (λ (m : Middle). if group == m.group then l.middle_holds else 0) l.line.middle 0

-- the holds of all groups
abbrev pub hold_total : CountedLine → ℕ
hold_total l = l.open_holds + l.middle_holds

-- the line after a synced group: the next one is open
abbrev pub line_behind : ℕ → Line
line_behind group = record { synced = group; syncing = None; middle = None; open_group = group + 1 }

abbrev pub counted_behind : ℕ → CountedLine
counted_behind group = record { line = line_behind group; open_holds = 0; middle_holds = 0 }

-- one more transaction of the open group is open
abbrev pub after_hold : CountedLine → CountedLine
after_hold l = record l { open_holds = l.open_holds + 1 }

-- a transaction of the open group or of the middle has ended
abbrev pub after_release : ℕ → CountedLine → CountedLine
after_release group l = if group == l.line.open_group then record l { open_holds = l.open_holds - 1 }
    else record l { middle_holds = l.middle_holds - 1 }

-- the open group quiesces with its holds, and the next one has none
abbrev pub after_close : CountedLine → CountedLine
after_close l = record { line = line_after_close l.line; open_holds = 0; middle_holds = l.open_holds }

-- the quiescing group is quiesced
abbrev pub after_quiesce : ℕ → CountedLine → CountedLine
after_quiesce group l = record l { line = line_after_quiesce group l.line }

-- the quiesced group is syncing
abbrev pub line_after_start : ℕ → Line → Line
line_after_start group l = record l { syncing = Some group; middle = None }

abbrev pub after_start : ℕ → CountedLine → CountedLine
after_start group l = record l { line = line_after_start group l.line }

-- the syncing group is synced
abbrev pub line_after_sync : ℕ → Line → Line
line_after_sync group l = record l { synced = group; syncing = None }

abbrev pub after_sync : ℕ → CountedLine → CountedLine
after_sync group l = record l { line = line_after_sync group l.line }

-- as many transactions are open as may be
abbrev pub is_hold_refused : CountedLine → Bool
is_hold_refused l = nat_le max_transactions (hold_total l)

-- the group has no hold
abbrev pub is_release_refused : CountedLine → ℕ → Bool
is_release_refused l group = holds_of l group == 0

-- a middle is there, or the open group has the last number
abbrev pub is_close_refused : Line → Bool
is_close_refused l = is_some l.middle || nat_le last_number l.open_group

-- no group quiesces, or the one that does has a hold left
abbrev pub is_quiesce_refused : CountedLine → Bool
is_quiesce_refused l = not (option_map_or (λ group. l.middle_holds == 0) (quiescing_group l.line) false)

-- none is quiesced, or one is syncing
abbrev pub is_start_refused : Line → Bool
is_start_refused l = is_none (quiesced_group l) || is_some l.syncing

-- none is syncing
abbrev pub is_finish_refused : Line → Bool
is_finish_refused l = is_none l.syncing
