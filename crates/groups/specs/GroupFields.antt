-- What the fields of the groups stand for, and which fields a line with its holds has: each gives the other back.
use Rattle.std.specs.Prelude.{ℕ, ◌≡◌, refl, true, false, Option, Some, None, option_map, if◌then◌else◌}
use Rattle.std.specs.Option.{option_map_or}
use Rattle.base.specs.declared.names.Group.{Group}
use Rattle.base.specs.steps.Groups as line
use Rattle.base.specs.steps.Groups.{IsLine}
use Rattle.groups.specs.CountedLines.{CountedLine, number_of}
use Rattle.groups.specs.declared.line.Middle.{Middle}
use Rattle.groups.specs.declared.line.Middle.TheVariants.{Quiescing, Quiesced}
use Rattle.groups.specs.declared.line.Groups.TheInside.{Inside}

abbrev pub group_of : ℕ → Group
group_of number = record { 0 = number }

abbrev pub middle_of : Middle → line.Middle
middle_of (Quiescing group holds) = record { group = group.0; quiesced = false }
middle_of (Quiesced group) = record { group = group.0; quiesced = true }

abbrev pub middle_holds_of : Middle → ℕ
middle_holds_of (Quiescing group holds) = holds
middle_holds_of (Quiesced group) = 0

abbrev pub counted_line_of : Inside → CountedLine
counted_line_of g = record {
  line = record {
    synced = g.synced.0;
    syncing = option_map number_of g.syncing;
    middle = option_map middle_of g.middle;
    open_group = g.open_group.0;
  };
  open_holds = g.open_holds;
  middle_holds = option_map_or middle_holds_of g.middle 0;
}

abbrev pub IsLineOf : Inside → Type 0
IsLineOf g = IsLine (counted_line_of g).line

-- back from a line to the fields
abbrev pub middle_with : ℕ → line.Middle → Middle
middle_with holds m = if m.quiesced then Quiesced (group_of m.group) else Quiescing (group_of m.group) holds

abbrev pub line_fields : CountedLine → Inside
line_fields l = record {
  synced = group_of l.line.synced;
  syncing = option_map group_of l.line.syncing;
  middle = option_map (middle_with l.middle_holds) l.line.middle;
  open_group = group_of l.line.open_group;
  open_holds = l.open_holds;
}

same_group : (o : Option Group) → option_map group_of (option_map number_of o) ≡ o
same_group None = refl
same_group (Some group) = refl

same_middle : (o : Option Middle) → option_map (middle_with (option_map_or middle_holds_of o 0)) (option_map middle_of o) ≡ o
same_middle None = refl
same_middle (Some (Quiescing group holds)) = refl
same_middle (Some (Quiesced group)) = refl

pub line_fields-counted_line_of : (g : Inside) → line_fields (counted_line_of g) ≡ g
line_fields-counted_line_of g = λ i. record {
  synced = g.synced;
  syncing = same_group g.syncing i;
  middle = same_middle g.middle i;
  open_group = g.open_group;
  open_holds = g.open_holds;
}
