use Rattle.object_names.proofs.name_table.is_name_table.Goals as goal

pub returns-clause-yes : goal.returns-clause-yes
returns-clause-yes c = λ yes. record {
  whole = c.is_whole.ensures.0 c.if-not-is_whole.false;
  header = c.has_header.ensures.0 c.if-not-has_header.false;
  slots = c.are_slots.ensures.0 c.if-not-are_slots.false;
  distinct = c.are_distinct.ensures.0 yes;
}
