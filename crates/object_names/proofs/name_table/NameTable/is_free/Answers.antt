use Rattle.std.proofs.Common.{◌≡◌, Option, Some, None, false, is_some, IfNone, sym, ◌∙◌}
use Rattle.std.proofs.lemmas.Bool.{not-true}
use Rattle.object_names.proofs.NamesFound.{unnamed}
use Rattle.object_names.proofs.name_table.NameTable.is_free.Goals as goal

none_of : {X : Type 0} (o : Option X) (P : Type 0) → is_some o ≡ false → IfNone o P → P
none_of (Some x) P e p = cc
none_of None P e p = p

pub returns-then-is_none-clause-yes : goal.returns-then-is_none-clause-yes
returns-then-is_none-clause-yes c = λ yes. record {
  number = c.requires.low;
  few = c.requires.high;
  unnamed = unnamed c.args.self.now c.args.number c.requires.low c.requires.high (none_of c.named.result _ c.if-is_none.ensures c.named.ensures.none);
  absent = sym c.has_object.ensures ∙ not-true c.has_object.result yes;
}
