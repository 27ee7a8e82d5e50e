use Rattle.std.proofs.Common.{sym, ◌∙◌, inl, inr, ap}
use Rattle.std.proofs.lemmas.Bool.{cases_eq}
use Rattle.object_names.specs.NameTables.{name_at}
use Rattle.object_names.proofs.NameClients.{emptied_7, found_none}
use Rattle.object_names.proofs.clients.a_name_that_is_removed_is_not_found.Goals as goal

pub returns : goal.returns
returns c =
    let before = c.args.before.now in
    let name = c.args.name.now in
    let emptied = emptied_7 c.slots_change_one_name.ensures before c.args.after.now c.requires.table c.requires.written in
    found_none c.args.after.now name c.find.result c.find.ensures.found
    (λ m is. elim (cases_eq m 7) [
      | inl same ↦ is.some (sym is.name_is ∙ ap (name_at c.args.after.now) same ∙ emptied.name_is)
      | inr other ↦ other (c.requires.one m (record { number = is.number; few = is.few; name_is = sym (emptied.others m is.number other) ∙ is.name_is; some = is.some }))
    ])
