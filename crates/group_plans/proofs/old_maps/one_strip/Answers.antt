use Rattle.std.proofs.Common.{◌≡◌, ℕ, List, inl, inr, replicate, get_or, ap, ◌∙◌, arith}
use Rattle.std.proofs.lemmas.Bool.{cases_lt}
use Rattle.std.proofs.lemmas.List.{get_or-replicate, get_or-set_other, get_or_past, length-replicate}
use Rattle.base.specs.declared.pointer.Pointer.{Pointer}
use Rattle.base.specs.formats.Fields.{no_pointer}
use Rattle.group_plans.proofs.old_maps.one_strip.Goals as goal

-- no pointer among so many pointers to nothing is another
none_at : (count j : ℕ) → get_or (replicate count no_pointer) j no_pointer ≡ no_pointer
none_at count j = elim (cases_lt j count) [
  | inl low ↦ get_or-replicate count j no_pointer no_pointer low
  | inr past ↦ get_or_past (replicate count no_pointer) j no_pointer (omega (arith, past, length-replicate count no_pointer))
]

pub returns-clause-others : goal.returns-clause-others
returns-clause-others c = λ j later.
    get_or-set_other c.in_ok-indirects.indirects.items 0 j c.args.indirect no_pointer (λ first. omega (arith, first, later))
    ∙ ap (λ (l : List Pointer). get_or l j no_pointer) (c.in_ok-indirects.ensures.items_if_clones_equal (λ y h. h)) ∙ none_at 84 j
