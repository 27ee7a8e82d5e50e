-- Questions that are asked one after the other, as a loop does, are all asked.
use Rattle.std.proofs.Common.{◌≡◌, List, [], ◌∷◌, ◌++◌, append_assoc, sym, ap, subst, ◌∙◌}
use Rattle.base.specs.declared.error.PoolError.{PoolError}
use Rattle.device_model.specs.declared.device.SectorDevice.{Ghosts}
use Rattle.frames.specs.declared.answer.Answer.{Answer}
use Rattle.pool_threads.specs.declared.handle.Handle.{Handle}
use Rattle.durable_answers.specs.Durability.{Asks, AsksAll}

-- one answer more, before the rest
pub joined : (answers more : List Answer) (a : Answer) (rest : List Answer) → more ≡ answers ++ a ∷ [] → answers ++ a ∷ rest ≡ more ++ rest
joined answers more a rest added = sym (ap (λ (l : List Answer). l ++ rest) added ∙ append_assoc answers (a ∷ []) rest)

module _ {Dev : Type 0} {G : Ghosts Dev} where
  -- whatever the rest becomes, with what was asked it is what all become
  abbrev pub AsksOn : PoolError → List Answer → List Answer → List Answer → Handle Dev G → Handle Dev G → Type 0
  AsksOn e all left answers first now = (rest : List Answer) (end : Handle Dev G) → AsksAll e left rest now end → AsksAll e all (answers ++ rest) first end

  pub one_question_more : (e : PoolError) (all left others : List Answer) (m : Answer) (answers more : List Answer) (a : Answer) (first now next : Handle Dev G) → left ≡ m ∷ others → more ≡ answers ++ a ∷ []
      → Asks e m a now next → AsksOn e all left answers first now → AsksOn e all others more first next
  one_question_more e all left others m answers more a first now next is added made so_far rest end onward =
      subst (λ (l : List Answer). AsksAll e all l first end) (joined answers more a rest added)
      (so_far (a ∷ rest) end (subst (λ (l : List Answer). AsksAll e l (a ∷ rest) now end) (sym is) (next, made, onward)))
