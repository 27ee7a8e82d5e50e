-- Requests that are made one after the other, as a loop does, are all made.
use Rattle.std.proofs.Common.{◌≡◌, List, [], ◌∷◌, ◌++◌, sym, subst}
use Rattle.base.specs.declared.names.Owner.{Owner}
use Rattle.device_model.specs.declared.device.SectorDevice.{Ghosts}
use Rattle.frames.specs.declared.answer.Answer.{Answer}
use Rattle.frames.specs.declared.request.Request.{Request}
use Rattle.pool_threads.specs.declared.handle.Handle.{Handle}
use Rattle.durable_answers.proofs.Questions.{joined}
use Rattle.serving.specs.Calls.{MakesCall, MakesCalls}

module _ {Dev : Type 0} {G : Ghosts Dev} where
  -- whatever the rest is answered, with what was answered it is the answer to all
  abbrev pub GoesOn : Owner → List Request → List Request → List Answer → Handle Dev G → Handle Dev G → Type 0
  GoesOn owner all left answers first now = (rest : List Answer) (end : Handle Dev G) → MakesCalls owner left rest now end → MakesCalls owner all (answers ++ rest) first end

  pub one_more : (owner : Owner) (all left others : List Request) (r : Request) (answers more : List Answer) (a : Answer) (first now next : Handle Dev G) → left ≡ r ∷ others → more ≡ answers ++ a ∷ []
      → a.number ≡ r.number → MakesCall owner r.call a.outcome now next → GoesOn owner all left answers first now → GoesOn owner all others more first next
  one_more owner all left others r answers more a first now next is added numbered made so_far rest end onward =
      subst (λ (l : List Answer). MakesCalls owner all l first end) (joined answers more a rest added)
      (so_far (a ∷ rest) end (subst (λ (l : List Request). MakesCalls owner l (a ∷ rest) now end) (sym is) (next, numbered, made, onward)))
