-- A run goes on by another.
use Rattle.std.proofs.Common.{◌++◌, List, [], ◌∷◌, subst}
use Rattle.base.specs.declared.step.Step.{Step}
use Rattle.base.specs.declared.step.Reply.{Reply}
use Rattle.base.specs.steps.Runs.{Run}

module _ {S : Type 0} (One : Step → Reply → S → S → Type 0) where
  pub runs_join : (ss tt : List Step) (rs us : List Reply) (a b c : S) → Run One ss rs a b → Run One tt us b c → Run One (ss ++ tt) (rs ++ us) a c
  runs_join [] ts [] us a b c same rest = subst (λ (x : S). Run One ts us x c) same rest
  runs_join (s ∷ ss) ts (r ∷ rs) us a b c (middle, first, more) rest = (middle, first, runs_join ss ts rs us middle b c more rest)
  runs_join [] ts (r ∷ rs) us a b c h rest = absurd h
  runs_join (s ∷ ss) ts [] us a b c h rest = absurd h
