-- What the end of a serve says of inputs and outputs whose bytes are known.
use Rattle.std.proofs.Common.{◌≡◌, ◌+◌, ◌++◌, ◌∷◌, [], ℕ, List, arith, inl, inr, length, length-append, subst, sym, take_all, ap, ◌∙◌, append-nil}
use Rattle.std.specs.Prelude.{All, IfOk, IsOk, Result, Ok, Some, drop}
use Rattle.std.specs.Io.{StartsWith}
use Rattle.base.specs.declared.error.PoolError.{PoolError}
use Rattle.base.specs.declared.names.Group.{Group}
use Rattle.serving.specs.Inputs.{BeginsWithFrames, EndsWell, Exchange, IsCutOff, IsCutOffAfter, IsWhole, Streams, answers_of, frames_of}
use Rattle.serving.specs.declared.inputs.Ending.{Ending}
use Rattle.serving.specs.declared.inputs.Ending.TheVariants as ending
use Rattle.serving.proofs.ClientFrames.{none_among}

-- a list is a front of itself
whole_front : (bs : List ℕ) → StartsWith bs bs
whole_front bs = take_all (length bs) bs (omega arith)

module _ (xs : List Exchange) (asked left held written : List ℕ) where
  abbrev first : Streams
  first = record { input = Some asked; output = Some held }

  abbrev last : Streams
  last = record { input = Some left; output = Some written }

  -- a good end has all of the input and all answers
  pub all_answered : EndsWell ending.Done xs first last → All (λ (x : Exchange). IsWhole x.frame) xs × (frames_of xs ≡ asked) × (written ≡ held ++ answers_of xs)
  all_answered e = (e.0.whole, sym (e.0.reads ∙ ap (λ (l : List ℕ). frames_of xs ++ l) e.1 ∙ append-nil (frames_of xs)), e.0.writes)

  -- each end has written a front of the answers
  pub front_answered : (e : Ending) → EndsWell e xs first last → (front : List ℕ) × (written ≡ held ++ front) × StartsWith (answers_of xs) front
  front_answered ending.Done w = (answers_of xs, w.0.writes, whole_front (answers_of xs))
  front_answered ending.CutOff w = (answers_of xs, w.0, whole_front (answers_of xs))
  front_answered ending.ReadFailed w = (answers_of xs, w, whole_front (answers_of xs))
  front_answered ending.WriteFailed w = w
  front_answered ending.NoMemory w = w

-- what a result says of how a serve ended
pub ended : (P : Ending → Type 0) (e said : Ending) (synced : Result Group PoolError) (result : Result Ending PoolError) → IfOk result (λ (x : Ending). (x ≡ e) × IsOk synced) → result ≡ Ok said → P e → P said
ended P e said synced result same is p = subst P (sym (subst (λ (r : Result Ending PoolError). IfOk r (λ (x : Ending). (x ≡ e) × IsOk synced)) is same).0) p

-- an input without bytes has no frame that it could end within
no_bytes : (xs : List Exchange) → xs ≡ [] → IsCutOffAfter xs (Some []) → ⊥
no_bytes xs none (inl bad) =
    let counted : 0 ≡ length bad.good + 1 = sym (ap length none) ∙ ap length bad.parts ∙ length-append bad.good (bad.last ∷ []) in
    absurd (omega (arith, counted))
no_bytes xs none (inr cut) =
    let left : IsCutOff (drop (length (frames_of [])) []) = subst (λ (l : List Exchange). IsCutOff (drop (length (frames_of l)) [])) none cut in
    let some = left.some in
    absurd (omega (arith, some))

pub not_cut_off : (asked : List ℕ) (xs : List Exchange) (old new : Streams) → asked ≡ [] → old.input ≡ Some asked → BeginsWithFrames xs old.input → EndsWell ending.CutOff xs old new → ⊥
not_cut_off asked xs old new empty is begins ends =
    let known = is ∙ ap (λ (l : List ℕ). Some l) empty in
    no_bytes xs (none_among [] xs (omega arith) (subst (BeginsWithFrames xs) known begins)) (subst (IsCutOffAfter xs) known ends.1)
