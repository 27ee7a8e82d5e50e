-- What is written of an answer, and which bytes may be an answer.
use Rattle.std.specs.Prelude.{ℕ, ◌≡◌, ◌⊎◌, All, IfSome, List, Option, Result, Ok, Err}
use Rattle.std.specs.Io.{StartsWith}
use Rattle.std.specs.Io.KnownBytes.{Appends}
use Rattle.base.specs.declared.names.Receipt.{Receipt}
use Rattle.base.specs.steps.Seen.{IsKnownDurable}
use Rattle.device_model.specs.declared.device.SectorDevice.{Ghosts}
use Rattle.frames.specs.Answers.{bytes_of_answers, bytes_of_refused}
use Rattle.frames.specs.declared.answer.Answer.{Answer}
use Rattle.frames.specs.declared.error.FrameError.{FrameError}
use Rattle.pool_threads.specs.declared.handle.Handle.{Handle}
use Rattle.pool_threads.specs.Answers.{state_seen}
use Rattle.durable_answers.specs.Durability.{durable_receipt}

-- a front of these bytes was appended
abbrev pub AppendsFront : Option (List ℕ) → Option (List ℕ) → List ℕ → Type 0
AppendsFront old new bytes = (front : List ℕ) × Appends old new front × StartsWith bytes front

-- the bytes were appended; or a front of them, if that was refused
abbrev pub WritesFront : {E : Type 0} → Result (Unit {0}) E → Option (List ℕ) → Option (List ℕ) → List ℕ → Type 0
WritesFront (Ok done) old new bytes = Appends old new bytes
WritesFront (Err e) old new bytes = AppendsFront old new bytes

module _ {Dev : Type 0} {G : Ghosts Dev} where
  -- the handle has seen that no crash loses the commit of this answer, if it says so
  abbrev pub IsSeenDurable : Handle Dev G → Answer → Type 0
  IsSeenDurable now a = IfSome (durable_receipt a.outcome) (λ (receipt : Receipt). ∥ IsKnownDurable receipt.ordinal.0 receipt.group.0 (state_seen now) ∥₁)

  -- These bytes refuse a frame, or they are answers of which each that says that a commit is durable is right: no crash
  -- loses it, in what the handle has seen.
  abbrev pub MayBeAnswered : Handle Dev G → List ℕ → Type 0
  MayBeAnswered now bytes = ((e : FrameError) × (bytes ≡ bytes_of_refused e)) ⊎ ((answers : List Answer) × (bytes ≡ bytes_of_answers answers) × All (IsSeenDurable now) answers)
