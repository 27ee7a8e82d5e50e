-- What a frame's durable transactions committed is durable in what the handle has seen at the end of the frame.
use Rattle.std.proofs.Common.{◌≡◌, ◌∷◌, [], ℕ, List, inl, inr, refl, sym, ap, subst, ◌∙◌}
use Rattle.std.specs.Prelude.{All, IfSome, None, Option, Result, Ok, Err, Some, slice_get}
use Rattle.std.proofs.lemmas.List.Elements.{All-cons, All-nil}
use Rattle.std.proofs.Math.Logic.{∥∥₁_elim, ∥∥₁_map, ∥∥₁_prop}
use Rattle.base.specs.declared.error.PoolError.{PoolError}
use Rattle.base.specs.declared.names.Owner.{Owner}
use Rattle.base.specs.declared.names.Receipt.{Receipt}
use Rattle.base.specs.declared.operation.Op.{Op}
use Rattle.base.specs.history.History.{Entry}
use Rattle.base.specs.steps.Tables.{GoesOn}
use Rattle.base.specs.steps.Seen.{IsKnownDurable}
use Rattle.base.specs.steps.Steps.{State}
use Rattle.base.proofs.steps.SeenStates.{at-prefix, grown}
use Rattle.device_model.specs.declared.device.SectorDevice.{Ghosts}
use Rattle.frames.specs.declared.answer.Answer.{Answer}
use Rattle.frames.specs.declared.answer.Outcome.{Outcome}
use Rattle.frames.specs.declared.answer.Outcome.TheVariants as outcome
use Rattle.frames.specs.declared.listing.Listed.{Listed}
use Rattle.frames.specs.declared.request.Call.{Call}
use Rattle.frames.specs.declared.request.Call.TheVariants as call
use Rattle.frames.specs.declared.request.Request.{Request}
use Rattle.pool_threads.specs.declared.handle.Handle.{Handle}
use Rattle.pool_threads.specs.Answers.{state_seen}
use Rattle.pool_threads.specs.Transacts.{TransactsOrLacks}
use Rattle.pool_threads.specs.Views.{viewed_state}
use Rattle.pool_threads.specs.Waits.{AreDurable, LeavesAllDurable}
use Rattle.pool_threads.proofs.Along.{GoesAlong, along_made, along_on, along_same, seen_made}
use Rattle.pool_threads.proofs.AnswersSeen.{durables_are_seen}
use Rattle.pool_threads.proofs.FetchesSeen.{fetches_along}
use Rattle.pool_threads.proofs.TransactsSeen.{entered_by}
use Rattle.durable_answers.specs.Durability.{Asks, AsksAll, MakesDurable, durable_receipt}
use Rattle.serving.specs.Calls.{IsDurableAs, ListsObjects, MakesCall, MakesCalls, outcome_of}
use Rattle.durable_answers.proofs.Along.{along_fsyncs, along_lists}
use Rattle.running_pools.proofs.Along.{along_looked, along_syncs, along_transacts}

-- the entry of a receipt is there
abbrev pub IsEntered : Receipt → State → Type 0
IsEntered r s = (e : Entry) × (slice_get s.past.entries r.ordinal.0 ≡ Some e) × (e.group ≡ r.group.0)

-- it stays there
stays_entered : (r : Receipt) (s t : State) → GoesOn s t → IsEntered r s → IsEntered r t
stays_entered r s t onward (e, there, same) = (e, at-prefix s.past.entries t.past.entries r.ordinal.0 e (grown s t onward).entries there, same)

-- and it is durable once all entries are
entered_durable : (r : Receipt) (s t : State) → AreDurable s t → IsEntered r s → IsKnownDurable r.ordinal.0 r.group.0 t
entered_durable r s t all (e, there, same) = subst (λ (g : ℕ). IsKnownDurable r.ordinal.0 g t) same (all r.ordinal.0 e there)

-- an outcome that is no receipt of a durable transaction
pub never : {A : Type 0} (make : A → Outcome) → ((x : A) → durable_receipt (make x) ≡ None) → (result : Result A PoolError) (o : Outcome) → o ≡ outcome_of make result → durable_receipt o ≡ None
never make none (Ok x) o is = ap durable_receipt is ∙ none x
never make none (Err e) o is = ap durable_receipt is

-- of no receipt all is so
if_none : (P : Receipt → Type 0) (o : Option Receipt) → o ≡ None → IfSome o P
if_none P o is = subst (λ (x : Option Receipt). IfSome x P) (sym is) tt

module _ {Dev : Type 0} {G : Ghosts Dev} where
  -- the entry of a receipt is there, or it is durable, in what the handle has seen
  abbrev IsEnteredIn : Handle Dev G → Receipt → Type 0
  IsEnteredIn now receipt = ∥ IsEntered receipt (state_seen now) ∥₁

  abbrev IsDurableIn : Handle Dev G → Receipt → Type 0
  IsDurableIn now receipt = ∥ IsKnownDurable receipt.ordinal.0 receipt.group.0 (state_seen now) ∥₁

  along_objects : (first past : ℕ) (result : Result (List Listed) PoolError) (old new : Handle Dev G) → ListsObjects first past result old new → GoesAlong old new
  along_objects first past (Ok listed) old new l = along_looked old new l.looked
  along_objects first past (Err e) old new l = along_lists e old new l

  pub along_call : (owner : Owner) (c : Call) (o : Outcome) (old new : Handle Dev G) → MakesCall owner c o old new → GoesAlong old new
  along_call owner (call.Transact r) o old new (result, made, is) = along_transacts owner r.ops result old new made
  along_call owner (call.TransactDurably r) o old new (result, made, is) = along_transacts owner r.ops result old new made
  along_call owner (call.Read object range) o old new (result, made, is) = fetches_along owner object range result old new made
  along_call owner (call.Length object) o old new (result, made, is) = along_made made
  along_call owner (call.Objects first past) o old new (result, made, is) = along_objects first.0 past.0 result old new made
  along_call owner call.Status o old new (status, made, is) = along_made made
  along_call owner (call.Durable receipt) o old new (durable, made, is) = along_made made
  along_call owner call.Flush o old new (result, made, is) = along_fsyncs result old new made.0
  along_call owner call.Sync o old new (result, made, is) = along_syncs result old new made
  along_call owner call.Name o old new (name, made, is) = along_made made

  pub along_calls : (owner : Owner) (rs : List Request) (answers : List Answer) (old new : Handle Dev G) → MakesCalls owner rs answers old new → GoesAlong old new
  along_calls owner [] [] old new same = along_same old new same
  along_calls owner (r ∷ rs) (a ∷ others) old new (next, numbered, made, rest) = along_on old next new (along_call owner r.call a.outcome old next made) (along_calls owner rs others next new rest)
  along_calls owner [] (a ∷ others) old new h = absurd h
  along_calls owner (r ∷ rs) [] old new h = absurd h

  -- the entry of an answer's receipt is there, in what the handle has seen
  abbrev pub IsEnteredAs : Handle Dev G → Answer → Type 0
  IsEnteredAs now a = IfSome (durable_receipt a.outcome) (IsEnteredIn now)

  entered_result : (owner : Owner) (ops : List Op) (result : Result Receipt PoolError) (o : Outcome) (old next new : Handle Dev G) → TransactsOrLacks owner ops result old next → GoesAlong next new → o ≡ outcome_of outcome.MadeDurable result
      → IfSome (durable_receipt o) (IsEnteredIn new)
  entered_result owner ops (Ok r) o old next new made later is =
      subst (λ (x : Outcome). IfSome (durable_receipt x) (IsEnteredIn new)) (sym is)
      (∥∥₁_map {B = IsEntered r (state_seen new)} (entered_by owner ops r old old next new (along_same old old refl) made later) (λ t. (_, t.1.entry, refl)))
  entered_result owner ops (Err e) o old next new made later is = subst (λ (x : Outcome). IfSome (durable_receipt x) (IsEnteredIn new)) (sym is) tt

  entered_call : (owner : Owner) (c : Call) (o : Outcome) (old next new : Handle Dev G) → MakesCall owner c o old next → GoesAlong next new → IfSome (durable_receipt o) (IsEnteredIn new)
  entered_call owner (call.TransactDurably r) o old next new (result, made, is) later = entered_result owner r.ops result o old next new made later is
  entered_call owner (call.Transact r) o old next new (result, made, is) later = if_none (IsEnteredIn new) (durable_receipt o) (never outcome.Transacted (λ x. refl) result o is)
  entered_call owner (call.Read object range) o old next new (result, made, is) later = if_none (IsEnteredIn new) (durable_receipt o) (never outcome.Bytes (λ x. refl) result o is)
  entered_call owner (call.Length object) o old next new (result, made, is) later = if_none (IsEnteredIn new) (durable_receipt o) (never outcome.Length (λ x. refl) result o is)
  entered_call owner (call.Objects first past) o old next new (result, made, is) later = if_none (IsEnteredIn new) (durable_receipt o) (never outcome.Objects (λ x. refl) result o is)
  entered_call owner call.Status o old next new (status, made, is) later = if_none (IsEnteredIn new) (durable_receipt o) (ap durable_receipt is)
  entered_call owner (call.Durable receipt) o old next new (durable, made, is) later = if_none (IsEnteredIn new) (durable_receipt o) (ap durable_receipt is)
  entered_call owner call.Flush o old next new (result, made, is) later = if_none (IsEnteredIn new) (durable_receipt o) (never (λ _. outcome.Flushed) (λ x. refl) result o is)
  entered_call owner call.Sync o old next new (result, made, is) later = if_none (IsEnteredIn new) (durable_receipt o) (never outcome.Synced (λ x. refl) result o is)
  entered_call owner call.Name o old next new (name, made, is) later = if_none (IsEnteredIn new) (durable_receipt o) (ap durable_receipt is)

  -- the entries of all durable transactions are there, once the calls are made
  pub entered_all : (owner : Owner) (rs : List Request) (answers : List Answer) (old new : Handle Dev G) → MakesCalls owner rs answers old new → All (IsEnteredAs new) answers
  entered_all owner [] [] old new same = All-nil (IsEnteredAs new)
  entered_all owner (r ∷ rs) (a ∷ others) old new (next, numbered, made, rest) =
      All-cons (IsEnteredAs new) a others (entered_call owner r.call a.outcome old next new made (along_calls owner rs others next new rest)) (entered_all owner rs others next new rest)
  entered_all owner [] (a ∷ others) old new h = absurd h
  entered_all owner (r ∷ rs) [] old new h = absurd h

  -- the commit of an answer's receipt is durable, in what the handle has seen
  abbrev IsDurableNow : Handle Dev G → Answer → Type 0
  IsDurableNow now a = IfSome (durable_receipt a.outcome) (IsDurableIn now)

  by_flush : (old new : Handle Dev G) → LeavesAllDurable old new → (o : Option Receipt) → IfSome o (IsEnteredIn old) → IfSome o (IsDurableIn new)
  by_flush old new l None entered = tt
  by_flush old new l (Some r) entered =
      ∥∥₁_elim entered ∥∥₁_prop (λ there.
      ∥∥₁_elim l.onward.goes_on ∥∥₁_prop (λ onward.
      ∥∥₁_map {B = IsKnownDurable r.ordinal.0 r.group.0 (state_seen new)} l.durable (λ all.
      entered_durable r (viewed_state l.took) (state_seen new) all (stays_entered r (state_seen old) (viewed_state l.took) onward there))))

  along_asked : (e : PoolError) (m a : Answer) (old new : Handle Dev G) → Asks e m a old new → GoesAlong old new
  along_asked e m a old new (inl (none, same, still)) = along_same old new still
  along_asked e m a old new (inr (receipt, is, inl (same, made))) = along_made made
  along_asked e m a old new (inr (receipt, is, inr (other, made))) = along_made made

  along_all_asked : (e : PoolError) (ms answers : List Answer) (old new : Handle Dev G) → AsksAll e ms answers old new → GoesAlong old new
  along_all_asked e [] [] old new same = along_same old new same
  along_all_asked e (m ∷ ms) (a ∷ others) old new (next, asked, rest) = along_on old next new (along_asked e m a old next asked) (along_all_asked e ms others next new rest)
  along_all_asked e [] (a ∷ others) old new h = absurd h
  along_all_asked e (m ∷ ms) [] old new h = absurd h

  by_question : (e : PoolError) (m a : Answer) (old next new : Handle Dev G) → Asks e m a old next → GoesAlong next new → IsDurableNow new a
  by_question e m a old next new (inl (none, same, still)) later = if_none (IsDurableIn new) (durable_receipt a.outcome) (ap (λ (x : Answer). durable_receipt x.outcome) same ∙ none)
  by_question e m a old next new (inr (receipt, is, inl (same, made))) later =
      subst (λ (o : Option Receipt). IfSome o (IsDurableIn new)) (sym (ap (λ (x : Answer). durable_receipt x.outcome) same ∙ is))
      (∥∥₁_map {B = IsKnownDurable receipt.ordinal.0 receipt.group.0 (state_seen new)} (seen_made old old next new (along_same old old refl) made later) (durables_are_seen receipt (state_seen old) (state_seen new)))
  by_question e m a old next new (inr (receipt, is, inr (other, made))) later = if_none (IsDurableIn new) (durable_receipt a.outcome) (ap (λ (x : Answer). durable_receipt x.outcome) other)

  by_questions : (e : PoolError) (ms answers : List Answer) (old new : Handle Dev G) → AsksAll e ms answers old new → All (IsDurableNow new) answers
  by_questions e [] [] old new same = All-nil (IsDurableNow new)
  by_questions e (m ∷ ms) (a ∷ others) old new (next, asked, rest) = All-cons (IsDurableNow new) a others (by_question e m a old next new asked (along_all_asked e ms others next new rest)) (by_questions e ms others next new rest)
  by_questions e [] (a ∷ others) old new h = absurd h
  by_questions e (m ∷ ms) [] old new h = absurd h

  made_durable : (made answers : List Answer) (middle new : Handle Dev G) → All (IsEnteredAs middle) made → MakesDurable made answers middle new → All (IsDurableNow new) answers
  made_durable made answers middle new entered (inl (none, same, still)) =
      subst (All (IsDurableNow new)) (sym same) (λ k d below. if_none (IsDurableIn new) _ (none k d below))
  made_durable made answers middle new entered (inr (awaits, inl (same, flushes))) =
      subst (All (IsDurableNow new)) (sym same) (λ k d below. by_flush middle new flushes.1 _ (entered k d below))
  made_durable made answers middle new entered (inr (awaits, inr (e, flushed, refused, asked))) = by_questions e made answers flushed new asked

  -- the answers that say so are right
  pub durable_at_end : (owner : Owner) (rs : List Request) (made answers : List Answer) (old middle new : Handle Dev G) → MakesCalls owner rs made old middle → MakesDurable made answers middle new → All (IsDurableAs old new) answers
  durable_at_end owner rs made answers old middle new makes flushes = made_durable made answers middle new (entered_all owner rs made old middle makes) flushes

  along_made_durable : (made answers : List Answer) (old new : Handle Dev G) → MakesDurable made answers old new → GoesAlong old new
  along_made_durable made answers old new (inl (none, same, still)) = along_same old new still
  along_made_durable made answers old new (inr (awaits, inl (same, flushes))) = along_fsyncs (Ok tt) old new flushes.0
  along_made_durable made answers old new (inr (awaits, inr (e, flushed, refused, asked))) = along_on old flushed new (along_fsyncs (Err e) old flushed refused.0) (along_all_asked e made answers flushed new asked)
